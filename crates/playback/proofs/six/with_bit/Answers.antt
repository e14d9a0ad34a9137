-- `with_bit` meets its contract: the loop holds the trucks of the crushers so far.
use mathlib.Core.Path.{◌≡◌, refl, ap, sym, ◌∙◌}
use mathlib.Core.Bool.{Bool, true, false, cond, ◌&&◌, ◌||◌}
use Prim.Native.Nat.{ℕ}
use native.Mathlib.Omega.{arith}
use lib.Bits.{bit_or}
use lib.ListN.{get_or}
use mathlib.Core.List.{List}
use Rattle.basics.specs.Bits.{bit}
use Rattle.basics.specs.Lists.{some_below}
use Rattle.basics.proofs.Laws.{some-none, some_more}
use Rattle.basics.proofs.Bits.{bit-or}
use Rattle.sets.proofs.Words.{bit-zero}
use Rattle.playback.proofs.six.with_bit.Invariants.{has}
use Rattle.playback.proofs.six.with_bit.Goals as goal

-- one crusher more
joined : (by : List ℕ) (b out c p : ℕ) (x : Bool) → x ≡ bit c b → bit out p ≡ some_below (has by b p) c
    → bit (cond x (bit_or out (get_or by c 0)) out) p ≡ (some_below (has by b p) c || has by b p c)
joined by b out c p true e h = bit-or out (get_or by c 0) p ∙ ap (λ (y : Bool). y || bit (get_or by c 0) p) h ∙ ap (λ (y : Bool). some_below (has by b p) c || (y && bit (get_or by c 0) p)) e
joined by b out c p false e h = h ∙ plain (some_below (has by b p) c) ∙ ap (λ (y : Bool). some_below (has by b p) c || (y && bit (get_or by c 0) p)) e
  where
    plain : (y : Bool) → y ≡ (y || false)
    plain true = refl
    plain false = refl

pub loop-c-init : goal.loop-c-init
loop-c-init c = λ p l. bit-zero p ∙ sym (some-none (has c.args.by.now c.args.b p))

pub loop-c-preserved : goal.loop-c-preserved
loop-c-preserved c =
    let a = c.args in
    let o = c.loop-c in
    λ p l.
    ap (λ (x : ℕ). bit x p) c.union_where-out.ensures
    ∙ joined a.by.now a.b o.out o.c p (bit o.c a.b) refl (o.invariant p l)
    ∙ some_more (has a.by.now a.b p) o.c

pub returns : goal.returns
returns c =
    let o = c.loop-c in
    let e : o.c ≡ 16 = omega (arith, o.auto.c-end, c.loop-c-test.false) in
    λ p l. o.invariant p l ∙ ap (some_below (has c.args.by.now c.args.b p)) e
