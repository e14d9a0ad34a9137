-- `settle` meets its contract.
use mathlib.Core.Path.{◌≡◌, ap, sym, ◌∙◌}
use mathlib.Core.List.{List}
use Prim.Native.Nat.{ℕ}
use native.Mathlib.Omega.{arith}
use native.Mathlib.Nat.{le_refl}
use lib.Bits.{bit_and, bit_or}
use lib.ListN.{get_or}
use Rattle.basics.specs.Lists.{filled}
use Rattle.basics.proofs.Laws.{filled_none, fill_step, get_or-filled_past}
use Rattle.sets.specs.Sets.{without}
use Rattle.playback.specs.Listens.{settled}
use Rattle.playback.proofs.listening.settle.Goals as goal

pub loop-c-init : goal.loop-c-init
loop-c-init c = sym (filled_none _ _)

pub loop-c-preserved : goal.loop-c-preserved
loop-c-preserved c =
    let a = c.args in
    let l = c.loop-c in
    let here : get_or l.by l.c 0 ≡ get_or a.by.now l.c 0 =
    ap (λ (d : List ℕ). get_or d l.c 0) l.invariant ∙ get_or-filled_past (settled a.by.now a.taking.now a.changed) l.c a.by.now l.c 0 (le_refl l.c) in
    fill_step (settled a.by.now a.taking.now a.changed) a.by.now l.by l.c l.invariant _ (omega (arith, c.told-by))
    (ap (λ (x : ℕ). bit_or x (bit_and (get_or a.taking.now l.c 0) a.changed)) (c.without.ensures ∙ ap (λ (x : ℕ). without x a.changed) here))

pub returns : goal.returns
returns c =
    let a = c.args in
    let l = c.loop-c in
    l.invariant ∙ ap (λ (k : ℕ). filled (settled a.by.now a.taking.now a.changed) k a.by.now) (let e : l.c ≡ 16 = omega (arith, c.loop-c-test.false) in e)
