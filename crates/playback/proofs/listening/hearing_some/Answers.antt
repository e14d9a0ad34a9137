-- `hearing_some` meets its contract.
use mathlib.Core.Path.{◌≡◌, refl, ap, ◌∙◌}
use mathlib.Core.Bool.{Bool, true, false, cond, not}
use Prim.Native.Nat.{ℕ, ◌*◌, ◌%◌, ◌^◌}
use mir.Val.{bool_byte}
use native.Mathlib.Omega.{arith}
use lib.Bits.{bit_or, or_zero_r}
use lib.Dec.{eqb}
use Rattle.sets.specs.Sets.{without}
use Rattle.playback.proofs.Asking.{next_is, asking-starts, asking_more, asking-done}
use Rattle.playback.proofs.listening.hearing_some.Invariants.{hears_some}
use Rattle.playback.proofs.listening.hearing_some.Goals as goal

pub loop-p-init : goal.loop-p-init
loop-p-init c =
    let a = c.args in
    rw (c.into_iter-p-iterator.ensures.into_iter_gives, c.members_of-p-items.ensures) (tt, tt, asking-starts a.wanted (hears_some a.s.now a.at a.n a.senders))

pub row_of-requires : goal.row_of-requires
row_of-requires c = (c.requires.0, (c.requires.1, c.in-Some.ensures.steps.below))

-- a bit moved to place p joins as the set of p does
joined : (b : Bool) (out k p : ℕ) → k ≡ bool_byte b → bit_or out (k * 2 ^ p % 2 ^ 32) ≡ cond b (bit_or out (2 ^ p % 2 ^ 32)) out
joined true out k p e = let one : 1 * 2 ^ p ≡ 2 ^ p = omega arith in rw (e, one) refl
joined false out k p e = let none : 0 * 2 ^ p % 2 ^ 32 ≡ 0 = omega arith in rw (e, none) (or_zero_r out)

pub loop-p-preserved : goal.loop-p-preserved
loop-p-preserved c =
    let a = c.args in
    let w = c.without-some in
    let next = next_is c.in-Some.ensures.steps refl in (
      tt,
      tt,
      asking_more a.wanted (hears_some a.s.now a.at a.n a.senders) next (not (eqb w.result 0))
          (ap (λ (x : ℕ). not (eqb x 0)) (w.ensures ∙ ap (without a.senders) c.row_of.ensures)) (joined _ c.loop-p.out c.from.result c.in-Some.p c.from.ensures) c.loop-p.invariant.2,
    )

pub returns : goal.returns
returns c = let a = c.args in asking-done a.wanted (hears_some a.s.now a.at a.n a.senders) c.loop-p.invariant.2 c.in-None.ensures.steps.0
