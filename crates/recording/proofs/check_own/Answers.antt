-- `check_own` meets its contract, by the earliest round in which an own bit is 1.
use mathlib.Core.Path.{◌≡◌, refl, sym, subst}
use mathlib.Core.Bool.{true, ◌&&◌}
use Prim.Native.Nat.{ℕ, ◌+◌, ◌%◌, ◌<◌}
use borrow.Author.Rules.{rules}
use native.Mathlib.Omega.{arith}
use borrow.Author.Tests.{eqb-true}
use lib.Dec.{leb, ltb, eqb}
use Rattle.basics.proofs.Laws.{and_right}
use Rattle.std.specs.Prelude.{Option, Some, None, IsSome, Err}
use Rattle.recording.specs.Packed.{bit_at, word_in}
use Rattle.refusals.specs.declared.Refusal.TheVariants.{OwnLoss}
use Rattle.recording.specs.Checks.{Found, own_in, own_round, own_truck, own_loss_check}
use Rattle.recording.proofs.OwnLoss.{own_on, own_there, own_found, own-ends, truck_there}
use Rattle.recording.proofs.check_own.Goals as goal
use Rattle.recording.proofs.check_own.Goals.{Joined-trucks-rounds, then-trucks-rounds, else-trucks-rounds}

-- what either search came to
found : (c : Joined-trucks-rounds)
    → Found c.if-trucks-rounds.found (own_round (word_in (bit_at c.args.s.now) c.args.trucks) c.args.trucks c.args.rounds) c.args.rounds
found c =
    let P : Option ℕ → Type 0 = λ o. Found o (own_round (word_in (bit_at c.args.s.now) c.args.trucks) c.args.trucks c.args.rounds) c.args.rounds in
    elim c.if-trucks-rounds.branch [
      | then-trucks-rounds w ↦ subst P (sym w.found-is) w.own_round_masked-found.ensures
      | else-trucks-rounds w ↦ subst P (sym w.found-is) w.own_round-found.ensures
    ]

-- a search for a number below m finds it
is-found : (o : Option ℕ) (k m : ℕ) → Found o k m → k < m → IsSome o
is-found None k m e l = absurd (omega arith)
is-found (Some i) k m e l = search rules

-- in the round that was found a truck has an own bit that is 1
module _ (word : ℕ → ℕ) (n R r : ℕ) (h : Found (Some r) (own_round word n R) R) where
  in_round : own_in word n r ≡ true
  in_round = own_there word n R r (sym h.1) h.0

  named : (round truck : ℕ) → own_truck word n r ≡ truck → round ≡ 1 + r → Err (OwnLoss round truck) ≡ own_loss_check word n 1 R
  named round truck t e = own_found word n 1 R r round truck h.0 (own_on word n R r (sym h.1)).1 in_round t e

pub own_round_masked-found-requires : goal.own_round_masked-found-requires
own_round_masked-found-requires c =
    let a = c.args in
    let bits = c.round_bits.result in
    omega (arith, eqb-true (bits % 8) 0 (and_right (leb 16 a.trucks && ltb 1 a.rounds) (eqb (bits % 8) 0) c.if-trucks-rounds.true))

pub returns-in_default : goal.returns-in_default
returns-in_default c =
    let a = c.args in
    let h = found (goal.at.returns-in_default c).Joined-trucks-rounds in
    own-ends (word_in (bit_at a.s.now) a.trucks) a.trucks 1 a.rounds a.rounds refl (subst (λ (o : Option ℕ). Found o (own_round (word_in (bit_at a.s.now) a.trucks) a.trucks a.rounds) a.rounds) c.in_default.is h)

pub unwrap-requires : goal.unwrap-requires
unwrap-requires c =
    let a = c.args in
    let word = word_in (bit_at a.s.now) a.trucks in
    let h = found (goal.at.unwrap-requires c).Joined-trucks-rounds in
    let there : Found (Some c.in-Some.r) (own_round word a.trucks a.rounds) a.rounds = rw c.in-Some.is at h in
    is-found c.own_truck.result _ _ c.own_truck.ensures (truck_there word a.trucks c.in-Some.r (in_round word a.trucks a.rounds c.in-Some.r there))

pub returns : goal.returns
returns c =
    let a = c.args in
    let word = word_in (bit_at a.s.now) a.trucks in
    let h = found (goal.at.returns c).Joined-trucks-rounds in
    let there : Found (Some c.in-Some.r) (own_round word a.trucks a.rounds) a.rounds = rw c.in-Some.is at h in
    let truck = subst (λ (o : Option ℕ). Found o (own_truck word a.trucks c.in-Some.r) a.trucks) c.unwrap.ensures c.own_truck.ensures in
    named word a.trucks a.rounds c.in-Some.r there (c.in-Some.r + 1) c.unwrap.result truck.1 (omega arith)
