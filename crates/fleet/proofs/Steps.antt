-- What an accepted step says of the record and of the round, in either cycle.
use mathlib.Core.Path.{◌≡◌}
use mathlib.Core.Bool.{Bool, true, false, not}
use mathlib.Core.List.{List}
use Prim.Native.Nat.{ℕ, ◌+◌, ◌≤◌, ◌<◌}
use native.Mathlib.Omega.{arith}
use borrow.Author.Tests.{leb-true, eq-eqb, ne_eqb, eqb-false, not-false}
use lib.Dec.{eqb}
use lib.ListN.{length}
use Rattle.std.specs.Prelude.{Ok, Err}
use Rattle.refusals.specs.declared.Refusal.TheVariants.{Record, RoundsDone}
use Rattle.refusals.specs.Outcomes.{Outcome, refuse}
use Rattle.refusals.proofs.Outcomes.{refuse-false, refuse-rest}
use Rattle.recording.specs.Checks.{round_check}
use Rattle.recording.proofs.Accepted.{trucks_in_lem}
use Rattle.recording.proofs.Rounds.{round-good}
use Rattle.protocol.specs.declared.Cycle.{Cycle}
use Rattle.protocol.specs.declared.Cycle.TheVariants.{TwoRound, SixRound}
use Rattle.protocol.specs.declared.Sent.{Sent}
use Rattle.protocol.specs.declared.Fleet.{Fleet}
use Rattle.protocol.specs.Rules.{truck}
use Rattle.protocol.specs.Fleets.{Protocol, chosen, good_fleet_in, step_check_in}
use Rattle.protocol.proofs.Good.{record_parts}
use Rattle.protocol.proofs.Rules.{counts-few}

-- the counts of a truck have room for one more, where the cycle counts
abbrev pub Room : Cycle → Sent → Type 0
Room TwoRound sent = (sent.proposals < 255) × (sent.vetoes < 255)
Room SixRound sent = Unit {0}

few-sent : (c : Cycle) (done : ℕ) (sent : Sent) → done ≤ 400 → (chosen c).good_counts done sent ≡ true → Room c sent
few-sent TwoRound done sent l h = let g = counts-few done sent l h in (omega (arith, g.0), omega (arith, g.1))
few-sent SixRound done sent l h = tt

-- what an accepted step says of the record and of the round
pub record StepGood (c : Cycle) (f : Fleet) (w : List ℕ) : Type 0 where
  pub most : f.n ≤ 32
  pub room : f.done < 400
  pub small : (j : ℕ) → j < f.n → (truck f.trucks j).estimate < 16
  pub counts : (j : ℕ) → j < f.n → Room c (truck f.trucks j).sent
  pub count : length w ≡ 3 + f.n

pub step_good : (c : Cycle) (f : Fleet) (w : List ℕ) → step_check_in (chosen c) f w ≡ Ok tt → StepGood c f w
unfolding step_check_in
step_good c f w h =
    let later : Outcome = refuse (eqb f.done 400) RoundsDone (round_check f.n (f.done + 1) w) in
    let passes : Bool = good_fleet_in (chosen c) f in
    let good = record_parts (chosen c) f (not-false passes (refuse-false (not passes) Record later h)) in
    let rest : later ≡ Ok tt = refuse-rest (not passes) Record later h in
    let full : f.done ≡ 400 → ⊥ = eqb-false f.done 400 (refuse-false (eqb f.done 400) RoundsDone (round_check f.n (f.done + 1) w) rest) in
    record {
      most = (trucks_in_lem f.n good.trucks).1;
      room = omega (arith, good.done);
      small = λ j l. omega (arith, leb-true (truck f.trucks j).estimate 15 (good.each j l).estimate);
      counts = λ j l. few-sent c f.done (truck f.trucks j).sent good.done (good.each j l).counts;
      count = (round-good f.n (f.done + 1) w (refuse-rest (eqb f.done 400) RoundsDone (round_check f.n (f.done + 1) w) rest)).count;
    }

-- what a step answers, test by test, in any protocol
module _ (p : Protocol) (f : Fleet) (w : List ℕ) where
  pub step_7 : good_fleet_in p f ≡ false → Err Record ≡ step_check_in p f w
  unfolding step_check_in
  step_7 h = rw h

  module _ (good : good_fleet_in p f ≡ true) where
    pub step_14 : f.done ≡ 400 → Err RoundsDone ≡ step_check_in p f w
    unfolding step_check_in
    step_14 h = rw (good, eq-eqb f.done 400 h)

    pub step_rest : (f.done ≡ 400 → ⊥) → round_check f.n (f.done + 1) w ≡ step_check_in p f w
    unfolding step_check_in
    step_rest h = rw (good, ne_eqb f.done 400 h)
