-- The whole of demand 3, for the definitions that the contracts of starting, stepping and running cite, and agreement with cheaper marks, from which its agreement
-- part follows.
use mathlib.Core.Path.{◌≡◌, refl}
use mathlib.Core.Bool.{Bool, true, false}
use mathlib.Core.List.{List}
use Prim.Native.Nat.{ℕ, ◌+◌, ◌<◌}
use Rattle.basics.specs.Bits.{odd}
use Rattle.radio.specs.Radio.{Radio, majority_complete}
use Rattle.radio.proofs.Laws.{majority_zero}
use Rattle.protocol.specs.declared.Fleet.{Fleet}
use Rattle.protocol.specs.Rules.{truck}
use Rattle.protocol.specs.Runs.{radio_at, calm}
use Rattle.protocol.specs.Fleets.{two_worth, two_round}
use Rattle.protocol.specs.Claims.{EndedBy, agrees_with, MarksIn, calm_in, decides_in, DemandIn, MajorityMarks, MixedMarks, Demand, MajorityAgreement, MixedAgreement}
use Rattle.protocol.proofs.OneRound.{sound_two}
use Rattle.protocol.proofs.Whole.{mixed_agrees, calm-ends}
use Rattle.protocol.proofs.Demand.{Facts, holds_of, demand_by}

facts_two : Facts two_round
facts_two =
    record {
      sound = sound_two;
      agrees = λ n openings rounds R small good. mixed_agrees n openings rounds small R;
      ends = calm-ends;
    }

-- the claim for any cycle, of this one
demand_two : DemandIn two_round (MarksIn two_round two_round.worth)
demand_two = demand_by two_round facts_two

-- agreement, and decisions being openings, with marks that are majority complete in odd rounds and zero complete in even ones
pub mixed_agreement : MixedAgreement
mixed_agreement = demand_two.agreement

-- majority complete marks are mixed marks
pub majority_mixed : (n : ℕ) (openings : List ℕ) (rounds : ℕ → List ℕ) (R : ℕ) → MajorityMarks n openings rounds R → MixedMarks n openings rounds R
majority_mixed n openings rounds R marks k l m = go (radio_at n openings rounds k) (odd k) refl (marks k l m)
  where
    go : (a : Radio) (b : Bool) → odd k ≡ b → majority_complete a ≡ true → two_worth k a ≡ true
    go a true e h = rw e h
    go a false e h = rw e (majority_zero a h)

-- so the agreement part of demand 3 follows
pub majority_agreement : MixedAgreement → MajorityAgreement
majority_agreement =
    holds_of two_round (agrees_with MixedMarks) (agrees_with MajorityMarks) (λ n openings rounds R f agrees marks. agrees (majority_mixed n openings rounds R marks))

-- demand 3
pub demand_3 : Demand
demand_3 = record { agreement = majority_agreement mixed_agreement; deciding = demand_two.deciding; same = demand_two.same }

-- what its claim of deciding says in document 01's words: with calm from S with b, rounds S to S + 4, each truck is decided or stopped by round S + 4
pub claim_decided : (n : ℕ) (openings : List ℕ) (rounds : ℕ → List ℕ) (R : ℕ) (f : Fleet) → decides_in two_round n openings rounds R f
    → (S b : ℕ) → calm n openings rounds R S b ≡ true → (i : ℕ) → i < n → EndedBy (S + 4) (truck f.trucks i).state
unfolding calm calm_in
claim_decided n openings rounds R f claim = claim
