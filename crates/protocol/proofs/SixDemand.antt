-- What document 02, F-4, asks to be shown of the six-round cycle, for the definitions that the contracts of starting, stepping and running cite.
use mathlib.Core.Path.{◌≡◌}
use mathlib.Core.Bool.{true}
use mathlib.Core.List.{List}
use Prim.Native.Nat.{ℕ, ◌+◌, ◌<◌}
use Rattle.radio.specs.Radio.{calm_for}
use Rattle.protocol.specs.declared.Fleet.{Fleet}
use Rattle.protocol.specs.Rules.{truck}
use Rattle.protocol.specs.Six.{is_prepare, six_rules}
use Rattle.protocol.specs.Runs.{radios_in}
use Rattle.protocol.specs.Fleets.{six_round}
use Rattle.protocol.specs.Claims.{EndedBy, calm_in, decides_in, SixDemand}
use Rattle.protocol.proofs.Demand.{Facts, demand_by}
use Rattle.protocol.proofs.SixRound.{sound-six}
use Rattle.protocol.proofs.SixWhole.{zero_agrees, calm-ends}

facts-six : Facts six_round
facts-six = record { sound = sound-six; agrees = zero_agrees; ends = calm-ends }

-- agreement, and decisions being openings, with zero complete marks; deciding in calm rounds; stepped or run the same
pub six-demand : SixDemand
six-demand = demand_by six_round facts-six

-- what its claim of deciding says in F-4's words: with calm from S with b for eleven rounds, S to S + 10, whose prepare rounds have senders where a truck runs, each
-- truck is decided or stopped by round S + 10
pub six_decided : (n : ℕ) (openings : List ℕ) (rounds : ℕ → List ℕ) (R : ℕ) (f : Fleet) → decides_in six_round n openings rounds R f
    → (S b : ℕ) → calm_for 10 is_prepare (radios_in six_rules n openings rounds) R S b ≡ true → (i : ℕ) → i < n → EndedBy (S + 10) (truck f.trucks i).state
unfolding calm_in
six_decided n openings rounds R f claim = claim
