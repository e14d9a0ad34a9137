-- `six_rounds` meets its contract: before each turn of the loop the run stands after k rounds.
use mathlib.Core.Path.{◌≡◌}
use Prim.Native.Nat.{◌-◌, ◌≤◌}
use Rattle.recording.specs.Packed.{round_at}
use Rattle.protocol.specs.Six.{six_rules}
use Rattle.playback.specs.Replays.{FoundAfter}
use Rattle.playback.specs.Standing.{Due}
use Rattle.playback.proofs.six.six_rounds.Given as goal

abbrev pub invariant-loop-k : goal.invariant-loop-k
invariant-loop-k l =
    (l.k ≤ l.rounds) × (Due six_rules (round_at l.s) l.s l.at l.n (l.rounds - l.k) l.k l.t.by l.t.ends l.t.sent l.running l.decided 0 0 0 l.unwilling 0
    × (FoundAfter six_rules (round_at l.s) l.s l.judging l.k l.t.found × (l.t.openings ≡ l.initial.t.openings)))

abbrev pub decreases-loop-k : goal.decreases-loop-k
decreases-loop-k l = l.rounds - l.k
