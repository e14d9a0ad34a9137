-- `own_round` meets its contract: no own bit of the rounds that the loop has passed is 1.
use mathlib.Core.Path.{◌≡◌}
use Rattle.recording.specs.Packed.{bit_at, word_in}
use Rattle.recording.specs.Checks.{own_round}
use Rattle.recording.proofs.OwnBits.own_round.Given as goal

abbrev pub invariant-loop-r : goal.invariant-loop-r
invariant-loop-r l = own_round (word_in (bit_at l.self.bytes.now) l.self.trucks) l.self.trucks l.r ≡ l.r
