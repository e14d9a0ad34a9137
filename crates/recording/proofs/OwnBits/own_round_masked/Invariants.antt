-- `own_round_masked` meets its contract: no own bit of the rounds that the loop has passed is 1.
use mathlib.Core.Path.{◌≡◌}
use Rattle.recording.specs.Packed.{bit_at, word_in}
use Rattle.recording.specs.Checks.{own_round}
use Rattle.recording.proofs.OwnBits.own_round_masked.Given as goal

abbrev pub invariant-loop-round : goal.invariant-loop-round
invariant-loop-round l = own_round (word_in (bit_at l.self.bytes.now) l.self.trucks) l.self.trucks l.round ≡ l.round
