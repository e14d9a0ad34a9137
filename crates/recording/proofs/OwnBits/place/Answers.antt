-- `place` meets its contract: the rounds stand one after the other.
use native.Mathlib.Omega.{arith}
use Rattle.recording.proofs.OwnBits.place.Goals as goal

pub returns : goal.returns
returns c = rw (c.word_place.ensures, c.from.ensures, c.round_bits.ensures) (omega arith)
