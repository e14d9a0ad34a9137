-- `bits_for` meets its contract: no product or sum wraps.
use Rattle.recording.specs.Packed.{bits_for}
use Rattle.recording.proofs.bits_for.Goals as goal

pub returns : goal.returns
unfolding bits_for
returns c = rw (c.from-n.ensures, c.from.ensures)
