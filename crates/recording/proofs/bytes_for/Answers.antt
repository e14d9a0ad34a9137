-- `bytes_for` meets its contract.
use native.Mathlib.Omega.{arith}
use Rattle.recording.specs.Packed.{bytes_for}
use Rattle.recording.proofs.bytes_for.Goals as goal

pub returns : goal.returns
unfolding bytes_for
returns c = omega (arith, c.div_ceil.ensures, c.bits_for.ensures)
