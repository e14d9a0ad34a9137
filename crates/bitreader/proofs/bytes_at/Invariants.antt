-- `bytes_at` meets its contract: the loop holds the number that the bytes so far make.
use mathlib.Core.Path.{◌≡◌}
use Rattle.bitreader.specs.Ways.{bytes_from}
use Rattle.bitreader.proofs.bytes_at.Given as goal

abbrev pub invariant-loop-i : goal.invariant-loop-i
invariant-loop-i l = l.v ≡ bytes_from l.s l.b l.i
