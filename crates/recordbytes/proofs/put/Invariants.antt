-- `put` meets its contract: the loop holds that the head and the places passed are in the buffer.
use mathlib.Core.Path.{◌≡◌}
use Rattle.basics.specs.Lists.{filled}
use Rattle.recordbytes.specs.Layout.{size_for, record_byte}
use Rattle.recordbytes.proofs.put.Given as goal

abbrev pub invariant-loop-i : goal.invariant-loop-i
invariant-loop-i l = l.d ≡ filled (record_byte l.f) (size_for l.i) l.fn.d
