-- `put_truck` meets its contract: the loop holds that the bytes passed are in the buffer.
use mathlib.Core.Path.{◌≡◌}
use lib.ListN.{take}
use Rattle.std.proofs.lemmas.List.Edits.{sets}
use Rattle.recordbytes.specs.Layout.{truck_bytes}
use Rattle.recordbytes.proofs.put_truck.Given as goal

abbrev pub invariant-loop-i : goal.invariant-loop-i
invariant-loop-i l = l.d ≡ sets l.fn.d l.at (take l.i (truck_bytes l.fn.t))
