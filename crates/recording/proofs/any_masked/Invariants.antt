-- `any_masked` meets its contract: the union is not 0 exactly where a byte that the loop has passed has a bit of the mask.
use mathlib.Core.Path.{◌≡◌}
use mathlib.Core.Bool.{not}
use lib.Dec.{eqb}
use Rattle.basics.specs.Lists.{some_below}
use Rattle.recording.proofs.Masks.{masked}
use Rattle.recording.proofs.any_masked.Given as goal

abbrev pub invariant-loop-j : goal.invariant-loop-j
invariant-loop-j l = not (eqb l.any 0) ≡ some_below (masked l.bytes l.mask) l.j
