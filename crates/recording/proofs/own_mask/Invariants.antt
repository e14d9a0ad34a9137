-- `own_mask` meets its contract: the bits of the mask are those of the trucks that the loop has passed.
use mathlib.Core.Path.{◌≡◌}
use lib.ListN.{length}
use Rattle.recording.proofs.Masks.{OwnMask}
use Rattle.recording.proofs.own_mask.Given as goal

abbrev pub invariant-loop-i : goal.invariant-loop-i
invariant-loop-i l = (length l.mask ≡ 136) × OwnMask l.mask l.at l.n l.i
