-- `read_front` meets its contract: the openings read so far stand in their places, and the reader is at the place of the next one.
use Rattle.std.proofs.Common.{◌≡◌, ◌++◌, drop}
use Rattle.basics.specs.Lists.{filled}
use Rattle.recording.specs.Packed.{opening_at, opening_place}
use Rattle.recording.proofs.read_front.Given as goal

abbrev pub invariant-loop-opening : goal.invariant-loop-opening
invariant-loop-opening l =
    (l.r.bytes.now ≡ l.s) × (l.r.at ≡ opening_place l.opening-index)
    × (l.opening-items ++ drop l.end l.fn.openings ≡ filled (opening_at l.s) l.opening-index l.fn.openings)
