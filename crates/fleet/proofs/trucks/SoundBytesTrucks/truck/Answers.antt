-- `truck` meets its contract.
use mathlib.Core.Path.{◌∙◌}
use Rattle.recordbytes.proofs.Places.{place_read}
use Rattle.fleet.proofs.trucks.SoundBytesTrucks.truck.Goals as goal

pub returns : goal.returns
returns c = let r = c.args.self.now in c.truck_in.ensures ∙ place_read r.bytes.now r.sound c.args.i c.requires.0
