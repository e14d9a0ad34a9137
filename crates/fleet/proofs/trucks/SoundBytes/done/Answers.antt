-- `done` meets its contract.
use mathlib.Core.Path.{◌∙◌}
use Rattle.recordbytes.proofs.Places.{bytes-done}
use Rattle.fleet.proofs.trucks.SoundBytes.done.Goals as goal

pub returns : goal.returns
returns c = let r = c.args.self.now in c.pair.ensures ∙ bytes-done r.bytes.now r.sound
