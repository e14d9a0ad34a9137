-- `count` meets its contract.
use mathlib.Core.Path.{ap, ◌∙◌}
use Prim.Native.Nat.{ℕ, min}
use Rattle.recordbytes.proofs.Places.{bytes-n}
use Rattle.fleet.proofs.trucks.SoundBytesTrucks.count.Goals as goal

pub returns : goal.returns
returns c = let r = c.args.self.now in c.places.ensures ∙ ap (λ (n : ℕ). min n 32) (bytes-n r.bytes.now r.sound)
