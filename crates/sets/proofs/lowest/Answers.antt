-- `lowest` meets its contract.
use mathlib.Core.Path.{refl}
use Rattle.sets.proofs.Words.{positive, trailing_bit}
use Rattle.sets.proofs.lowest.Goals as goal

pub returns : goal.returns
returns c = (refl, λ some. trailing_bit 32 c.args.set (positive c.args.set some) c.ranges.set.fits)
