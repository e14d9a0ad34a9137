-- `without` meets its contract: a word and the bits that another lacks.
use Rattle.sets.proofs.Words.{and_not}
use Rattle.sets.proofs.without.Goals as goal

pub returns : goal.returns
returns c = let z = c in and_not z.args.set z.args.other z.ranges.set.fits z.ranges.other.fits
