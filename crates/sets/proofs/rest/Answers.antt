-- `rest` meets its contract.
use Rattle.sets.proofs.Words.{rest_wrapped}
use Rattle.sets.proofs.rest.Goals as goal

pub returns : goal.returns
returns c = rest_wrapped c.args.set c.ranges.set.fits
