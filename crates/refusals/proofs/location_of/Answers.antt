-- `location_of` meets its contract: of the one refusal with a place by what its pattern says, of the others since theirs is another variant.
use mathlib.Core.Path.{ap, sym}
use Rattle.refusals.specs.Locations.{location_of}
use Rattle.refusals.proofs.Locations.{unnamed_by}
use Rattle.refusals.proofs.location_of.Goals as goal

pub returns-in_default : goal.returns-in_default
returns-in_default c = unnamed_by c.args.r c.in_default.not-OwnLoss

pub returns-in-OwnLoss : goal.returns-in-OwnLoss
returns-in-OwnLoss c = ap location_of (sym c.in-OwnLoss.is)
