-- `estimate_of` meets its contract, for every leg.
use Rattle.roads.proofs.Estimates.{estimate-length_0, estimate-idle, estimate-seconds}
use Rattle.roads.proofs.estimate_of.Goals as goal

pub returns-then-leg : goal.returns-then-leg
returns-then-leg c = estimate-length_0 c.args.leg c.if-leg.true

pub returns-then-leg-2 : goal.returns-then-leg-2
returns-then-leg-2 c = estimate-idle c.args.leg c.if-leg.false c.if-leg-2.true

pub returns : goal.returns
returns c = estimate-seconds c.args.leg c.if-leg.false c.if-leg-2.false
