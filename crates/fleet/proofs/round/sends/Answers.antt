-- `sends` meets its contract.
use mathlib.Core.Path.{ap₂}
use mathlib.Core.Bool.{Bool, not, ◌&&◌}
use Rattle.fleet.proofs.round.sends.Goals as goal

pub returns : goal.returns
returns c = ap₂ (λ (x y : Bool). x && not c.args.stop && y) c.runs.ensures c.message-has.ensures
