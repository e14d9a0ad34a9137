-- `fastest_road` meets its contract: the loop holds that the road chosen so far is that of the roads passed.
use mathlib.Core.Path.{◌≡◌}
use Rattle.roads.specs.Choice.{chosen_below, estimate_at}
use Rattle.roads.proofs.fastest_road.Given as goal

abbrev pub invariant-loop-k : goal.invariant-loop-k
invariant-loop-k l = l.best ≡ chosen_below (estimate_at l.lengths l.metres l.seconds) l.k
