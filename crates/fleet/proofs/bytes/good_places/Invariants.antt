-- `good_places` meets its contract: the loop holds whether every truck that it has passed is within the limits.
use mathlib.Core.Path.{◌≡◌}
use Rattle.basics.specs.Lists.{all_below}
use Rattle.protocol.specs.Rules.{truck}
use Rattle.protocol.specs.Fleets.{chosen, good_truck_in}
use Rattle.fleet.proofs.bytes.good_places.Given as goal

abbrev pub invariant-loop-i : goal.invariant-loop-i
invariant-loop-i g l = l.ok ≡ all_below (λ j. good_truck_in (chosen l.cycle) l.done (truck (g.R.Trucks.fleet l.trucks).trucks j)) l.i
