-- `good_trucks` meets its contract: the loop holds whether every truck that it has passed is within the limits.
use mathlib.Core.Path.{◌≡◌}
use Rattle.basics.specs.Lists.{all_below}
use Rattle.protocol.specs.Rules.{truck}
use Rattle.protocol.specs.Fleets.{chosen, good_truck_in}
use Rattle.fleetrecord.proofs.good_trucks.Given as goal

abbrev pub invariant-loop-t : goal.invariant-loop-t
invariant-loop-t l = l.ok ≡ all_below (λ j. good_truck_in (chosen l.cycle) l.fn.f.done (truck l.fn.f.trucks j)) l.t-index
