-- `good_places` meets its contract: the loop holds whether every truck that it has passed is within the limits.
use mathlib.Core.Bool.{◌&&◌}
use mathlib.Core.Path.{◌≡◌, refl, ap, ap₂, ◌∙◌}
use native.Mathlib.Omega.{arith}
use native.Mathlib.Numerals.{add-one}
use Rattle.basics.specs.Lists.{all_below}
use Rattle.protocol.specs.declared.Truck.{Truck}
use Rattle.protocol.specs.Rules.{truck}
use Rattle.protocol.specs.Fleets.{chosen, good_truck_in}
use Rattle.fleet.proofs.bytes.good_places.Goals as goal

pub loop-i-init : goal.loop-i-init
unfolding all_below
loop-i-init g c = refl

pub loop-i-preserved : goal.loop-i-preserved
unfolding all_below
loop-i-preserved g c =
    rw (add-one c.loop-i.i)
    (ap₂ ◌&&◌ c.loop-i.invariant
    (c.good_truck-ok.ensures ∙ ap (λ (t : Truck). good_truck_in (chosen c.args.cycle) c.args.done t) c.truck.ensures))

pub returns : goal.returns
returns g c =
    let f = g.R.Trucks.fleet c.args.trucks.now in
    c.loop-i.invariant
    ∙ ap (all_below (λ i. good_truck_in (chosen c.args.cycle) c.args.done (truck f.trucks i)))
    (let e : c.loop-i.i ≡ f.n = omega (arith, c.count-i-end.ensures, c.requires) in e)
