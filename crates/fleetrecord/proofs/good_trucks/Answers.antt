-- `good_trucks` meets its contract: the loop holds whether every truck that it has passed is within the limits.
use mathlib.Core.Bool.{◌&&◌}
use mathlib.Core.Path.{◌≡◌, refl, ap, ap₂, ◌∙◌}
use Prim.Native.Nat.{◌<◌}
use native.Mathlib.Omega.{arith}
use native.Mathlib.Numerals.{add-one}
use borrow.Author.Rules.{rules}
use lib.ListN.{length}
use Rattle.std.proofs.lemmas.List.{get_or-take, length-take, length-take-le}
use Rattle.basics.specs.Lists.{all_below}
use Rattle.protocol.specs.Rules.{truck}
use Rattle.protocol.specs.Fleets.{chosen, good_truck_in}
use Rattle.fleetrecord.proofs.good_trucks.Goals as goal

pub loop-t-init : goal.loop-t-init
unfolding all_below
loop-t-init c = refl

pub loop-t-preserved : goal.loop-t-preserved
unfolding all_below
loop-t-preserved c =
    let a = c.args in
    let i = c.loop-t.t-index in
    let l : i < a.f.n = omega (arith, length-take a.f.n a.f.trucks) in
    rw (add-one i) (ap₂ ◌&&◌ c.loop-t.invariant (c.good_truck-ok.ensures ∙ ap (good_truck_in (chosen a.cycle) a.f.done) (get_or-take a.f.n a.f.trucks i _ l)))

pub returns : goal.returns
returns c =
    let f = c.args.f in
    let size : length f.trucks ≡ 32 = search rules in
    let past : c.loop-t.t-index ≡ f.n = omega (arith, length-take-le f.n f.trucks (omega arith)) in
    c.loop-t.invariant ∙ ap (all_below (λ i. good_truck_in (chosen c.args.cycle) f.done (truck f.trucks i))) past
