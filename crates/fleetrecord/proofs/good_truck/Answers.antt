-- `good_truck` meets its contract.
use mathlib.Core.Path.{◌≡◌, refl, ap₂, ◌∙◌}
use mathlib.Core.Bool.{Bool, true, false, ◌&&◌}
use Prim.Native.Nat.{ℕ}
use lib.Dec.{leb}
use Rattle.protocol.specs.declared.Truck.{Truck}
use Rattle.protocol.specs.Fleets.{Protocol, chosen, good_state_in, good_truck_in}
use Rattle.fleetrecord.proofs.good_truck.Goals as goal

and_assoc : (a b c : Bool) → (a && (b && c)) ≡ (a && b && c)
and_assoc true b c = refl
and_assoc false b c = refl

-- what is asked of a truck, its memory and counts at once
by-rest : (p : Protocol) (done : ℕ) (t : Truck)
    → (leb t.opening 15 && leb t.estimate 15 && good_state_in p done t.state && (p.good_memory done t && p.good_counts done t.sent)) ≡ good_truck_in p done t
unfolding good_truck_in
by-rest p done t = and_assoc (leb t.opening 15 && leb t.estimate 15 && good_state_in p done t.state) (p.good_memory done t) (p.good_counts done t.sent)

pub returns : goal.returns
returns c =
    let a = c.args in
    ap₂ (λ (x y : Bool). leb a.t.opening 15 && leb a.t.estimate 15 && x && y) c.good_state.ensures c.good_rest.ensures
    ∙ by-rest (chosen a.cycle) a.done a.t
