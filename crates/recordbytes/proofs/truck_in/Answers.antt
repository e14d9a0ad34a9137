-- `truck_in` meets its contract.
use mathlib.Core.Path.{sym, ◌∙◌}
use Rattle.recordbytes.proofs.Laws.{place_short, place_past, truck-none, truck_had}
use Rattle.recordbytes.proofs.ByParts.{truck_here}
use Rattle.recordbytes.proofs.truck_in.Goals as goal
use Rattle.recordbytes.proofs.truck_in.Goals.{in_default-via-in-Some+else-i-lt-PLACES, in_default-via-in_default}

pub returns-in-Some : goal.returns-in-Some
returns-in-Some c =
    let i = c.args.i in
    let parts = c.in-Some.ensures in
    c.truck_of.ensures ∙ truck_here _ _ _ parts i c.if-i-lt-PLACES.true ∙ sym (truck_had c.args.d.now i parts.whole c.if-i-lt-PLACES.true)

pub returns-in_default : goal.returns-in_default
returns-in_default c =
    let a = c.args in
    elim c.in_default.branch [
      | in_default-via-in-Some+else-i-lt-PLACES w ↦ truck-none a.d.now a.i (place_past a.d.now a.i w.if-i-lt-PLACES.false) c.opened.result c.opened.ensures
      | in_default-via-in_default w ↦ truck-none a.d.now a.i (place_short a.d.now a.i w.in_default.ensures) c.opened.result c.opened.ensures
    ]
