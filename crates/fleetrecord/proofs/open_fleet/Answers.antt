-- `open_fleet` meets its contract: the loop holds the fleet of which the trucks that it has passed have opened.
use native.Mathlib.Omega.{arith}
use Rattle.fleetrecord.proofs.Records.{open-starts, open_more, open_done}
use Rattle.fleetrecord.proofs.open_fleet.Goals as goal

pub loop-i-init : goal.loop-i-init
loop-i-init c = open-starts c.args.n c.args.openings.now c.blank-f.result c.blank-f.ensures

pub loop-i-preserved : goal.loop-i-preserved
loop-i-preserved c =
    let i = c.loop-i in
    open_more c.args.n c.args.openings.now i.f i.i c.opened.result i.invariant c.opened.ensures (omega arith)

pub returns : goal.returns
returns c =
    let i = c.loop-i in
    open_done c.args.n c.args.openings.now i.f i.i i.invariant (omega arith) (omega arith)
