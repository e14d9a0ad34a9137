-- `turn_places` meets its contract: the loop holds that the head and the places passed are up to date.
use Prim.Native.Nat.{◌<◌}
use native.Mathlib.Omega.{arith}
use lib.ListN.{length-set}
use Rattle.recordbytes.specs.Layout.{record_of}
use Rattle.recordbytes.proofs.Places.{bytes_whole, bytes-few}
use Rattle.fleet.proofs.ByPlaces.{places_end, turn_holds, turn-length, turn_more, turn-done}
use Rattle.fleet.proofs.bytes.turn_places.Goals as goal

pub loop-i-init : goal.loop-i-init
unfolding record_of
loop-i-init c =
    let a = c.args in
    let r = a.round.now in
    turn_holds r.phase r.words.now r.senders r.values.now a.done a.d.now c.requires.0

pub loop-i-preserved : goal.loop-i-preserved
unfolding record_of
loop-i-preserved c =
    let a = c.args in
    let r = a.round.now in
    let o = c.loop-i in
    let below : o.i < (record_of a.d.now).n = omega (arith, c.loop-i-test.true, places_end a.d.now c.requires.0 c.places-i-end.ensures) in
    turn_more r.phase r.words.now r.senders r.values.now a.done a.d.now c.requires.0 o.d o.i (omega (arith, below)) o.invariant below
    c.truck_in-t.result c.updated-next.result c.event_by-event.result c.put_in.new.d
    c.truck_in-t.ensures c.event_by-event.ensures c.updated-next.ensures c.put_in.ensures

pub shape_of-d : goal.shape_of-d
unfolding record_of
shape_of-d c =
    let a = c.args in
    let r = a.round.now in
    let o = c.loop-i in
    turn-length r.phase r.words.now r.senders r.values.now a.done a.d.now c.requires.0 o.d o.i (omega (arith, places_end a.d.now c.requires.0 c.places-i-end.ensures)) o.invariant

pub returns : goal.returns
unfolding record_of
returns c =
    let a = c.args in
    let r = a.round.now in
    let d = a.d.now in
    let o = c.loop-i in
    turn-done r.phase r.words.now r.senders r.values.now a.done d c.requires.0 o.d o.i (omega (arith, places_end d c.requires.0 c.places-i-end.ensures)) o.invariant
    (omega (arith, places_end d c.requires.0 c.places-i-end.ensures))

pub event_by-event-requires : goal.event_by-event-requires
event_by-event-requires c =
    let d = c.args.d.now in
    let below : c.loop-i.i < (record_of d).n = omega (arith, c.loop-i-test.true, places_end d c.requires.0 c.places-i-end.ensures) in
    (omega (arith, below, bytes-few d c.requires.0), omega (arith, below, c.requires.1))

pub bounds-d-1 : goal.bounds-d-1
bounds-d-1 c = simp length-set (omega (arith, bytes_whole c.args.d.now c.requires.0))

pub bounds-d-2 : goal.bounds-d-2
bounds-d-2 c = simp length-set (omega (arith, bytes_whole c.args.d.now c.requires.0))
