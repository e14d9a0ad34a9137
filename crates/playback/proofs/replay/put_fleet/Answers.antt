-- `put_fleet` meets its contract: the first loop puts the trucks' places, the second the others.
use mathlib.Core.Path.{◌≡◌}
use native.Mathlib.Omega.{arith}
use lib.ListN.{length-set}
use Rattle.basics.specs.Lists.{filled}
use Rattle.basics.proofs.Laws.{fill_length}
use Rattle.recordbytes.specs.Layout.{size_for, record_byte}
use Rattle.playback.specs.Standing.{built_by, fleet_by}
use Rattle.playback.proofs.Put.{puts_more, puts-all}
use Rattle.playback.proofs.replay.put_fleet.Invariants.{none}
use Rattle.playback.proofs.replay.put_fleet.Goals as goal
use Rattle.playback.proofs.replay.put_fleet.Goals.{After-loop-i-2}

-- what the bytes hold in the end
whole : (c : After-loop-i-2)
    → let a = c.args in
    let t = a.t.now in
    c.loop-i-2.d ≡ filled (record_byte (fleet_by a.counts t.openings a.b t.by t.ends t.sent)) (size_for 32) a.d.now
whole c =
    let z = c in
    let a = z.args in
    let t = a.t.now in
    let l = c.loop-i in
    let k = c.loop-i-2 in
    let n : c.places-n.result ≡ a.counts.trucks = omega (arith, z.requires.0, c.places-n.ensures) in
    let all : l.i ≡ a.counts.trucks = omega (arith, n, l.auto.i-end, c.loop-i-test.false) in
    let end : k.i ≡ 32 = omega (arith, z.requires.0, k.auto.i-end, c.loop-i-2-test.false) in
    puts-all a.counts t.openings a.b t.by t.ends t.sent a.d.now z.requires.0 z.requires.1
    l.d (rw (all, n) at l.invariant) k.d (rw (end, n) at k.invariant)

pub loop-i-init : goal.loop-i-init
loop-i-init c = λ f e room there start. start

pub loop-i-preserved : goal.loop-i-preserved
loop-i-preserved c =
    let z = c in
    let a = z.args in
    let b = a.t.now in
    let l = z.loop-i in
    let t = c.truck_at-truck in
    let p = c.put_in in
    puts_more (built_by b.openings a.b b.by b.ends b.sent) 0 _ _ l.i l.d l.invariant (omega arith) z.loop-i-test.true (omega (arith, z.requires.0, z.places-n.ensures)) t.result p.new.d t.ensures p.ensures

pub loop-i-2-init : goal.loop-i-2-init
loop-i-2-init c = λ f e room there start. start

pub loop-i-2-preserved : goal.loop-i-2-preserved
loop-i-2-preserved c =
    let z = c in
    let l = z.loop-i-2 in
    let p = c.put_in-in-loop-i-2 in
    puts_more none _ 32 _ l.i l.d l.invariant (omega arith) z.loop-i-2-test.true (omega arith) c.opened-truck.result p.new.d c.opened-truck.ensures p.ensures

pub shape_of-d : goal.shape_of-d
shape_of-d c = let z = c in fill_length _ z.args.d.now c.loop-i-2.d (size_for 32) (whole c) (omega (arith, z.requires.1))

pub bounds-d-1 : goal.bounds-d-1
bounds-d-1 c = simp length-set (omega arith)

pub bounds-d-2 : goal.bounds-d-2
bounds-d-2 c = simp length-set (omega arith)

pub returns : goal.returns
returns c = whole c
