-- `fleet_of` meets its contract: the loop holds the record with the trucks so far.
use mathlib.Core.Path.{ap, ap₂, sym, ◌∙◌}
use mathlib.Core.List.{List, []}
use Prim.Native.Nat.{ℕ}
use native.Mathlib.Omega.{arith}
use lib.ListN.{length}
use Rattle.basics.specs.Lists.{filled}
use Rattle.basics.proofs.Laws.{filled_none, fill_step}
use Rattle.protocol.specs.declared.Fleet.{Fleet}
use Rattle.protocol.specs.declared.Truck.{Truck}
use Rattle.protocol.specs.Fleets.{blank}
use Rattle.protocol.proofs.Opened.{length-opened}
use Rattle.playback.specs.Standing.{built_by}
use Rattle.playback.proofs.replay.fleet_of.Goals as goal

pub loop-i-init : goal.loop-i-init
loop-i-init c =
    let a = c.args in
    let t = a.t.now in
    sym (filled_none (built_by t.openings a.b t.by t.ends t.sent) c.blank-none.result.trucks)

pub loop-i-preserved : goal.loop-i-preserved
unfolding blank
loop-i-preserved c =
    let z = c in
    let a = z.args in
    let t = a.t.now in
    let g = c.blank-none in
    let l = c.loop-i in
    fill_step (built_by t.openings a.b t.by t.ends t.sent) g.result.trucks l.trucks l.i l.invariant c.truck_at.result
    (omega (arith, z.requires, ap (λ (f : Fleet). length f.trucks) g.ensures, length-opened []))
    c.truck_at.ensures

pub returns : goal.returns
unfolding blank
returns c =
    let a = c.args in
    let t = a.t.now in
    let l = c.loop-i in
    ap (λ (x : List Truck). record { n = a.counts.trucks; done = a.counts.rounds; trucks = x })
    (l.invariant
    ∙ ap₂ (λ (i : ℕ) (x : List Truck). filled (built_by t.openings a.b t.by t.ends t.sent) i x)
    (omega (arith, c.requires, c.places-i-end.ensures, l.auto.i-end, c.loop-i-test.false)) (ap (λ (f : Fleet). f.trucks) c.blank-none.ensures))
