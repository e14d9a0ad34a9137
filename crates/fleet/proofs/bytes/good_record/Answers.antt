-- `good_record` meets its contract: a law for each return.
use mathlib.Core.Path.{ap, sym, ◌∙◌}
use Prim.Native.Nat.{ℕ}
use native.Mathlib.Omega.{arith}
use Rattle.basics.specs.Lists.{all_below}
use Rattle.protocol.specs.Rules.{truck}
use Rattle.protocol.specs.Fleets.{chosen, good_truck_in}
use Rattle.fleetrecord.proofs.Records.{bad_done, good-count}
use Rattle.recordbytes.specs.Layout.{record_of}
use Rattle.recordbytes.proofs.Places.{bytes_range, bytes-few}
use Rattle.fleet.proofs.bytes.good_record.Goals as goal

pub returns-then-done-gt400 : goal.returns-then-done-gt400
returns-then-done-gt400 c =
    let r = c.args.sound.now in
    sym (bad_done (chosen c.args.cycle) (record_of r.bytes.now) (bytes_range r.bytes.now r.sound) (omega (arith, c.if-done-gt400.true, c.done-done.ensures)))

pub returns : goal.returns
returns c =
    let r = c.args.sound.now in
    let f = record_of r.bytes.now in
    let P = chosen c.args.cycle in
    c.good_places.ensures
    ∙ ap (λ (k : ℕ). all_below (λ i. good_truck_in P k (truck f.trucks i)) f.n) c.done-done.ensures
    ∙ sym (good-count P f (bytes_range r.bytes.now r.sound) (omega (arith, c.if-done-gt400.false, c.done-done.ensures)))

pub good_places-requires : goal.good_places-requires
good_places-requires c = let r = c.args.sound.now in bytes-few r.bytes.now r.sound
