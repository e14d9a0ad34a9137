-- `with_trucks` meets its contract: the loop holds that the places passed are filled.
use mathlib.Core.Path.{ap, sym, ◌∙◌}
use mathlib.Core.List.{[]}
use Prim.Native.Nat.{ℕ}
use native.Mathlib.Omega.{arith}
use lib.ListN.{get_or}
use Rattle.basics.proofs.Laws.{filled_none, fill_step}
use Rattle.protocol.specs.declared.Fleet.{Fleet}
use Rattle.protocol.specs.Runs.{opened_trucks}
use Rattle.protocol.proofs.Opened.{length-opened}
use Rattle.recordbytes.proofs.Laws.{blank-trucks}
use Rattle.recordbytes.specs.Layout.{truck_of}
use Rattle.recordbytes.proofs.with_trucks.Goals as goal

pub loop-i-init : goal.loop-i-init
loop-i-init c =
    ap (λ (f : Fleet). f.trucks) c.blank.ensures ∙ blank-trucks ∙ sym (filled_none (λ (i : ℕ). truck_of (get_or c.args.places.now i [])) (opened_trucks []))

pub loop-i-preserved : goal.loop-i-preserved
loop-i-preserved c =
    let l = c.loop-i in
    fill_step (λ (i : ℕ). truck_of (get_or c.args.places.now i [])) (opened_trucks []) l.trucks l.i l.invariant c.truck_of.result (omega (arith, length-opened [])) c.truck_of.ensures
