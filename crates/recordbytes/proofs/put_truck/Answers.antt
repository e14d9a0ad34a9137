-- `put_truck` meets its contract: the loop holds that the bytes passed are in the buffer.
use mathlib.Core.Path.{◌≡◌, ap, ap₂, ◌∙◌}
use mathlib.Core.List.{List}
use Prim.Native.Nat.{ℕ, suc, ◌+◌}
use native.Mathlib.Omega.{arith}
use lib.ListN.{get_or, set, take}
use Rattle.std.proofs.lemmas.List.Edits.{sets}
use Rattle.recordbytes.specs.Layout.{truck_bytes}
use Rattle.recordbytes.proofs.Laws.{sets_more}
use Rattle.recordbytes.proofs.put_truck.Goals as goal

pub loop-i-preserved : goal.loop-i-preserved
loop-i-preserved c =
    let a = c.args in
    let i = c.loop-i.i in
    ap₂ (λ (x y : List ℕ). set x (a.at + i) (get_or y i 0)) c.loop-i.invariant c.truck_bytes.ensures
    ∙ sets_more (truck_bytes a.t) a.d.now a.at i (omega arith)
    ∙ ap (λ (k : ℕ). sets a.d.now a.at (take k (truck_bytes a.t))) (let e : suc i ≡ i + 1 = omega arith in e)
