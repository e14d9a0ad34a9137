-- `own_any` meets its contract: the union is not 0 exactly where a truck that the loop has passed has its own bit set.
use mathlib.Core.Path.{ap, ap₂, sym, ◌∙◌}
use mathlib.Core.Bool.{◌||◌}
use Prim.Native.Nat.{ℕ, ◌*◌, ◌%◌, ◌^◌}
use native.Mathlib.Omega.{arith}
use lib.Bits.{bit_and}
use lib.ListN.{get_or}
use Rattle.basics.specs.Lists.{some_below}
use Rattle.basics.proofs.Laws.{some-none, some_more}
use Rattle.recording.specs.Checks.{high_bit}
use Rattle.plain.specs.Steps.{own_in_rows}
use Rattle.plain.proofs.Tests.{high_zero, high_or, bit-alone}
use Rattle.plain.proofs.own_any.Goals as goal

pub loop-i-init : goal.loop-i-init
loop-i-init c = high_zero 0 ∙ sym (some-none (own_in_rows c.args.rows.now))

pub loop-i-preserved : goal.loop-i-preserved
loop-i-preserved c =
    let rows = c.args.rows.now in
    let l = c.loop-i in
    let w : ℕ = get_or rows l.i 0 in
    high_or 0 l.any (bit_and w (1 * 2 ^ l.i % 2 ^ 32)) ∙ ap₂ ◌||◌ l.invariant (bit-alone w l.i (omega arith)) ∙ some_more (own_in_rows rows) l.i

pub returns : goal.returns
unfolding high_bit
returns c = c.loop-i.invariant ∙ ap (some_below (own_in_rows c.args.rows.now)) (omega arith)
