-- `own_any` meets its contract: the union is not 0 exactly where a truck that the loop has passed has its own bit set.
use Rattle.std.proofs.Common.{◌≡◌}
use Rattle.basics.specs.Lists.{some_below}
use Rattle.recording.specs.Checks.{high_bit}
use Rattle.plain.specs.Steps.{own_in_rows}
use Rattle.plain.proofs.own_any.Given as goal

abbrev pub invariant-loop-i : goal.invariant-loop-i
invariant-loop-i l = high_bit 0 l.any ≡ some_below (own_in_rows l.rows) l.i
