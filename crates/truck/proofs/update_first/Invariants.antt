-- The loop holds the fleet of which the trucks that it has passed are brought up to date.
use Rattle.std.proofs.Common.{◌≡◌}
use Rattle.truck.specs.Events.{updated_first}
use Rattle.truck.proofs.update_first.Given as goal

abbrev pub invariant-loop-i : goal.invariant-loop-i
invariant-loop-i l = l.f ≡ updated_first l.fn.f l.i l.round l.events
