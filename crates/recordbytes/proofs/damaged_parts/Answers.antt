-- `damaged_parts` meets its contract.
use mathlib.Core.Path.{sym, ◌∙◌}
use Rattle.recording.proofs.Accepted.{trucks_in_lem}
use Rattle.recordbytes.specs.Layout.{damaged_parts}
use Rattle.recordbytes.proofs.damaged_parts.Goals as goal

pub shared_ref_as_front-some_damaged : goal.shared_ref_as_front-some_damaged
shared_ref_as_front-some_damaged c = (trucks_in_lem _ (sym c.bad_trucks.ensures ∙ c.if-bad_trucks.false)).1

pub returns-then-bad_trucks : goal.returns-then-bad_trucks
unfolding damaged_parts
returns-then-bad_trucks c = rw (c.if-bad_trucks.true, sym c.bad_trucks.ensures ∙ c.if-bad_trucks.true)

pub returns-else-bad_trucks : goal.returns-else-bad_trucks
unfolding damaged_parts
returns-else-bad_trucks c = c.some_damaged.ensures ∙ rw (sym c.bad_trucks.ensures ∙ c.if-bad_trucks.false)
