-- `step_in` meets its contract.
use mathlib.Core.Path.{ap, sym, ◌∙◌}
use Rattle.std.specs.Prelude.{Ok}
use Rattle.protocol.specs.declared.Fleet.{Fleet}
use Rattle.protocol.specs.Fleets.{answer, chosen, next_fleet_in, stepped_in}
use Rattle.fleet.proofs.step_in.Goals as goal
use Rattle.refusals.specs.Outcomes.{Outcome}

pub next_fleet-requires : goal.next_fleet-requires
next_fleet-requires c = sym c.check_step.ensures ∙ c.in-Ok.is

pub returns-in-Ok : goal.returns-in-Ok
unfolding stepped_in
returns-in-Ok c =
    let k = c.check_step in
    let a = c.args in
    ap (λ (g : Fleet). answer (Ok tt) g a.f) c.next_fleet.ensures
    ∙ ap (λ (o : Outcome). answer o (next_fleet_in (chosen a.cycle) a.f a.words.now) a.f) (sym (sym k.ensures ∙ c.in-Ok.is))

pub returns-in-Err : goal.returns-in-Err
unfolding stepped_in
returns-in-Err c = rw (sym c.check_step.ensures ∙ c.in-Err.is)
