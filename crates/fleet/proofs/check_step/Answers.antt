-- `check_step` meets its contract.
use mathlib.Core.Path.{sym, ◌∙◌}
use native.Mathlib.Omega.{arith}
use Rattle.protocol.specs.Fleets.{chosen}
use Rattle.protocol.proofs.Good.{record_parts}
use Rattle.fleet.proofs.Steps.{step_7, step_14, step_rest}
use Rattle.fleet.proofs.check_step.Goals as goal

pub returns-then-not-good_fleet : goal.returns-then-not-good_fleet
returns-then-not-good_fleet c = let a = c.args in step_7 (chosen a.cycle) a.f a.words.now (sym c.good_fleet.ensures ∙ c.if-not-good_fleet.true)

pub returns-then-f-eq400 : goal.returns-then-f-eq400
returns-then-f-eq400 c =
    let a = c.args in
    step_14 (chosen a.cycle) a.f a.words.now (sym c.good_fleet.ensures ∙ c.if-not-good_fleet.false) c.if-f-eq400.true

-- of a record that refusal 7 lets pass at most 400 rounds are done
pub overflow_add-f : goal.overflow_add-f
overflow_add-f c =
    let a = c.args in
    omega (arith, (record_parts (chosen a.cycle) a.f (sym c.good_fleet.ensures ∙ c.if-not-good_fleet.false)).done)

pub returns : goal.returns
returns c =
    let a = c.args in
    c.check_round.ensures
    ∙ step_rest (chosen a.cycle) a.f a.words.now (sym c.good_fleet.ensures ∙ c.if-not-good_fleet.false) c.if-f-eq400.false
