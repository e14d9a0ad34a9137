-- `step_bytes` meets its contract.
use mathlib.Core.Path.{◌≡◌, sym, ◌∙◌}
use borrow.Author.Rules.{rules}
use Rattle.std.specs.Prelude.{Err}
use Rattle.protocol.specs.Fleets.{chosen}
use Rattle.fleet.proofs.ByPlaces.{check_undamaged, check_is, bytes-accepted, bytes-refused}
use Rattle.fleet.proofs.step_bytes.Goals as goal

pub next_bytes-requires : goal.next_bytes-requires
next_bytes-requires c =
    let a = c.args in
    let p = chosen a.cycle in
    let taken = sym c.check.ensures ∙ c.in_ok-check.was in
    let sound = check_undamaged p a.d.now a.words.now taken in
    (sound, check_is p a.d.now a.words.now sound ∙ taken)

pub returns : goal.returns
returns c =
    let a = c.args in
    let p = chosen a.cycle in
    let taken = sym c.check.ensures ∙ c.in_ok-check.was in
    let sound = check_undamaged p a.d.now a.words.now taken in
    record { answer = sym taken; buffer = bytes-accepted p a.d.now a.words.now sound taken c.next_bytes.new.d c.next_bytes.ensures }

pub returns-in_err-check : goal.returns-in_err-check
returns-in_err-check c =
    let a = c.args in
    let e : c.from_residual.result ≡ Err c.in_err-check.field-0.0 = search rules in
    let refused = sym c.check.ensures ∙ c.in_err-check.was in
    record { answer = e ∙ sym refused; buffer = bytes-refused (chosen a.cycle) a.d.now a.words.now _ refused }
