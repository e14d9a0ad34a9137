-- `check` meets its contract: a law for each return.
use mathlib.Core.Path.{◌≡◌, ap₂, sym, ◌∙◌}
use Prim.Native.Nat.{ℕ, ◌+◌}
use native.Mathlib.Omega.{arith}
use Rattle.recording.specs.Checks.{round_check}
use Rattle.protocol.specs.Fleets.{chosen}
use Rattle.protocol.proofs.Good.{record_parts}
use Rattle.recordbytes.specs.Layout.{record_of}
use Rattle.recordbytes.proofs.Places.{bytes-n}
use Rattle.fleet.proofs.Steps.{step_7, step_14, step_rest}
use Rattle.fleet.proofs.ByPlaces.{check_damaged, check_is}
use Rattle.fleet.proofs.bytes.check.Goals as goal

pub returns-then-damaged : goal.returns-then-damaged
returns-then-damaged c =
    let a = c.args in
    check_damaged (chosen a.cycle) a.d.now a.words.now (sym c.damaged.ensures ∙ c.if-damaged.true)

pub returns-then-not-good_record : goal.returns-then-not-good_record
returns-then-not-good_record c =
    let a = c.args in
    let d = a.d.now in
    let sound = sym c.damaged.ensures ∙ c.if-damaged.false in
    step_7 (chosen a.cycle) (record_of d) a.words.now (sym c.good_record.ensures ∙ c.if-not-good_record.true) ∙ check_is (chosen a.cycle) d a.words.now sound

pub returns-then-done-eq400 : goal.returns-then-done-eq400
returns-then-done-eq400 c =
    let a = c.args in
    let d = a.d.now in
    let sound = sym c.damaged.ensures ∙ c.if-damaged.false in
    let full : (record_of d).done ≡ 400 = sym c.done-done.ensures ∙ c.if-done-eq400.true in
    step_14 (chosen a.cycle) (record_of d) a.words.now (sym c.good_record.ensures ∙ c.if-not-good_record.false) full
    ∙ check_is (chosen a.cycle) d a.words.now sound

-- of a record that refusal 7 lets pass at most 400 rounds are done
pub overflow_add-done : goal.overflow_add-done
overflow_add-done c =
    let a = c.args in
    let good = record_parts (chosen a.cycle) (record_of a.d.now) (sym c.good_record.ensures ∙ c.if-not-good_record.false) in
    record { fits = omega (arith, good.done, c.done-done.ensures) }

pub returns : goal.returns
returns c =
    let a = c.args in
    let d = a.d.now in
    let w = a.words.now in
    let sound = sym c.damaged.ensures ∙ c.if-damaged.false in
    let done : c.done-done.result ≡ (record_of d).done = c.done-done.ensures in
    c.check_round.ensures
    ∙ ap₂ (λ (n k : ℕ). round_check n (k + 1) w) (bytes-n d sound) done
    ∙ step_rest (chosen a.cycle) (record_of d) w (sym c.good_record.ensures ∙ c.if-not-good_record.false) (λ e. c.if-done-eq400.false (done ∙ e))
    ∙ check_is (chosen a.cycle) d w sound
