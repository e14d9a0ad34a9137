-- `run_bytes` meets its contract: a law for each return.
use mathlib.Core.Path.{◌≡◌, sym, ◌∙◌}
use borrow.Author.Rules.{rules}
use native.Mathlib.Omega.{arith}
use Rattle.std.specs.Prelude.{Err}
use Rattle.recording.specs.Checks.{frame_check, own_check, check_of}
use Rattle.refusals.proofs.Outcomes.{then-first}
use Rattle.protocol.specs.Fleets.{chosen}
use Rattle.playback.proofs.Put.{run-refused, run_short, run-put}
use Rattle.playback.proofs.run_bytes.Goals as goal

pub returns-then-d-lt323 : goal.returns-then-d-lt323
returns-then-d-lt323 c =
    let a = c.args in
    let h = run_short (chosen a.cycle) a.s.now a.d.now (sym c.check.ensures ∙ c.in_ok-check.was) (omega arith) in
    record { answer = h.0; buffer = h.1 }

pub invariant_of-frame : goal.invariant_of-frame
unfolding check_of
invariant_of-frame c =
    let s = c.args.s.now in
    record { good = then-first (frame_check s) (own_check s) (sym c.check.ensures ∙ c.in_ok-check.was) }

pub returns : goal.returns
returns c =
    let a = c.args in
    let r = c.run_into in
    let h = run-put (chosen a.cycle) a.s.now a.d.now (sym c.check.ensures ∙ c.in_ok-check.was) (omega arith) r.new.d r.ensures in
    record { answer = h.0; buffer = h.1 }

pub returns-in_err-check : goal.returns-in_err-check
returns-in_err-check c =
    let a = c.args in
    let e : c.from_residual.result ≡ Err c.in_err-check.field-0.0 = search rules in
    let h = run-refused (chosen a.cycle) a.s.now a.d.now _ (sym c.check.ensures ∙ c.in_err-check.was) in
    record { answer = e ∙ h.0; buffer = h.1 }
