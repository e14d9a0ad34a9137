-- `grade_in` meets its contract.
use mathlib.Core.Path.{◌≡◌, sym, ◌∙◌}
use borrow.Author.Rules.{rules}
use Rattle.std.specs.Prelude.{Err}
use Rattle.recording.specs.Checks.{frame_check, own_check, check_of}
use Rattle.refusals.proofs.Outcomes.{then-first}
use Rattle.protocol.specs.Fleets.{graded_in}
use Rattle.playback.specs.Replays.{grades_after}
use Rattle.playback.proofs.grade_in.Goals as goal

pub invariant_of-frame : goal.invariant_of-frame
unfolding check_of
invariant_of-frame c =
    let s = c.args.s.now in
    record { good = then-first (frame_check s) (own_check s) (sym c.check.ensures ∙ c.in_ok-check.was) }

pub returns : goal.returns
unfolding graded_in grades_after
returns c = rw (sym c.check.ensures ∙ c.in_ok-check.was, c.graded.ensures)

pub returns-in_err-check : goal.returns-in_err-check
unfolding graded_in
returns-in_err-check c =
    let e : c.from_residual.result ≡ Err c.in_err-check.field-0.0 = search rules in
    rw (e, sym c.check.ensures ∙ c.in_err-check.was)
