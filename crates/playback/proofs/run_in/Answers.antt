-- `run_in` meets its contract.
use mathlib.Core.Path.{sym, ◌∙◌}
use Rattle.recording.specs.Checks.{frame_check, own_check, check_of}
use Rattle.refusals.proofs.Outcomes.{then-first}
use Rattle.protocol.specs.Fleets.{ran_in}
use Rattle.playback.proofs.run_in.Goals as goal

pub invariant_of-frame : goal.invariant_of-frame
unfolding check_of
invariant_of-frame c =
    let s = c.args.s.now in
    record { good = then-first (frame_check s) (own_check s) (sym c.check.ensures ∙ c.in-Ok.is) }

pub returns-in-Ok : goal.returns-in-Ok
unfolding ran_in
returns-in-Ok c = rw (sym c.check.ensures ∙ c.in-Ok.is, c.ran.ensures)

pub returns-in-Err : goal.returns-in-Err
unfolding ran_in
returns-in-Err c = c.refused.ensures ∙ rw (sym c.check.ensures ∙ c.in-Err.is)
