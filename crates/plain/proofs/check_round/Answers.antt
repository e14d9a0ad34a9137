-- `check_round` meets its contract: one round is rounds of the number 1.
use Rattle.recording.specs.Checks.{round_check}
use Rattle.plain.proofs.check_round.Goals as goal

pub returns : goal.returns
unfolding round_check
returns c = c.check_rounds.ensures
