-- `check` meets its contract: one law for each return.
use Rattle.recording.proofs.Fronts.{counts-trucks, counts_rounds}
use Rattle.recording.proofs.Searches.{check_1, check_on}
use Rattle.recording.proofs.check.Goals as goal

pub returns-then-s-lt2 : goal.returns-then-s-lt2
returns-then-s-lt2 c = search check_1

pub returns : goal.returns
returns c = search (check_on, counts-trucks, counts_rounds)
