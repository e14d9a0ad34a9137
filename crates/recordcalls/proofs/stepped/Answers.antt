-- `stepped` meets its contract: a law for each return.
use Rattle.recordcalls.proofs.Records.{two_step, six_step}
use Rattle.recordcalls.proofs.stepped.Goals as goal

pub returns-in-TwoRound : goal.returns-in-TwoRound
returns-in-TwoRound c = search two_step

pub returns-in-SixRound : goal.returns-in-SixRound
returns-in-SixRound c = search six_step
