-- `recordcalls_start` meets its contract: a law for each return.
use Rattle.recordcalls.proofs.Records.{start-refused, start_0}
use Rattle.recordcalls.proofs.recordcalls_start.Goals as goal

pub returns-in-Err : goal.returns-in-Err
returns-in-Err c = search start-refused

pub returns-in-Ok : goal.returns-in-Ok
returns-in-Ok c = search start_0
