-- `recordcalls_copy` meets its contract: a law for each return.
use Rattle.recordcalls.proofs.Records.{copy_put}
use Rattle.recordcalls.proofs.recordcalls_copy.Goals as goal

pub returns : goal.returns
returns c = rw c.outcome_number.ensures (search copy_put)
