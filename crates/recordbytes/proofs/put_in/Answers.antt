-- `put_in` meets its contract: a law for each return.
use Rattle.recordbytes.proofs.Laws.{put-none, put_some}
use Rattle.recordbytes.proofs.put_in.Goals as goal

pub returns-then-d-i : goal.returns-then-d-i
returns-then-d-i c = search put-none

pub returns : goal.returns
returns c = search put_some
