-- `check` meets its contract: a law for each return.
use Rattle.recordbytes.proofs.Laws.{pack_7, pack_9, pack_0}
use Rattle.recordbytes.proofs.check.Goals as goal

pub returns-then-bad_trucks : goal.returns-then-bad_trucks
returns-then-bad_trucks c = search pack_7

pub returns-then-room-lt-RECORD : goal.returns-then-room-lt-RECORD
returns-then-room-lt-RECORD c = search pack_9

pub returns : goal.returns
returns c = search pack_0
