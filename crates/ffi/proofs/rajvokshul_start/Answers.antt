-- `rajvokshul_start` meets its contract: a law for each return.
use Rattle.ffi.proofs.Records.{start_range, start_stored}
use Rattle.ffi.proofs.rajvokshul_start.Goals as goal

pub returns : goal.returns
returns c = rw c.outcome_number.ensures (search start_stored)

pub store-requires : goal.store-requires
store-requires c = search start_range
