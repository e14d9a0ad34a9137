-- `rajvokshul_write_own_loss` meets its contract: a law for each return.
use Rattle.ffi.proofs.OwnLoss.{write_own}
use Rattle.ffi.proofs.rajvokshul_write_own_loss.Goals as goal

pub returns : goal.returns
returns c = search write_own
