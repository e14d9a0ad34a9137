-- `rajvokshul_recording_own_loss` meets its contract: a law for each return.
use Rattle.ffi.proofs.OwnLoss.{recording_own}
use Rattle.ffi.proofs.rajvokshul_recording_own_loss.Goals as goal

pub returns : goal.returns
returns c = search recording_own
