-- `rajvokshul_run_six` meets its contract.
use Rattle.ffi.proofs.Records.{run-left}
use Rattle.ffi.proofs.rajvokshul_run_six.Goals as goal

pub returns : goal.returns
returns c = search run-left
