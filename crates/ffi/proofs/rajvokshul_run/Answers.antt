-- `rajvokshul_run` meets its contract.
use Rattle.ffi.proofs.Records.{run-left}
use Rattle.ffi.proofs.rajvokshul_run.Goals as goal

pub returns : goal.returns
returns c = search run-left
