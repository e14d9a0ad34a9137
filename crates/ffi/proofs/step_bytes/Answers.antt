-- `step_bytes` meets its contract.
use Rattle.ffi.proofs.Records.{step_left}
use Rattle.ffi.proofs.step_bytes.Goals as goal

pub returns : goal.returns
returns c = search step_left
