-- `rajvokshul_read` meets its contract: a law for each return.
use Rattle.ffi.proofs.Answers.{read_call_0, read_call_refused}
use Rattle.ffi.proofs.rajvokshul_read.Goals as goal

pub returns-in-Ok : goal.returns-in-Ok
returns-in-Ok c = search read_call_0

pub returns-in-Err : goal.returns-in-Err
returns-in-Err c = search read_call_refused
