-- `rajvokshul_grade_six` meets its contract.
use Rattle.ffi.proofs.Answers.{grade_put}
use Rattle.ffi.proofs.rajvokshul_grade_six.Goals as goal

pub returns : goal.returns
returns c = rw c.outcome_number.ensures (search grade_put)
