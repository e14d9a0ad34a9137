-- `put_grades` meets its contract: a law for each return.
use mathlib.Core.Path.{◌≡◌}
use native.Mathlib.Omega.{arith}
use borrow.Author.Rules.{rules}
use lib.ListN.{length-set}
use Rattle.std.specs.Prelude.{Err}
use Rattle.ffi.proofs.Answers.{grades_0, grades_9, grades-refused}
use Rattle.ffi.proofs.put_grades.Goals as goal

pub returns-then-grades-lt4 : goal.returns-then-grades-lt4
returns-then-grades-lt4 c = search (grades_9, c.in_ok-k.was)

pub bounds-grades-1 : goal.bounds-grades-1
bounds-grades-1 c = simp length-set (omega arith)

pub bounds-grades-2 : goal.bounds-grades-2
bounds-grades-2 c = simp length-set (omega arith)

pub bounds-grades-3 : goal.bounds-grades-3
bounds-grades-3 c = simp length-set (omega arith)

pub returns-in_err-k : goal.returns-in_err-k
returns-in_err-k c =
    let e : c.from_residual.result ≡ Err c.in_err-k.field-0.0 = search rules in
    rw e (search (grades-refused, c.in_err-k.was))

pub shape_of-grades : goal.shape_of-grades
shape_of-grades c = simp length-set

pub returns : goal.returns
returns c = search (grades_0, c.in_ok-k.was)
