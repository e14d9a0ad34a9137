-- `step_record` meets its contract: a law for each return.
use mathlib.Core.Path.{◌≡◌}
use borrow.Author.Rules.{rules}
use Rattle.std.specs.Prelude.{Ok, Err}
use Rattle.recordcalls.proofs.Records.{step_7, step_put}
use Rattle.recordcalls.proofs.step_record.Goals as goal

pub returns-in_err-u : goal.returns-in_err-u
returns-in_err-u c =
    let e : c.from_residual.result ≡ Err c.in_err-u.field-0.0 = search rules in
    rw e (search (step_7, c.in_err-u.was))

pub returns : goal.returns
returns c = let h : c.unpack-u.result.outcome ≡ Ok tt = c.in_ok-u.was in search step_put
