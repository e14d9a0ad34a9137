-- `put` meets its contract: a law for each return.
use mathlib.Core.Path.{◌≡◌}
use borrow.Author.Rules.{rules}
use Rattle.std.specs.Prelude.{Ok, Err}
use Rattle.recordcalls.proofs.Records.{put_refused, put_0}
use Rattle.recordcalls.proofs.put.Goals as goal

pub returns-in_err-a : goal.returns-in_err-a
returns-in_err-a c =
    let e : c.from_residual.result ≡ Err c.in_err-a.field-0.0 = search rules in
    rw e (search (put_refused, c.in_err-a.was))

pub returns : goal.returns
returns c = let h : c.args.a.outcome ≡ Ok tt = c.in_ok-a.was in search put_0
