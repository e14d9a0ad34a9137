-- `write` meets its contract: one law for each return.
use mathlib.Core.Path.{◌≡◌}
use borrow.Author.Rules.{rules}
use Rattle.std.specs.Prelude.{Ok, Err}
use Rattle.plain.proofs.Answers.{write_refused, write_9, plain-kept, bytes-room, write_0}
use Rattle.plain.proofs.write.Goals as goal

pub returns-then-buf-m : goal.returns-then-buf-m
returns-then-buf-m c = let h : c.check_plain.result ≡ Ok tt = c.in_ok-check_plain.was in search write_9

pub returns-in_err-check_plain : goal.returns-in_err-check_plain
returns-in_err-check_plain c =
    let e : c.from_residual.result ≡ Err c.in_err-check_plain.field-0.0 = search rules in
    rw e (search (write_refused, c.in_err-check_plain.was))

pub returns : goal.returns
returns c = let h : c.check_plain.result ≡ Ok tt = c.in_ok-check_plain.was in search write_0

pub put_all-requires : goal.put_all-requires
put_all-requires c = let h : c.check_plain.result ≡ Ok tt = c.in_ok-check_plain.was in search (plain-kept, bytes-room)
