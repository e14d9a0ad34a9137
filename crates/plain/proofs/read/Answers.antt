-- `read` meets its contract: one law for each return.
use mathlib.Core.Path.{◌≡◌}
use borrow.Author.Rules.{rules}
use Rattle.std.specs.Prelude.{Ok, Err}
use Rattle.recording.proofs.Fronts.{counts-trucks, counts_rounds}
use Rattle.plain.proofs.Answers.{read-refused, read-most, read_9, lent-fits, read_0}
use Rattle.plain.proofs.read.Goals as goal

pub returns-in_err-check : goal.returns-in_err-check
returns-in_err-check c =
    let e : c.from_residual.result ≡ Err c.in_err-check.field-0.0 = search rules in
    rw e (search (read-refused, c.in_err-check.was))

pub returns-then-openings-n : goal.returns-then-openings-n
returns-then-openings-n c = let h : c.check.result ≡ Ok tt = c.in_ok-check.was in search (read_9, counts-trucks, counts_rounds)

pub returns : goal.returns
returns c = let h : c.check.result ≡ Ok tt = c.in_ok-check.was in search (read_0, counts-trucks, counts_rounds)

pub fill_words-requires : goal.fill_words-requires
fill_words-requires c = let h : c.check.result ≡ Ok tt = c.in_ok-check.was in search (counts-trucks, counts_rounds, read-most, lent-fits)
