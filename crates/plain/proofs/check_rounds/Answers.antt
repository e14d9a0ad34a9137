-- `check_rounds` meets its contract: one law for each return.
use Rattle.std.proofs.Common.{arith}
use Rattle.plain.proofs.Outcomes.{rounds_8, rounds-counted, rounds_rest}
use Rattle.plain.proofs.check_rounds.Goals as goal

pub returns-then-bad_words : goal.returns-then-bad_words
returns-then-bad_words c = search rounds_8

pub returns : goal.returns
returns c = search rounds_rest

pub check_own-requires : goal.check_own-requires
check_own-requires c =
    let a = c.args in
    omega (arith, rounds-counted a.n a.k a.rounds a.words.now c.bad_words.result c.bad_words.ensures c.if-bad_words.false, c.requires)
