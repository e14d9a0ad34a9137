-- `bad_words` meets its contract: the union has a bit too high exactly where one of the words has.
use Rattle.std.proofs.Common.{rules, ap, ◌∙◌}
use Rattle.std.proofs.lemmas.Iterator.{YieldsList-from_slice}
use Rattle.std.proofs.lemmas.Iterator.Consumers.{fold_from_yields_List}
use lib.Bits.{bit_or}
use Rattle.recording.specs.Checks.{high_bit}
use Rattle.plain.proofs.Tests.{words_count, words_tested, high_union}
use Rattle.plain.proofs.bad_words.Goals as goal

pub returns-then-words-rounds : goal.returns-then-words-rounds
returns-then-words-rounds c =
    let a = c.args in
    words_count a.n a.rounds a.words.now c.if-words-rounds.true

pub returns : goal.returns
returns c =
    let a = c.args in
    let s = a.words.now in
    words_tested a.n a.rounds s c.high_bit.result c.if-words-rounds.false
    (c.high_bit.ensures
    ∙ ap (high_bit a.n) (fold_from_yields_List _ bit_or 0 c.fold-all.result c.fold-all.ensures.ran (YieldsList-from_slice s c.iter.ensures.rest) (λ a x b q k. search rules))
    ∙ high_union a.n s)
