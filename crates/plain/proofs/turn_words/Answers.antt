-- `turn_words` meets its contract: what is still to be turned is as it was.
use Rattle.std.proofs.Common.{ℕ, get_or, slice_set, ap, ◌∙◌, arith}
use Rattle.std.proofs.lemmas.List.{get_or_default}
use Rattle.std.proofs.lemmas.List.Edits.{map_over_more}
use Rattle.plain.specs.Steps.{turned_word}
use Rattle.plain.proofs.turn_words.Goals as goal

pub loop-word-preserved : goal.loop-word-preserved
loop-word-preserved c =
    let l = c.loop-word in
    let word : ℕ = get_or l.words l.word-index 0 in
    ap (slice_set l.words l.word-index) c.turned_word.ensures
    ∙ map_over_more (turned_word c.args.n) c.args.words.now l.words l.word-index word (omega arith) l.invariant
    (get_or_default l.words l.word-index 0 word (omega arith))
