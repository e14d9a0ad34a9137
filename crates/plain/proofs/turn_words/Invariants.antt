-- `turn_words` meets its contract: what is still to be turned is as it was.
use Rattle.std.proofs.Common.{◌≡◌, map, take, drop, ◌++◌}
use Rattle.plain.specs.Steps.{turned_word}
use Rattle.plain.proofs.turn_words.Given as goal

abbrev pub invariant-loop-word : goal.invariant-loop-word
invariant-loop-word l =
    l.words ≡ map (turned_word l.n) (take l.word-index l.initial.words) ++ drop l.word-index l.initial.words
