-- `gather_words` meets its contract: the loop holds the buffer with the words so far, and the place of the next.
use Rattle.std.proofs.Common.{◌≡◌}
use Rattle.basics.specs.Lists.{filled}
use Rattle.plain.specs.Steps.{gathered_word}
use Rattle.recording.specs.Packed.{word_place}
use Rattle.plain.proofs.gather_words.Given as goal

abbrev pub invariant-loop-word : goal.invariant-loop-word
invariant-loop-word l =
    (l.at ≡ word_place l.n l.word-index) × (l.words ≡ filled (gathered_word l.s l.n) l.word-index l.initial.words)
