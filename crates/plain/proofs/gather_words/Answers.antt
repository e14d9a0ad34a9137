-- `gather_words` meets its contract: the loop holds the buffer with the words so far, and the place of the next.
use Rattle.std.proofs.Common.{ap, sym, ◌∙◌, arith, ℕ}
use Rattle.std.specs.Int.{w32, swap_bytes}
use Rattle.basics.proofs.Laws.{filled_none, fill_step}
use Rattle.plain.specs.Steps.{gathered_word}
use Rattle.recording.specs.Packed.{bit_at, num_at}
use Rattle.plain.proofs.Filling.{filled-all}
use Rattle.plain.proofs.gather_words.Goals as goal

pub loop-word-init : goal.loop-word-init
loop-word-init c =
    let a = c.args in
    (omega (arith, c.word_place-at.ensures), sym (filled_none (gathered_word a.s.now a.trucks) a.words.now))

pub loop-word-preserved : goal.loop-word-preserved
loop-word-preserved c =
    let a = c.args in
    let l = c.loop-word in (
      omega (arith, l.invariant.0),
      fill_step (gathered_word a.s.now a.trucks) a.words.now l.words l.word-index l.invariant.1 c.swap_bytes.result (omega arith)
          (c.swap_bytes.ensures ∙ ap (swap_bytes w32) (c.read_at.ensures ∙ ap (λ (p : ℕ). num_at (bit_at a.s.now) p 32) l.invariant.0)),
    )

pub returns : goal.returns
returns c =
    let a = c.args in
    let l = c.loop-word in
    l.invariant.1 ∙ filled-all (gathered_word a.s.now a.trucks) a.words.now l.word-index (omega arith)
