-- `fill_words` meets its contract: the words gathered and turned are those of the recording.
use Rattle.plain.proofs.Turning.{turned-all}
use Rattle.plain.proofs.fill_words.Goals as goal

pub returns : goal.returns
returns c =
    let a = c.args in
    turned-all a.s.now a.trucks c.requires.0 c.requires.1.0 a.words.now c.gather_words.new.words c.turn_words.new.words c.gather_words.ensures c.turn_words.ensures
