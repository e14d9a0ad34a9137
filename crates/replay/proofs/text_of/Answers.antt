-- `text_of` meets its contract: its buffer is as long as the longest listing, so that only the recording is refused, and the line of that is printed; it has room for that line.
use mathlib.Core.Path.{◌∙◌}
use Rattle.listing.proofs.Laws.{listed-fits}
use Rattle.listing.proofs.Prints.{list_text, list_refused, list_room}
use borrow.Author.Rules.{rules}
use Rattle.replay.proofs.text_of.Goals as goal

pub returns-in-Ok : goal.returns-in-Ok
returns-in-Ok c =
    let l = c.list in
    record {
      within = rw l.auto.buf (listed-fits _ _ l.new.buf l.result _ l.ensures c.in-Ok.is);
      printed = list_text _ _ l.new.buf l.result l.ensures _ c.in-Ok.is;
    }

pub returns-in-Err : goal.returns-in-Err
returns-in-Err c =
    let l = c.list in
    let line = c.line_of in
    record {
      within = search rules;
      printed = line.ensures.line ∙ list_refused _ _ l.new.buf l.result l.ensures _ c.in-Err.is (search rules);
    }

pub line_of-requires : goal.line_of-requires
line_of-requires c =
    let l = c.list in
    rw l.auto.buf (list_room _ _ l.new.buf l.result l.ensures _ c.in-Err.is (search rules))
