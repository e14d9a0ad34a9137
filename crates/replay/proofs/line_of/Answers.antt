-- `line_of` meets its contract: its buffer has room for the line, so that it is never refused.
use Rattle.listing.proofs.Laws.{refusal_fits}
use Rattle.listing.proofs.Prints.{line_text, line_refused}
use borrow.Author.Rules.{rules}
use Rattle.replay.proofs.line_of.Goals as goal

pub unreachable-requires : goal.unreachable-requires
unreachable-requires c =
    let l = c.refusal_line in
    line_refused c.args.r _ l.new.buf l.result l.ensures _ c.in-Err.is (search rules)

pub returns : goal.returns
returns c =
    let l = c.refusal_line in
    let r = c.args.r in
    record {
      within = rw l.auto.buf (refusal_fits r _ l.new.buf l.result _ l.ensures c.in-Ok.is);
      line = line_text r _ l.new.buf l.result l.ensures _ c.in-Ok.is;
    }
