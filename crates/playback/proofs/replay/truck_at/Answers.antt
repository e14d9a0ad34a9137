-- `truck_at` meets its contract.
use native.Mathlib.Omega.{arith}
use borrow.Author.Rules.{rules}
use Rattle.basics.proofs.Laws.{first-none}
use Rattle.counters.proofs.Counts.{in_use_most}
use Rattle.playback.proofs.Put.{heard-most, built_is}
use Rattle.playback.proofs.replay.truck_at.Goals as goal

pub first_heard-requires : goal.first_heard-requires
first_heard-requires c = (search rules, first-none _)

pub sent_at-requires : goal.sent_at-requires
sent_at-requires c = (omega (arith, c.requires.0, in_use_most c.args.t.now.sent 8), omega arith)

pub truck_of-requires : goal.truck_of-requires
truck_of-requires c = (omega arith, heard-most _ _ c.first_heard.ensures)

pub returns : goal.returns
returns c =
    let a = c.args in
    built_is a.t.now.openings a.b a.t.now.by a.t.now.ends a.t.now.sent a.i _ _ _ _ _ c.requires.1
    c.only.ensures c.first_heard.ensures c.requires.0 c.sent_at.ensures c.truck_of.ensures
