-- `ended` meets its contract.
use Rattle.sets.proofs.Members.{next_out}
use Rattle.playback.proofs.Places.{noting-starts, noting_more, noting-done}
use Rattle.playback.proofs.replay.ended.Goals as goal

pub loop-p-init : goal.loop-p-init
loop-p-init c =
    let a = c.args in
    rw (c.into_iter-p-iterator.ensures.into_iter_gives, c.members_of-p-items.ensures) (tt, tt, noting-starts a.ends.now a.who a.k c.told-ends)

pub loop-p-preserved : goal.loop-p-preserved
loop-p-preserved c =
    let z = c in
    let a = z.args in
    let t = next_out c.in-Some.ensures.steps in
    (tt, tt, noting_more a.ends.now a.who a.k z.told-ends z.loop-p.invariant.2 c.in-Some.p t.below t.held c.next.new.self.left t.rest)

pub returns : goal.returns
returns c = let a = c.args in noting-done a.ends.now a.who a.k c.told-ends c.loop-p.invariant.2 c.in-None.ensures.steps.0
