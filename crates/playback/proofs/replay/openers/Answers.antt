-- `openers` meets its contract.
use mathlib.Core.Path.{◌∙◌}
use Prim.Native.Nat.{◌-◌}
use Rattle.sets.proofs.Members.{next_out, only_is}
use Rattle.playback.proofs.Sorting.{sorting-starts, sorting_more, sorting-done}
use Rattle.playback.proofs.replay.openers.Invariants.{opens}
use Rattle.playback.proofs.replay.openers.Goals as goal

pub loop-p-init : goal.loop-p-init
loop-p-init c =
    let a = c.args in
    rw (c.into_iter-p-iterator.ensures.into_iter_gives, c.members_of-p-items.ensures, c.requires.1) (tt, tt, sorting-starts 32 a.all (opens a.openings.now))

pub loop-p-preserved : goal.loop-p-preserved
loop-p-preserved c =
    let z = c in
    let a = z.args in
    let p = c.in-Some.p in
    let t = next_out c.in-Some.ensures.steps in (
      tt,
      tt,
      rw (c.only.ensures ∙ only_is p t.below)
          (sorting_more 32 a.all (opens a.openings.now) z.loop-p.invariant.2 p t.below t.held (z.requires.0 (31 - p)) c.next.new.self.left t.rest),
    )

pub returns : goal.returns
returns c = let a = c.args in sorting-done 32 a.all (opens a.openings.now) c.loop-p.invariant.2 c.in-None.ensures.steps.0
