-- `ended` meets its contract.
use Rattle.playback.proofs.Places.{Noting}
use Rattle.playback.proofs.replay.ended.Given as goal

abbrev pub invariant-loop-p : goal.invariant-loop-p
invariant-loop-p l =
    (goal.iterator-loop-p).can_next l.p-iterator × (goal.iterator-loop-p).is_finite l.p-iterator
    × Noting l.initial.ends l.who l.k l.ends l.p-iterator.left
