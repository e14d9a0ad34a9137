-- `openers` meets its contract.
use mathlib.Core.List.{List}
use Prim.Native.Nat.{ℕ, ◌-◌}
use lib.ListN.{get_or}
use Rattle.playback.proofs.Sorting.{Sorting}
use Rattle.playback.proofs.replay.openers.Given as goal

abbrev pub opens : List ℕ → ℕ → ℕ
opens openings p = get_or openings (31 - p) 0

abbrev pub invariant-loop-p : goal.invariant-loop-p
invariant-loop-p l =
    (goal.iterator-loop-p).can_next l.p-iterator × (goal.iterator-loop-p).is_finite l.p-iterator
    × Sorting 32 l.all (opens l.openings) l.by l.p-iterator.left
