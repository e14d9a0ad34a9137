-- `missing` meets its contract.
use mathlib.Core.Bool.{Bool}
use mathlib.Core.List.{List}
use Prim.Native.Nat.{ℕ}
use Rattle.playback.specs.Grading.{heard_at, misses_some, misses_all, misses_half}
use Rattle.playback.proofs.Asking.{Asking}
use Rattle.playback.proofs.grading.missing.Given as goal

-- the truck at place p has what f asks of the senders that it heard
abbrev pub asked : (ℕ → Bool) → List ℕ → ℕ → ℕ → ℕ → ℕ → Bool
asked f s at n senders p = f (heard_at s at n senders p)

abbrev pub invariant-loop-p : goal.invariant-loop-p
invariant-loop-p l =
    (goal.iterator-loop-p).can_next l.p-iterator × (goal.iterator-loop-p).is_finite l.p-iterator
    × Asking l.wanted (asked (misses_some l.senders) l.s l.at l.n l.senders) l.p-iterator.left l.m.some
    × Asking l.wanted (asked (misses_all l.senders) l.s l.at l.n l.senders) l.p-iterator.left l.m.all
    × Asking l.wanted (asked (misses_half l.senders) l.s l.at l.n l.senders) l.p-iterator.left l.m.half
