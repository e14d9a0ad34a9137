-- `hearing_some` meets its contract.
use mathlib.Core.Bool.{Bool, not}
use mathlib.Core.List.{List}
use Prim.Native.Nat.{ℕ}
use lib.Dec.{eqb}
use Rattle.sets.specs.Sets.{without}
use Rattle.playback.specs.Listens.{row_from}
use Rattle.playback.proofs.Asking.{Asking}
use Rattle.playback.proofs.listening.hearing_some.Given as goal

-- the truck at place p hears a sender
abbrev pub hears_some : List ℕ → ℕ → ℕ → ℕ → ℕ → Bool
hears_some s at n senders p = not (eqb (without senders (row_from s at n p)) 0)

abbrev pub invariant-loop-p : goal.invariant-loop-p
invariant-loop-p l =
    (goal.iterator-loop-p).can_next l.p-iterator × (goal.iterator-loop-p).is_finite l.p-iterator
    × Asking l.wanted (hears_some l.s l.at l.n l.senders) l.p-iterator.left l.out
