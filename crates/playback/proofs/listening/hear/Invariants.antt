-- `hear` meets its contract.
use mathlib.Core.Bool.{Bool, not, ◌&&◌}
use mathlib.Core.List.{List}
use Prim.Native.Nat.{ℕ}
use lib.Dec.{eqb}
use Rattle.protocol.specs.Rules.{is_one}
use Rattle.playback.specs.Listens.{heard_from}
use Rattle.playback.proofs.Asking.{Asking, Takes}
use Rattle.playback.proofs.listening.hear.Given as goal

-- the truck at place p hears one value, where that is asked for
abbrev pub hears_one : Bool → List ℕ → ℕ → ℕ → ℕ → List ℕ → ℕ → Bool
hears_one counted s at n senders by p = counted && is_one (heard_from s at n senders by p).heard

abbrev pub invariant-loop-p : goal.invariant-loop-p
invariant-loop-p g l =
    (goal.iterator-loop-p g).can_next l.p-iterator × (goal.iterator-loop-p g).is_finite l.p-iterator
    × Asking l.wanted (hears_one (not (eqb g.row.COUNTED 0)) l.s l.at l.n l.senders l.by) l.p-iterator.left l.one
    × Takes l.wanted (heard_from l.s l.at l.n l.senders l.by) l.p-iterator.left l.some l.taking
