-- `own_any` meets its contract: the bit worth 128 of the union says whether a truck that the loop has passed has its own bit set.
use mathlib.Core.Path.{◌≡◌}
use Prim.Native.Nat.{◌+◌, ◌*◌}
use Rattle.basics.specs.Bits.{bit}
use Rattle.basics.specs.Lists.{some_below}
use Rattle.recording.proofs.Searches.{own_packed}
use Rattle.recording.proofs.OwnBits.own_any.Given as goal

abbrev pub invariant-loop-truck : goal.invariant-loop-truck
invariant-loop-truck l =
    (l.p ≡ l.initial.p + l._truck * (l.n + 1)) × (bit l.any 7 ≡ some_below (own_packed l.self.bytes.now l.initial.p l.self.trucks) l._truck)
