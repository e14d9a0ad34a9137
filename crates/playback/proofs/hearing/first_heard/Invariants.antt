-- `first_heard` meets its contract.
use mathlib.Core.Path.{◌≡◌}
use Prim.Native.Nat.{◌≤◌, ◌-◌}
use Rattle.basics.specs.Lists.{first}
use Rattle.playback.specs.Sets.{was_heard}
use Rattle.playback.proofs.hearing.first_heard.Given as goal

abbrev pub invariant-loop-c : goal.invariant-loop-c
invariant-loop-c l = (l.c ≤ 16) × (first (was_heard l.by l.heard) l.c ≡ l.c)

abbrev pub decreases-loop-c : goal.decreases-loop-c
decreases-loop-c l = 16 - l.c
