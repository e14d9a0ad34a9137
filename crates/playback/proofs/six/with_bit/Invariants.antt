-- `with_bit` meets its contract: the loop holds the trucks of the crushers so far.
use mathlib.Core.Path.{◌≡◌}
use mathlib.Core.Bool.{Bool, ◌&&◌}
use Prim.Native.Nat.{ℕ, ◌<◌}
use lib.ListN.{get_or}
use mathlib.Core.List.{List}
use Rattle.basics.specs.Bits.{bit}
use Rattle.basics.specs.Lists.{some_below}
use Rattle.playback.proofs.six.with_bit.Given as goal

abbrev pub has : List ℕ → ℕ → ℕ → ℕ → Bool
has by b p c = bit c b && bit (get_or by c 0) p

abbrev pub invariant-loop-c : goal.invariant-loop-c
invariant-loop-c l = (p : ℕ) → p < 32 → bit l.out p ≡ some_below (has l.by l.b p) l.c
