-- The loop holds the lines of the trucks so far, 69 bytes or fewer for each.
use mathlib.Core.Path.{◌≡◌}
use mathlib.Core.List.{◌++◌}
use Prim.Native.Nat.{◌+◌, ◌*◌, ◌≤◌}
use lib.ListN.{length}
use Rattle.listing.specs.Text.{truck_lines}
use Rattle.listing.proofs.Text.put_lines.Given as goal

abbrev pub invariant-loop-i : goal.invariant-loop-i
invariant-loop-i g l =
    (l.self ≡ l.initial.self ++ truck_lines l.f.trucks l.i) × (length l.self ≤ length l.initial.self + 69 * l.i)
