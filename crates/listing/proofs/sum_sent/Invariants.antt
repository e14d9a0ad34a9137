-- The loop holds the two sums over the trucks so far; a count is a byte, so that no sum of 32 is too large.
use mathlib.Core.Path.{◌≡◌}
use Prim.Native.Nat.{◌*◌, ◌≤◌}
use Rattle.basics.specs.Lists.{sum_below}
use Rattle.protocol.specs.Rules.{truck}
use Rattle.listing.proofs.sum_sent.Given as goal

abbrev pub invariant-loop-t : goal.invariant-loop-t
invariant-loop-t l =
    (l.proposals ≡ sum_below (λ k. (truck l.f.trucks k).sent.proposals) l.t-index) × (l.vetoes ≡ sum_below (λ k. (truck l.f.trucks k).sent.vetoes) l.t-index)
    × (l.proposals ≤ 255 * l.t-index) × (l.vetoes ≤ 255 * l.t-index)
