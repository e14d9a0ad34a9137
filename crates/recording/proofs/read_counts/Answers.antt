-- `read_counts` meets its contract: six bits fit a byte, and ten fit 16 bits.
use mathlib.Core.Path.{ap₂}
use Prim.Native.Nat.{ℕ}
use native.Mathlib.Omega.{arith}
use Rattle.recording.specs.Packed.{trucks_of, rounds_of}
use Rattle.recording.proofs.Fronts.{trucks-lt, rounds_lt}
use Rattle.recording.proofs.read_counts.Goals as goal

pub overflow_cast-result : goal.overflow_cast-result
unfolding trucks_of
overflow_cast-result c = record { fits = omega (arith, c.read_at.ensures, trucks-lt c.args.s.now) }

pub overflow_cast-result-2 : goal.overflow_cast-result-2
unfolding rounds_of
overflow_cast-result-2 c = record { fits = omega (arith, c.read_at-2.ensures, rounds_lt c.args.s.now) }

pub returns : goal.returns
unfolding trucks_of rounds_of
returns c = ap₂ (λ (a b : ℕ). record { trucks = a; rounds = b }) c.read_at.ensures c.read_at-2.ensures
