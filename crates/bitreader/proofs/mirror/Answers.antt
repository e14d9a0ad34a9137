-- `mirror` meets its contract: the lowest digits in reverse are the highest of all 32 in reverse.
use mathlib.Core.Path.{ap, ◌∙◌}
use Prim.Native.Nat.{ℕ, ◌-◌}
use native.Mathlib.Omega.{arith}
use lib.Pow.{shr_le}
use Rattle.bitreader.specs.Bits.{mirrored}
use Rattle.bitreader.proofs.Digits.{reversed_onto, mirrored_of_32}
use Rattle.bitreader.proofs.mirror.Goals as goal

pub overflow_cast-result : goal.overflow_cast-result
overflow_cast-result c =
    omega (arith, shr_le c.reverse_bits-all.result (32 - c.min-w.result))

pub returns : goal.returns
returns c =
    let x : ℕ = c.args.x in
    mirrored_of_32 c.min-w.result x c.reverse_bits-all.result (omega (arith, c.min-w.ensures)) (c.reverse_bits-all.ensures ∙ reversed_onto 32 x 0 ∙ omega arith)
    ∙ ap (λ (w : ℕ). mirrored w x) c.min-w.ensures
