-- `row_at` meets its contract: 32 bits in reverse are the word of 32 bits, and its lowest digits are the word of the first of them.
use mathlib.Core.Path.{ap, ◌∙◌}
use Prim.Native.Nat.{ℕ, ◌%◌, ◌^◌}
use native.Mathlib.Nat.{mod-le}
use native.Mathlib.Omega.{arith}
use Rattle.bitreader.specs.Bits.{bit_at, mirrored}
use Rattle.bitreader.proofs.Digits.{bit_at_lt, row_at_low, mirrored_num}
use Rattle.bitreader.proofs.row_at.Goals as goal

pub overflow_cast-result : goal.overflow_cast-result
overflow_cast-result c = omega (arith, c.low_bits.ensures, mod-le c.mirror-all.result (2 ^ c.min.result))

pub returns : goal.returns
returns c =
    let a = c.args in
    let f : ℕ → ℕ = bit_at a.s.now in
    let w = c.min in
    rw (← w.ensures)
    (c.low_bits.ensures
    ∙ ap (λ (x : ℕ). x % 2 ^ w.result) (c.mirror-all.ensures ∙ ap (mirrored 32) c.read_at.ensures ∙ mirrored_num f (bit_at_lt a.s.now) a.at 32)
    ∙ row_at_low f (bit_at_lt a.s.now) a.at w.result 32 (omega (arith, w.ensures)))
