-- `bits_at` meets its contract: a single bit, or the first of 32.
use mathlib.Core.Path.{◌≡◌, ap, sym, ◌∙◌}
use Prim.Native.Nat.{ℕ, ◌-◌, ◌/◌, ◌^◌}
use native.Mathlib.Nat.{div-le_self}
use native.Mathlib.Omega.{arith}
use Rattle.bitreader.specs.Bits.{bit_at, num_at}
use Rattle.bitreader.proofs.Digits.{bit_at_lt, num_at-lt, num_at-one, num_at-first}
use Rattle.bitreader.proofs.bits_at.Goals as goal

pub returns-then-w-eq1 : goal.returns-then-w-eq1
returns-then-w-eq1 c =
    let a = c.args in
    let f : ℕ → ℕ = bit_at a.s.now in
    c.bit_at.ensures ∙ sym (num_at-one f a.at) ∙ ap (num_at f a.at) (let o : 1 ≡ c.min-w.result = omega arith in o) ∙ ap (num_at f a.at) c.min-w.ensures

pub overflow_cast-result : goal.overflow_cast-result
overflow_cast-result c =
    let a = c.args in
    let all = c.bits_32 in
    omega (arith, all.ensures, div-le_self all.result (2 ^ (32 - c.min-w.result)), num_at-lt (bit_at a.s.now) (bit_at_lt a.s.now) a.at 32)

pub returns : goal.returns
returns c =
    let a = c.args in
    let f : ℕ → ℕ = bit_at a.s.now in
    let w = c.min-w in
    ap (λ (x : ℕ). x / 2 ^ (32 - w.result)) c.bits_32.ensures
    ∙ num_at-first f (bit_at_lt a.s.now) a.at w.result 32 (omega (arith, w.ensures))
    ∙ ap (num_at f a.at) w.ensures
