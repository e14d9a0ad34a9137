-- `bit_at` meets its contract: the bit is the highest that is left of its byte, and past the end a byte is 0.
use mathlib.Core.Path.{ap, sym, ◌∙◌}
use Prim.Native.Nat.{ℕ, ◌-◌, ◌/◌, ◌%◌, ◌^◌}
use native.Mathlib.Nat.{zero-div}
use native.Mathlib.Omega.{arith}
use lib.ListN.{get_or-eq_default}
use Rattle.bitreader.specs.Bits.{bit_at}
use Rattle.bitreader.proofs.Digits.{bit_in_byte}
use Rattle.bitreader.proofs.bit_at.Goals as goal

pub returns-then-s-b : goal.returns-then-s-b
unfolding bit_at
returns-then-s-b c =
    let a = c.args in
    let place : ℕ = 7 - a.at % 8 in
    sym (ap (λ (x : ℕ). x / 2 ^ place % 2) (get_or-eq_default a.s.now 0 c.if-s-b.true) ∙ ap (λ (x : ℕ). x % 2) (zero-div (2 ^ place)))

pub returns : goal.returns
returns c =
    let a = c.args in
    bit_in_byte a.s.now a.at (omega (arith, c.type_inv.s (a.at / 8)))
