-- Laws of the definitions of specs/Bits: the bits of a number after each operation on its digits.
use mathlib.Core.Path.{◌≡◌, refl, ap, ◌∙◌}
use mathlib.Core.Bool.{Bool, true, false, not, ◌&&◌, ◌||◌}
use Prim.Native.Nat.{ℕ, zero, suc, ◌+◌, ◌*◌, ◌/◌, ◌%◌, ◌^◌, ◌<◌, min, max}
use native.Mathlib.Nat.{mod-lt}
use native.Mathlib.Omega.{arith}
use lib.Dec.{eqb, lit<}
use lib.Bits.{bit_and, bit_or, bit_xor, differ, and_step, or_step, xor_step, and_shr, or_shr, xor_shr}
use Rattle.basics.specs.Bits.{bit}

-- two binary digits
pub digits : (P : ℕ → ℕ → Type 0) → P 0 0 → P 0 1 → P 1 0 → P 1 1 → (x y : ℕ) → x < 2 → y < 2 → P x y
digits P a b c d zero zero p q = a
digits P a b c d zero (suc zero) p q = b
digits P a b c d (suc zero) zero p q = c
digits P a b c d (suc zero) (suc zero) p q = d
digits P a b c d zero (suc (suc y)) p q = absurd (omega arith)
digits P a b c d (suc zero) (suc (suc y)) p q = absurd (omega arith)
digits P a b c d (suc (suc x)) y p q = absurd (omega arith)

-- an operation that works digit by digit works bit by bit
module _ (op f : ℕ → ℕ → ℕ) (g : Bool → Bool → Bool) where
  -- of one digit
  abbrev One : ℕ → ℕ → Type 0
  One x y = (f x y < 2) × (eqb (f x y) 1 ≡ g (eqb x 1) (eqb y 1))

  bit_op : ((a b k : ℕ) → op a b / 2 ^ k ≡ op (a / 2 ^ k) (b / 2 ^ k)) → ((a b : ℕ) → op a b ≡ op (a / 2) (b / 2) * 2 + f (a % 2) (b % 2))
      → One 0 0 → One 0 1 → One 1 0 → One 1 1 → (a b j : ℕ) → bit (op a b) j ≡ g (bit a j) (bit b j)
  bit_op shr step zz zo oz oo a b j =
      let x : ℕ = a / 2 ^ j in
      let y : ℕ = b / 2 ^ j in
      let p = digits One zz zo oz oo (x % 2) (y % 2) (mod-lt x (lit< tt)) (mod-lt y (lit< tt)) in
      ap (λ (d : ℕ). eqb (d % 2) 1) (shr a b j ∙ step x y)
      ∙ ap (λ (d : ℕ). eqb d 1) (let e : (op (x / 2) (y / 2) * 2 + f (x % 2) (y % 2)) % 2 ≡ f (x % 2) (y % 2) = omega (arith, p.0) in e)
      ∙ p.1

pub bit-and : (a b j : ℕ) → bit (bit_and a b) j ≡ (bit a j && bit b j)
bit-and = bit_op bit_and min ◌&&◌ and_shr and_step (lit< tt, refl) (lit< tt, refl) (lit< tt, refl) (lit< tt, refl)

pub bit-or : (a b j : ℕ) → bit (bit_or a b) j ≡ (bit a j || bit b j)
bit-or = bit_op bit_or max ◌||◌ or_shr or_step (lit< tt, refl) (lit< tt, refl) (lit< tt, refl) (lit< tt, refl)

-- exactly one of the two
abbrev pub one_of : Bool → Bool → Bool
one_of true b = not b
one_of false b = b

pub bit-xor : (a b j : ℕ) → bit (bit_xor a b) j ≡ one_of (bit a j) (bit b j)
bit-xor = bit_op bit_xor differ one_of xor_shr xor_step (lit< tt, refl) (lit< tt, refl) (lit< tt, refl) (lit< tt, refl)
