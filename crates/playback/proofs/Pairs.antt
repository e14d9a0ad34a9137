-- Two counts read at once, as one number: the count at a place, and 2 to the 32 times the count 32 places further.
use mathlib.Core.Path.{◌≡◌, ap, ap₂, sym, ◌∙◌}
use mathlib.Core.Bool.{Bool}
use mathlib.Core.List.{List}
use Prim.Native.Nat.{ℕ, ◌+◌, ◌*◌, ◌/◌, ◌%◌, ◌^◌, ◌≤◌, ◌<◌}
use native.Mathlib.Nat.{add-zero, add_comm}
use native.Mathlib.Numerals.{add-one}
use native.Mathlib.Omega.{arith}
use lib.Bits.{bit_and, and_le_r}
use lib.ListN.{get_or}
use lib.Pow.{pow_mono, shl_exact}
use Rattle.basics.specs.Bits.{bit}
use Rattle.sets.proofs.Words.{bit_shr}
use Rattle.counters.specs.Counters.{digit_of, tally}
use Rattle.counters.proofs.Counts.{tally-lt, and_pair}

-- both counts, by the first m words
abbrev pub pair_of : List ℕ → ℕ → ℕ → ℕ
pair_of words m p = tally words m p + tally words m (32 + p) * 4294967296

-- the digits of both in one word
pair_digits : (w p : ℕ) → bit_and (w / 2 ^ p) 4294967297 ≡ digit_of (bit w p) + digit_of (bit w (32 + p)) * 4294967296
pair_digits w p =
    and_pair (w / 2 ^ p)
    ∙ ap₂ (λ (x y : Bool). digit_of x + digit_of y * 4294967296) (bit_shr w p 0 ∙ ap (bit w) (add-zero p)) (bit_shr w p 32 ∙ ap (bit w) (add_comm p 32))

-- one word more
pub pair_next : (words : List ℕ) (both i p : ℕ) → i < 8 → both ≡ pair_of words i p
    → both + bit_and (get_or words i 0 / 2 ^ p) 4294967297 * 2 ^ i % 18446744073709551616 ≡ pair_of words (i + 1) p
unfolding tally
pair_next words both i p l e =
    let w : ℕ = get_or words i 0 in
    let x : ℕ = bit_and (w / 2 ^ p) 4294967297 in
    ap₂ (λ (y z : ℕ). y + z) e
    (shl_exact {a = x} 33 i 64 (omega (arith, and_le_r (w / 2 ^ p) 4294967297)) (omega arith) ∙ ap (λ (y : ℕ). y * 2 ^ i) (pair_digits w p))
    ∙ omega arith
    ∙ ap (λ (k : ℕ). pair_of words k p) (sym (add-one i))

-- counts of at most eight digits
tally_byte : (words : List ℕ) (m p : ℕ) → m ≤ 8 → tally words m p < 256
tally_byte words m p l = omega (arith, tally-lt words m p, pow_mono l)

pub pair_lt : (words : List ℕ) (m p : ℕ) → m ≤ 8 → pair_of words m p < 1099511627776
pair_lt words m p l = omega (arith, tally_byte words m p l, tally_byte words m (32 + p) l)

-- the number holds both, and each is a byte
module _ (words : List ℕ) (both m p : ℕ) (most : m ≤ 8) (e : both ≡ pair_of words m p) where
  pub pair_low : (both % 4294967296 < 256) × (both % 4294967296 ≡ tally words m p)
  pair_low = let l = tally_byte words m p most in (omega (arith, e, l), omega (arith, e, l))

  pub pair_high : (both / 4294967296 < 256) × (both / 4294967296 ≡ tally words m (32 + p))
  pair_high =
      let l = tally_byte words m p most in
      let h = tally_byte words m (32 + p) most in
      (omega (arith, e, l, h), omega (arith, e, l))
