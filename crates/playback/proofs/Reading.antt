-- Rounds read from the bytes of a recording.
use mathlib.Core.Path.{◌≡◌, ap, sym, ◌∙◌}
use mathlib.Core.List.{List}
use Prim.Native.Nat.{ℕ, ◌+◌, ◌*◌, ◌-◌, ◌^◌, ◌≤◌, ◌<◌}
use native.Mathlib.Nat.{add-mul, mul-le-mul}
use native.Mathlib.Omega.{arith}
use lib.ListN.{get_or}
use Rattle.bitreader.specs.Bits.{bit_at, row_at}
use Rattle.recording.specs.Packed.{trucks_of, word_place, round_place, word_at, round_at}
use Rattle.recording.proofs.Rounds.{word_round}

pub product : (i n : ℕ) → i < 32 → n ≤ 32 → i * n ≤ 32 * 32
product i n l m = mul-le-mul (let e : i ≤ 32 = omega arith in e) m

-- the row of the truck at place p begins where a place can be
pub row-place : (at n p : ℕ) → at < 2 ^ 32 → n ≤ 32 → p < 32 → ((31 - p) * n < 2 ^ 33) × (at + (31 - p) * n < 2 ^ 33)
row-place at n p a m l =
    let e : (31 - p) * n ≤ 32 * 32 = product (31 - p) n (omega arith) m in
    (omega (arith, e), omega (arith, e, a))

-- ---- the words of round k
module _ (s : List ℕ) (k : ℕ) where
  n : ℕ
  n = trucks_of s

  pub word_here : (w at : ℕ) → w < 3 + trucks_of s → at ≡ round_place (trucks_of s) k + w * trucks_of s → row_at (bit_at s) at (trucks_of s) ≡ get_or (round_at s k) w 0
  unfolding word_at n
  word_here w at l e =
      ap (λ (p : ℕ). row_at (bit_at s) p n)
      (e ∙ let z : round_place n k + w * n ≡ word_place n (k * (3 + n) + w) = omega (arith, add-mul (k * (3 + n)) w n) in z)
      ∙ sym (word_round s k w l)

  -- a place within the recording
  pub place-small : trucks_of s ≤ 32 → k < 400 → round_place (trucks_of s) k < 450000
  unfolding n
  place-small m l =
      let a : k * (3 + n) ≤ 400 * 35 = mul-le-mul (let z : k ≤ 400 = omega arith in z) (let z : 3 + n ≤ 35 = omega arith in z) in
      let b : k * (3 + n) * n ≤ 400 * 35 * 32 = mul-le-mul a m in
      omega arith

  -- the place of the next round
  pub place-next : round_place (trucks_of s) k + (3 + trucks_of s) * trucks_of s ≡ round_place (trucks_of s) (k + 1)
  unfolding n
  place-next =
      let e : (k + 1) * (3 + n) ≡ k * (3 + n) + (3 + n) = omega (arith, add-mul k 1 (3 + n)) in
      omega (arith, ap (λ (x : ℕ). x * n) e, add-mul (k * (3 + n)) (3 + n) n)
