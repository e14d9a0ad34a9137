-- Gathering bits out of eight bytes and out of as many bytes as hold them gives the same number: the bits, the first worth most.
use mathlib.Core.Path.{◌≡◌, refl, ap, ap₂, sym, ◌∙◌}
use mathlib.Core.List.{List}
use Prim.Native.Nat.{ℕ, zero, suc, ◌+◌, ◌*◌, ◌-◌, ◌/◌, ◌%◌, ◌^◌, ◌≤◌, ◌<◌}
use native.Mathlib.Numerals.{add-one}
use native.Mathlib.Omega.{arith}
use lib.ListN.{get_or}
use Rattle.bitreader.specs.Bits.{bit_at, num_at}
use Rattle.bitreader.specs.Ways.{bytes_from, out_of, by_eight, holding, by_bytes, BothWays}
use Rattle.bitreader.proofs.Digits.{bit_at_lt, num_at-lt, num_at-add, num_at-part, num_at-first, byte_is}

-- one byte more
pub bytes_from_more : (s : List ℕ) (b m : ℕ) → bytes_from s b m * 256 + get_or s (b + m) 0 ≡ bytes_from s b (m + 1)
unfolding bytes_from
bytes_from_more s b m = sym (ap (bytes_from s b) (add-one m))

module _ (s : List ℕ) (bytes : (i : ℕ) → get_or s i 0 < 256) where
  -- the number of bytes is that of their bits
  pub bytes_from_num : (b m : ℕ) → bytes_from s b m ≡ num_at (bit_at s) (8 * b) (8 * m)
  unfolding bytes_from num_at
  bytes_from_num b zero = refl
  bytes_from_num b (suc m) =
      ap₂ (λ (v x : ℕ). v * 256 + x) (bytes_from_num b m)
      (sym (byte_is s (b + m) (bytes (b + m))) ∙ ap (λ (p : ℕ). num_at (bit_at s) p 8) (let e : 8 * (b + m) ≡ 8 * b + 8 * m = omega arith in e))
      ∙ sym (num_at-add (bit_at s) (8 * b) (8 * m) 8)
      ∙ ap (num_at (bit_at s) (8 * b)) (let e : 8 * m + 8 ≡ 8 * suc m = omega arith in e)

  pub bytes_from-lt : (b m : ℕ) → bytes_from s b m < 2 ^ (8 * m)
  bytes_from-lt b m = rw (bytes_from_num b m) (num_at-lt (bit_at s) (bit_at_lt s) (8 * b) (8 * m))

  -- the bits, out of any bytes that hold them
  pub out_of-bits : (m p w : ℕ) → p % 8 + w ≤ 8 * m → out_of m s p w ≡ num_at (bit_at s) p w
  out_of-bits m p w h =
      let past : ℕ = 8 * m - p % 8 - w in
      ap (λ (v : ℕ). v / 2 ^ past % 2 ^ w) (bytes_from_num (p / 8) m ∙ ap (num_at (bit_at s) (8 * (p / 8))) (let e : 8 * m ≡ p % 8 + w + past = omega arith in e))
      ∙ num_at-part (bit_at s) (bit_at_lt s) (8 * (p / 8)) (p % 8) w past
      ∙ ap (λ (q : ℕ). num_at (bit_at s) q w) (omega arith)

  -- the first w of 32 bits are the w bits, out of any bytes that hold them
  pub out_of-first : (m k p w : ℕ) → w ≤ 32 → p % 8 + 32 ≤ 8 * m → p % 8 + w ≤ 8 * k → out_of m s p 32 / 2 ^ (32 - w) ≡ out_of k s p w
  out_of-first m k p w few g h =
      ap (λ (v : ℕ). v / 2 ^ (32 - w)) (out_of-bits m p 32 g) ∙ num_at-first (bit_at s) (bit_at_lt s) p w 32 few ∙ sym (out_of-bits k p w h)

  -- what each way gathers, cut to a smaller width, is what that way gathers at the width
  pub by_eight-first : (p w : ℕ) → w ≤ 32 → by_eight s p 32 / 2 ^ (32 - w) ≡ by_eight s p w
  by_eight-first p w h = out_of-first 8 8 p w h (omega arith) (omega arith)

  pub by_bytes-first : (p w : ℕ) → w ≤ 32 → by_bytes s p 32 / 2 ^ (32 - w) ≡ by_bytes s p w
  by_bytes-first p w h = out_of-first (holding p 32) (holding p w) p w h (omega arith) (omega arith)

  pub by_bytes-bits : (p w : ℕ) → by_bytes s p w ≡ num_at (bit_at s) p w
  by_bytes-bits p w = out_of-bits (holding p w) p w (omega arith)

pub both_ways : BothWays
both_ways s bytes p w remain small = out_of-bits s bytes 8 p w (omega arith) ∙ sym (by_bytes-bits s bytes p w)
