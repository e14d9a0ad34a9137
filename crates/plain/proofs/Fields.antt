-- The header, accepted openings and words are the bits of the packed form, one after the other.
use mathlib.Core.Path.{◌≡◌, ap, ap₂, sym, ◌∙◌}
use mathlib.Core.List.{List}
use Prim.Native.Nat.{ℕ, suc, ◌+◌, ◌*◌, ◌/◌, ◌%◌, ◌≤◌, ◌<◌}
use native.Mathlib.Nat.{mul-le-mul_right}
use native.Mathlib.Omega.{arith}
use lib.ListN.{get_or}
use Rattle.basics.specs.Bits.{digit}
use Rattle.bitreader.specs.Bits.{mirrored}
use Rattle.bitreader.proofs.Digits.{num_at_is, num_at-add, num_mirrored}
use Rattle.recording.specs.Packed.{num_at, header_bits, opening_place, word_place, pack_bit, bits_for, bytes_for}
use Rattle.recording.proofs.Accepted.{GoodOpenings}
use Rattle.recording.proofs.Packing.{pack_bit-lt, bit-trucks, bit_rounds, bit-opening, bit_word, bit_end, bits_flat}
use Rattle.recording.proofs.Searches.{num_at-zero}

module _ (n R : ℕ) (openings words : List ℕ) where
  f : ℕ → ℕ
  f = pack_bit n R openings words

  pub header_number : n ≤ 32 → R ≤ 400 → n * 1024 + R ≡ num_at (pack_bit n R openings words) 0 header_bits
  unfolding f
  header_number h l =
      sym
      (num_at-add f 0 6 10
      ∙ ap₂ (λ (a b : ℕ). a * 1024 + b)
      (num_at_is f (pack_bit-lt n R openings words) 0 6 n (omega arith) (λ i o. bit-trucks n R openings words (0 + i) (omega arith) ∙ ap (digit n) (omega arith)))
      (num_at_is f (pack_bit-lt n R openings words) (0 + 6) 10 R (omega arith)
      (λ i o. bit_rounds n R openings words (0 + 6 + i) (omega arith) (omega arith) ∙ ap (digit R) (omega arith))))

  pub opening-number : GoodOpenings n openings → (j : ℕ) → j < n → get_or openings j 0 ≡ num_at (pack_bit n R openings words) (opening_place j) 4
  unfolding f
  opening-number good j h =
      sym
      (num_at_is f (pack_bit-lt n R openings words) (opening_place j) 4 (get_or openings j 0) (omega (arith, good.opening j h))
      (λ i l. bit-opening n R openings words j i h l))

  pub word_number : (w : ℕ) → w < R * (3 + n) → mirrored n (get_or words w 0) ≡ num_at (pack_bit n R openings words) (word_place n w) n
  unfolding f
  word_number w h =
      sym
      (num_mirrored f (pack_bit-lt n R openings words) (word_place n w) n (get_or words w 0)
      (λ i l. bit_word n R openings words w i h l))

  -- the bits up to the end of the last byte are 0
  pub end_number : (k : ℕ) → 0 ≡ num_at (pack_bit n R openings words) (bits_for n R) k
  unfolding f
  end_number k = sym (num_at-zero f (bits_for n R) k (λ i l. bit_end n R openings words (bits_for n R + i) (omega arith)))

-- each word ends where the packed form does at the latest
pub word_room : (n R w : ℕ) → w < R * (3 + n) → word_place n w + n ≤ bits_for n R
word_room n R w h =
    let m : suc w * n ≤ R * (3 + n) * n = mul-le-mul_right n h in
    omega (arith, bits_flat n R)

-- the last step completes the last byte
pub last_byte : (n R at have : ℕ) → at ≡ 4 * (bits_for n R / 32) → have ≡ bits_for n R % 32 → at + (have + 7) / 8 ≡ bytes_for n R
unfolding bytes_for
last_byte n R at have h e = omega arith
