-- The searches for a set bit that the code makes find what the checks ask for; the outcome of each check by its conditions.
use mathlib.Core.Path.{◌≡◌, refl, ap, ap₂, sym, ◌∙◌}
use mathlib.Core.Bool.{Bool, true, false, not, ◌||◌, true≢false}
use mathlib.Core.List.{List}
use Prim.Native.Nat.{ℕ, zero, suc, ◌+◌, ◌*◌, ◌-◌, ◌/◌, ◌%◌, ◌^◌, ◌≤◌, ◌<◌}
use native.Mathlib.Nat.{mul-le-mul, mul-le-mul_right, zero-div}
use native.Mathlib.Omega.{arith}
use borrow.Author.Tests.{eqb-false, eq-eqb, ne_eqb, lt-ltb, le-ltb}
use lib.Bits.{bit_or}
use lib.Dec.{eqb}
use lib.ListN.{length, get_or}
use Rattle.std.specs.Prelude.{Err}
use Rattle.refusals.specs.declared.Refusal.TheVariants.{ShortRecording, TruckCount, RoundCount, RecordingLength, EndBit}
use Rattle.refusals.specs.Outcomes.{Outcome}
use Rattle.basics.specs.Bits.{bit, digit}
use Rattle.basics.specs.Lists.{some_below}
use Rattle.basics.proofs.Laws.{some_below-none, none-some_below, some_more}
use Rattle.basics.proofs.Bits.{bit-or}
use Rattle.bitreader.proofs.Digits.{bit_at_lt, num_at-digit, row_at-digit, num_at-one, bit_in_byte}
use Rattle.recording.specs.Packed.{bit_at, num_at, trucks_of, rounds_of, word_place, round_place, word_in, word_at, bits_for, bytes_for}
use Rattle.recording.specs.Checks.{too_short, bad_trucks, bad_rounds, bad_length, end_bit, own_bit, own_loss_check, frame_check, counted_check, own_check, check_of}
use Rattle.recording.proofs.Accepted.{trucks_in_lem}
use Rattle.recording.proofs.Sizes.{bits_small}

-- ---- a run of bits that is 0
pub num_at-zero : (f : ℕ → ℕ) (p k : ℕ) → ((i : ℕ) → i < k → f (p + i) ≡ 0) → num_at f p k ≡ 0
unfolding num_at
num_at-zero f p zero h = refl
num_at-zero f p (suc k) h = ap₂ (λ (a b : ℕ). a * 2 + b) (num_at-zero f p k (λ i l. h i (omega arith))) (h k (omega arith))

-- a number made of bits is 0 exactly where each of them is
pub number_tests : (f : ℕ → ℕ) → ((i : ℕ) → f i < 2) → (p k v : ℕ) → v ≡ num_at f p k → not (eqb v 0) ≡ some_below (λ j. eqb (f (p + j)) 1) k
number_tests f bits p k v e = go (some_below (λ j. eqb (f (p + j)) 1) k) refl
  where
    go : (b : Bool) → some_below (λ j. eqb (f (p + j)) 1) k ≡ b → not (eqb v 0) ≡ b
    go false h =
        ap not
        (eq-eqb v 0
        (e ∙ num_at-zero f p k
        (λ i l.
        let d : f (p + i) ≡ 1 → ⊥ = eqb-false (f (p + i)) 1 (some_below-none (λ j. eqb (f (p + j)) 1) k h i l) in
        omega (arith, bits (p + i)))))
    go true h =
        ap not
        (ne_eqb v 0
        (λ z.
        true≢false
        (sym h
        ∙ none-some_below (λ j. eqb (f (p + j)) 1) k
        (λ i l.
        ne_eqb (f (p + i)) 1
        (λ o.
        let d : digit (num_at f p k) (k - suc i) ≡ f (p + i)
        = num_at-digit f bits p k (k - suc i) (omega arith) ∙ ap f (omega arith) in
        let n : digit (num_at f p k) (k - suc i) ≡ 0 = ap (λ (x : ℕ). digit x (k - suc i)) (sym e ∙ z) ∙ zero-digit (k - suc i) in
        omega arith)))))
      where
        zero-digit : (j : ℕ) → digit 0 j ≡ 0
        zero-digit j = ap (λ (x : ℕ). x % 2) (zero-div (2 ^ j))

-- ---- own bits by their places
-- the own loss bits of the round whose first one stands at a place
abbrev pub own_packed : List ℕ → ℕ → ℕ → ℕ → Bool
own_packed s at n i = eqb (bit_at s (at + i * (n + 1))) 1

-- they are those of round r, where that place is its
pub own-packed : (s : List ℕ) (n r at : ℕ) → at ≡ round_place n r + 3 * n → (i : ℕ) → i < n → own_packed s at n i ≡ own_bit (word_in (bit_at s) n) n r i
unfolding own_bit
own-packed s n r at placed i h =
    let w : ℕ = r * (3 + n) + (3 + i) in
    sym
    (ap (λ (b : ℕ). eqb b 1) (row_at-digit (bit_at s) (bit_at_lt s) (word_place n w) n i h)
    ∙ ap (λ (q : ℕ). eqb (bit_at s q) 1) (omega arith))

-- the places of a round's own bits are not far apart
pub own-near : (n i : ℕ) → n ≤ 32 → i ≤ n → i * (n + 1) ≤ 1056
own-near n i h l = mul-le-mul (let o : i ≤ 32 = omega arith in o) (let o : n + 1 ≤ 33 = omega arith in o)

-- what one bit that was read says of a test of bits
pub bit-read : (s : List ℕ) (p q v : ℕ) → v ≡ num_at (bit_at s) p 1 → p ≡ q → eqb v 1 ≡ eqb (bit_at s q) 1
bit-read s p q v e g = ap (λ (x : ℕ). eqb x 1) (e ∙ num_at-one (bit_at s) p ∙ ap (bit_at s) g)

-- a union of bytes, each shifted by the place of one bit in it: its bit worth 128 says whether one of those bits is 1
pub union_more : (s : List ℕ) (at n i p any : ℕ) → get_or s (p / 8) 0 < 256 → p ≡ at + i * (n + 1) → bit any 7 ≡ some_below (own_packed s at n) i
    → bit (bit_or any (get_or s (p / 8) 0 * 2 ^ (p % 8) % 2 ^ 32)) 7 ≡ some_below (own_packed s at n) (i + 1)
union_more s at n i p any small e h =
    bit-or any (get_or s (p / 8) 0 * 2 ^ (p % 8) % 2 ^ 32) 7
    ∙ ap₂ ◌||◌ h (ap (λ (b : ℕ). eqb b 1) (bit_in_byte s p small ∙ ap (bit_at s) e))
    ∙ some_more (own_packed s at n) i

-- that bit of each truck stands within the rows of the round
pub within_rows : (n i : ℕ) → i < n → i * (n + 1) < n * n
within_rows n i h =
    let o : (i + 1) * (n + 1) ≤ n * (n + 1) = mul-le-mul_right (n + 1) (let l : i + 1 ≤ n = omega arith in l) in
    omega arith

-- ---- outcomes by conditions: 2 to 6 by the counts n and R
module _ (s : List ℕ) (n R : ℕ) (b : Bool) (tested : b ≡ bad_trucks n) where
  pub counted_2 : b ≡ true → Err TruckCount ≡ counted_check (bit_at s) (length s) n R
  unfolding counted_check
  counted_2 h = rw (sym tested ∙ h)

  module _ (good : b ≡ false) where
    pub counted_3 : 400 < R → Err RoundCount ≡ counted_check (bit_at s) (length s) n R
    unfolding counted_check bad_rounds
    counted_3 h = rw (sym tested ∙ good, lt-ltb 400 R h)

    module _ (m : ℕ) (few : R ≤ 400) (sized : m ≡ bytes_for n R) where
      pub counted_4 : (length s ≡ m → ⊥) → Err RecordingLength ≡ counted_check (bit_at s) (length s) n R
      unfolding counted_check bad_rounds bad_length
      counted_4 h = rw (sym tested ∙ good, le-ltb 400 R few, ne_eqb (length s) (bytes_for n R) (λ e. h (e ∙ sym sized)))

      module _ (exact : length s ≡ m) where
        pub end_fits : (total : ℕ) → total ≡ bits_for n R → (length s < 2 ^ 32) × ((total ≤ 8 * length s) × (8 * length s ≤ total + 7))
        unfolding bytes_for
        end_fits total bits =
            let i : (0 < n) × (n ≤ 32) = trucks_in_lem n (sym tested ∙ good) in
            omega (arith, i.1, bits_small n R (omega (arith, i.1)) (omega arith))

        pub own-fits : (n ≤ 32) × (R ≤ 400) × (bits_for n R ≤ 8 * length s)
        unfolding bytes_for
        own-fits = ((trucks_in_lem n (sym tested ∙ good)).1, few, omega arith)

        module _ (total : ℕ) (e : Bool) (bits : total ≡ bits_for n R) (ended : e ≡ some_below (λ j. eqb (bit_at s (total + j)) 1) (8 * length s - total)) where
          end_test : end_bit (bit_at s) (length s) n R ≡ e
          unfolding end_bit
          end_test = ap (λ (t : ℕ). some_below (λ j. eqb (bit_at s (t + j)) 1) (8 * length s - t)) (sym bits) ∙ sym ended

          pub counted_5 : e ≡ true → Err EndBit ≡ counted_check (bit_at s) (length s) n R
          unfolding counted_check bad_rounds bad_length
          counted_5 h = rw (sym tested ∙ good, le-ltb 400 R few, eq-eqb (length s) (bytes_for n R) (exact ∙ sized), end_test ∙ h)

          pub counted_6 : (o : Outcome) → e ≡ false → o ≡ own_loss_check (word_in (bit_at s) n) n 1 R → o ≡ counted_check (bit_at s) (length s) n R
          unfolding counted_check bad_rounds bad_length
          counted_6 o h g = rw (sym tested ∙ good, le-ltb 400 R few, eq-eqb (length s) (bytes_for n R) (exact ∙ sized), end_test ∙ h) g

-- ---- 1, then 2 to 6 by the counts of the header
pub check_1 : (s : List ℕ) → length s < 2 → Err ShortRecording ≡ check_of s
unfolding check_of frame_check too_short
check_1 s h = rw (lt-ltb (length s) 2 h)

check_counted : (s : List ℕ) → 2 ≤ length s → counted_check (bit_at s) (length s) (trucks_of s) (rounds_of s) ≡ check_of s
unfolding check_of frame_check too_short own_check word_at counted_check
check_counted s h = rw (le-ltb (length s) 2 h)

pub check_on : (s : List ℕ) (n R : ℕ) (o : Outcome) → 2 ≤ length s → n ≡ trucks_of s → R ≡ rounds_of s → o ≡ counted_check (bit_at s) (length s) n R → o ≡ check_of s
check_on s n R o long counted played e = e ∙ ap₂ (counted_check (bit_at s) (length s)) counted played ∙ check_counted s long
