-- The largest recording; and bytes past it change nothing: whoever reads one byte more than it has meets the refusal of the whole input.
use mathlib.Core.Path.{◌≡◌, refl, ap, ap₂, sym, ◌∙◌}
use mathlib.Core.Bool.{Bool, true, false, not}
use mathlib.Core.List.{List}
use mathlib.Core.Logic.{◌⊎◌, inl, inr}
use Prim.Native.Nat.{ℕ, ◌+◌, ◌-◌, ◌/◌, ◌%◌, ◌≤◌, ◌<◌}
use native.Mathlib.Decide.{dec_le}
use native.Mathlib.Omega.{arith}
use borrow.Author.Tests.{le-ltb, ne_eqb}
use lib.Dec.{eqb}
use lib.ListN.{length, take}
use lib.Seq.{get_or-take, length-take-le, take_all}
use Rattle.std.specs.Prelude.{Ok, Err}
use Rattle.basics.specs.Bits.{digit}
use Rattle.refusals.specs.declared.Refusal.TheVariants.{TruckCount, RoundCount, RecordingLength, EndBit}
use Rattle.refusals.specs.Outcomes.{Outcome, refuse, and_then}
use Rattle.bitreader.proofs.Digits.{num_at_ext}
use Rattle.recording.specs.Packed.{bit_at, trucks_of, rounds_of, bits_for, bytes_for, largest_recording}
use Rattle.recording.specs.Checks.{too_short, bad_trucks, bad_rounds, bad_length, end_bit, frame_check, own_check, check_of}
use Rattle.recording.proofs.Accepted.{trucks_in_lem, rounds_in, bytes_good}
use Rattle.recording.proofs.Sizes.{rounds_within}

pub largest : bytes_for 32 400 ≡ largest_recording
unfolding bytes_for bits_for
largest = refl

-- within the limits no recording is larger
pub bytes_most : (n R : ℕ) → n ≤ 32 → R ≤ 400 → bytes_for n R ≤ largest_recording
unfolding bytes_for bits_for
bytes_most n R h l = omega (arith, rounds_within n R h l)

pub accepted-most : (s : List ℕ) → check_of s ≡ Ok tt → length s ≤ largest_recording
accepted-most s h =
    let f = (bytes_good s h).frame in
    omega (arith, f.size, bytes_most (trucks_of s) (rounds_of s) f.most f.rounds)

-- what longer bytes are refused for: 2, 3, else 4
abbrev long_check : ℕ → ℕ → Outcome
long_check n R = refuse (bad_trucks n) TruckCount (refuse (bad_rounds R) RoundCount (Err RecordingLength))

-- the check of a recording whose length is wrong wherever its counts are right
by_counts : (t r d e : Bool) (o : Outcome) → (t ≡ false → r ≡ false → d ≡ true)
    → and_then (refuse t TruckCount (refuse r RoundCount (refuse d RecordingLength (refuse e EndBit (Ok tt))))) o
    ≡ refuse t TruckCount (refuse r RoundCount (Err RecordingLength))
by_counts true r d e o h = refl
by_counts false true d e o h = refl
by_counts false false d e o h = rw (h refl refl)

long_check_lem : (s : List ℕ) → largest_recording < length s → check_of s ≡ long_check (trucks_of s) (rounds_of s)
unfolding check_of frame_check too_short bad_length
long_check_lem s l =
    rw (le-ltb (length s) 2 (omega arith))
    (by_counts (bad_trucks (trucks_of s)) (bad_rounds (rounds_of s)) (not (eqb (length s) (bytes_for (trucks_of s) (rounds_of s))))
    (end_bit (bit_at s) (length s) (trucks_of s) (rounds_of s)) (own_check s)
    (λ t r.
    let m = bytes_most (trucks_of s) (rounds_of s) (trucks_in_lem (trucks_of s) t).1 (rounds_in (rounds_of s) r) in
    ap not (ne_eqb (length s) (bytes_for (trucks_of s) (rounds_of s)) (λ e. omega (arith, m)))))

-- the counts stand in the first two bytes
module _ (s : List ℕ) (m : ℕ) (l : 1 < m) where
  bit_cut : (p : ℕ) → p < 16 → bit_at (take m s) p ≡ bit_at s p
  unfolding bit_at
  bit_cut p h = ap (λ (b : ℕ). digit b (7 - p % 8)) (get_or-take m s (p / 8) 0 (let o : p / 8 < m = omega arith in o))

  trucks_cut : trucks_of (take m s) ≡ trucks_of s
  unfolding trucks_of
  trucks_cut = num_at_ext (bit_at (take m s)) (bit_at s) 0 0 6 (λ i h. bit_cut (0 + i) (omega arith))

  rounds_cut : rounds_of (take m s) ≡ rounds_of s
  unfolding rounds_of
  rounds_cut = num_at_ext (bit_at (take m s)) (bit_at s) 6 6 10 (λ i h. bit_cut (6 + i) (omega arith))

-- the check of an input is that of its first m bytes, where m is above the largest recording; where more were cut off, it is a refusal
pub check_cut : (s : List ℕ) (m : ℕ) → largest_recording < m → (take m s ≡ s) ⊎ ((check_of (take m s) ≡ check_of s) × (check_of s ≡ Ok tt → ⊥))
check_cut s m h = go (dec_le (length s) m)
  where
    go : Dec (length s ≤ m) → (take m s ≡ s) ⊎ ((check_of (take m s) ≡ check_of s) × (check_of s ≡ Ok tt → ⊥))
    go (yes l) = inl (take_all m s l)
    go (no l) =
        let u : largest_recording < length s = omega arith in
        let e : length (take m s) ≡ m = length-take-le m s (omega arith) in
        inr (
          long_check_lem (take m s) (omega arith)
              ∙ ap₂ long_check (trucks_cut s m (omega arith)) (rounds_cut s m (omega arith))
              ∙ sym (long_check_lem s u),
          λ a. omega (arith, accepted-most s a),
        )
