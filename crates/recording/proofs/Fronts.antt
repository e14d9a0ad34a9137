-- The reader that goes over what stands before the rounds: the places that it comes to, and that what it reads fits.
use mathlib.Core.Path.{◌≡◌, refl, ap, ◌∙◌}
use mathlib.Core.List.{List}
use Prim.Native.Nat.{ℕ, ◌+◌, ◌<◌, min}
use native.Mathlib.Nat.{min-eq_left}
use native.Mathlib.Decide.{dec_lt}
use native.Mathlib.Omega.{arith}
use lib.ListN.{length, get_or}
use Rattle.basics.specs.Lists.{filled}
use Rattle.basics.proofs.Laws.{get_or-filled, get_or-filled_past}
use Rattle.bitreader.specs.Bits.{place_after}
use Rattle.bitreader.proofs.Digits.{bit_at_lt, num_at-lt}
use Rattle.recording.specs.Packed.{bit_at, trucks_of, rounds_of, counts_of, opening_place, opening_at, openings_into}
use Rattle.recording.specs.declared.Counts.{Counts}

-- after the two counts comes the first opening
pub after-counts : place_after (place_after 0 6) 10 ≡ opening_place 0
after-counts = refl

-- after an opening comes the next one
pub after-opening : (i : ℕ) → i < 64 → place_after (opening_place i) 4 ≡ opening_place (i + 1)
after-opening i h = min-eq_left (omega arith) ∙ omega arith

pub trucks-lt : (s : List ℕ) → trucks_of s < 64
unfolding trucks_of
trucks-lt s = num_at-lt (bit_at s) (bit_at_lt s) 0 6

pub rounds_lt : (s : List ℕ) → rounds_of s < 1024
unfolding rounds_of
rounds_lt s = num_at-lt (bit_at s) (bit_at_lt s) 6 10

pub opening-lt : (s : List ℕ) (i : ℕ) → opening_at s i < 16
unfolding opening_at
opening-lt s i = num_at-lt (bit_at s) (bit_at_lt s) (opening_place i) 4

-- the counts that were read, one by one
module _ (s : List ℕ) (c : Counts) (e : c ≡ counts_of s) where
  pub counts-trucks : c.trucks ≡ trucks_of s
  counts-trucks = ap (λ (d : Counts). d.trucks) e

  pub counts_rounds : c.rounds ≡ rounds_of s
  counts_rounds = ap (λ (d : Counts). d.rounds) e

-- the places o that were lent as xs and into which the openings were read
module _ (s xs o : List ℕ) (e : o ≡ openings_into s xs) where
  pub front-opening : (i : ℕ) → i < trucks_of s → i < length xs → get_or o i 0 ≡ opening_at s i
  front-opening i h l = ap (λ (l : List ℕ). get_or l i 0) e ∙ get_or-filled (opening_at s) (min (trucks_of s) (length xs)) xs i 0 (omega arith)

  -- each holds four bits, if it did so before
  pub front-small : ((i : ℕ) → get_or xs i 0 < 16) → (i : ℕ) → get_or o i 0 < 16
  front-small was i = rw (ap (λ (l : List ℕ). get_or l i 0) e) (at (dec_lt i (min (trucks_of s) (length xs))))
    where
      at : Dec (i < min (trucks_of s) (length xs)) → get_or (filled (opening_at s) (min (trucks_of s) (length xs)) xs) i 0 < 16
      at (yes h) = rw (get_or-filled (opening_at s) (min (trucks_of s) (length xs)) xs i 0 h) (opening-lt s i)
      at (no h) = rw (get_or-filled_past (opening_at s) (min (trucks_of s) (length xs)) xs i 0 (omega arith)) (was i)
