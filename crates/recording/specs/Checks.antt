-- Document 01, 'Who can cause which refusal': what is asked of a recording, and of openings and rounds in plain form.
use Rattle.std.specs.Prelude.{ℕ, ◌+◌, ◌*◌, ◌-◌, ◌^◌, ◌<◌, ◌≡◌, Bool, true, false, Option, MatchOption, not, ◌||◌, List, ltb, leb, eqb, length, get_or, Ok}
use Rattle.refusals.specs.declared.Refusal.TheVariants.{ShortRecording, TruckCount, RoundCount, RecordingLength, EndBit, OwnLoss, Record, PlainRound}
use Rattle.refusals.specs.Outcomes.{Outcome, refuse, and_then}
use Rattle.basics.specs.Bits.{bit}
use Rattle.basics.specs.Lists.{first, some_below}
use Rattle.recording.specs.Packed.{bit_at, trucks_of, rounds_of, word_in, word_at, bits_for, bytes_for, round_words}

-- 1: fewer than 2 bytes
unfoldable pub too_short : List ℕ → Bool
too_short s = ltb (length s) 2

-- 2: n is 0 or above 32
unfoldable pub bad_trucks : ℕ → Bool
bad_trucks n = eqb n 0 || ltb 32 n

-- 3: R above 400
unfoldable pub bad_rounds : ℕ → Bool
bad_rounds R = ltb 400 R

-- 4: byte length m differs from the one n and R fix
unfoldable pub bad_length : ℕ → ℕ → ℕ → Bool
bad_length m n R = not (eqb m (bytes_for n R))

-- 5: a leftover end bit is 1, of m bytes whose bits are f
unfoldable pub end_bit : (ℕ → ℕ) → ℕ → ℕ → ℕ → Bool
end_bit f m n R =
    let total = bits_for n R in
    some_below (λ j. eqb (f (total + j)) 1) (8 * m - total)

-- the own loss bit of truck i in round r is 1, by the words of the rounds of n trucks; rounds are counted from 0 here
unfoldable pub own_bit : (ℕ → ℕ) → ℕ → ℕ → ℕ → Bool
own_bit word n r i = bit (word (r * round_words n + (3 + i))) i

-- an own loss bit of round r is 1
unfoldable pub own_in : (ℕ → ℕ) → ℕ → ℕ → Bool
own_in word n r = some_below (own_bit word n r) n

-- 6: an own loss bit of R rounds is 1
unfoldable pub own_loss : (ℕ → ℕ) → ℕ → ℕ → Bool
own_loss word n R = some_below (own_in word n) R

-- the earliest of R rounds that has one, or R where none has
unfoldable pub own_round : (ℕ → ℕ) → ℕ → ℕ → ℕ
own_round word n R = first (own_in word n) R

-- the lowest truck of round r that has one, or n where none has
unfoldable pub own_truck : (ℕ → ℕ) → ℕ → ℕ → ℕ
own_truck word n r = first (own_bit word n r) n

-- the answer of a search below m: the number k that it is for, or none where k is m
abbrev pub Found : Option ℕ → ℕ → ℕ → Type 0
Found answer k m = MatchOption answer (k ≡ m) (λ i. (i < m) × (k ≡ i))

-- truck i of round r has the first one: its bit is 1, no earlier round has one that is, and in round r no lower truck has
pub record FirstOwn (word : ℕ → ℕ) (n R r i : ℕ) : Type 0 where
  pub round : r < R
  pub truck : i < n
  pub set : own_bit word n r i ≡ true
  pub earlier : (q j : ℕ) → q < r → j < n → own_bit word n q j ≡ false
  pub lower : (j : ℕ) → j < i → own_bit word n r j ≡ false

-- the same by the round's number, of R rounds whose first is round k
abbrev pub FirstOwnAt : (ℕ → ℕ) → ℕ → ℕ → ℕ → ℕ → ℕ → Type 0
FirstOwnAt word n k R round truck = (r : ℕ) × (round ≡ k + r) × FirstOwn word n R r truck

-- 7, of openings: they are not n in number, or one is above 15
unfoldable pub bad_openings : ℕ → List ℕ → Bool
bad_openings n openings = not (eqb (length openings) n) || some_below (λ i. ltb 15 (get_or openings i 0)) (length openings)

-- a bit at or above n is set in a word
unfoldable pub high_bit : ℕ → ℕ → Bool
high_bit n w = leb (2 ^ n) w

-- 8, of R rounds: the wrong number of words, or a bit at or above n set
unfoldable pub bad_words : ℕ → ℕ → List ℕ → Bool
bad_words n R words =
    not (eqb (length words) (R * round_words n)) || some_below (λ w. high_bit n (get_or words w 0)) (length words)

-- 2 to 5: counts, length and end bits, of m bytes whose bits are f, by the counts n and R
abbrev pub counted_frame : (ℕ → ℕ) → ℕ → ℕ → ℕ → Outcome
counted_frame f m n R =
    refuse (bad_trucks n) TruckCount
    (refuse (bad_rounds R) RoundCount
    (refuse (bad_length m n R) RecordingLength
    (refuse (end_bit f m n R) EndBit
    (Ok tt))))

-- 1 to 5: header, length and end bits
unfoldable pub frame_check : List ℕ → Outcome
frame_check s = refuse (too_short s) ShortRecording (counted_frame (bit_at s) (length s) (trucks_of s) (rounds_of s))

-- 6, of R rounds whose first is round k: it names the earliest round and, in it, the lowest truck
unfoldable pub own_loss_check : (ℕ → ℕ) → ℕ → ℕ → ℕ → Outcome
own_loss_check word n k R =
    let r = own_round word n R in
    refuse (own_loss word n R) (OwnLoss (k + r) (own_truck word n r)) (Ok tt)

-- 2 to 6, in this order, by the counts n and R: no bit before the openings is asked for
unfoldable pub counted_check : (ℕ → ℕ) → ℕ → ℕ → ℕ → Outcome
counted_check f m n R = and_then (counted_frame f m n R) (own_loss_check (word_in f n) n 1 R)

-- 6 of a recording
unfoldable pub own_check : List ℕ → Outcome
own_check s = own_loss_check (word_at s) (trucks_of s) 1 (rounds_of s)

-- 1 to 6, in this order
unfoldable pub check_of : List ℕ → Outcome
check_of s = and_then (frame_check s) (own_check s)

-- 8 and 6, of R rounds in plain form whose first is round k
unfoldable pub rounds_check : ℕ → ℕ → ℕ → List ℕ → Outcome
rounds_check n k R words = refuse (bad_words n R words) PlainRound (own_loss_check (λ w. get_or words w 0) n k R)

-- of one round in plain form, which is round k
unfoldable pub round_check : ℕ → ℕ → List ℕ → Outcome
round_check n k words = rounds_check n k 1 words

-- 2, 3, 7, 8 and 6, in this order: what writing asks before it looks at the buffer
unfoldable pub plain_check : ℕ → ℕ → List ℕ → List ℕ → Outcome
plain_check n R openings words =
    refuse (bad_trucks n) TruckCount
    (refuse (bad_rounds R) RoundCount
    (refuse (bad_openings n openings) Record
    (rounds_check n 1 R words)))
