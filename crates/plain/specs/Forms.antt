-- Document 01, 'Bits of a recording' and 'Who can cause which refusal': reading to plain form and writing from it, and what the lent buffers hold afterwards.
use Rattle.std.specs.Prelude.{ℕ, ◌*◌, Bool, ◌||◌, List, [], ◌∷◌, ◌++◌, ltb, length, drop, Result, Ok, Err}
use Rattle.refusals.specs.declared.Refusal.{Refusal}
use Rattle.refusals.specs.declared.Refusal.TheVariants.{ShortBuffer}
use Rattle.refusals.specs.Numbers.{number_of}
use Rattle.refusals.specs.Outcomes.{Outcome, refuse, and_then}
use Rattle.basics.specs.Lists.{filled}
use Rattle.recording.specs.Packed.{trucks_of, rounds_of, counts_of, opening_at, word_at, round_words, bytes_for, packed}
use Rattle.recording.specs.Checks.{check_of, plain_check}
use Rattle.recording.specs.declared.Counts.{Counts}

-- ---- reading to plain form
-- an answer by document 01's number and values: n and R, where it is no refusal
abbrev pub read_answer : Result Counts Refusal → ℕ × List ℕ
read_answer (Ok c) = (0, c.trucks ∷ c.rounds ∷ [])
read_answer (Err r) = (number_of r, [])

-- 9: a buffer shorter than its part, n openings or the words of R rounds
unfoldable pub short_buffers : List ℕ → ℕ → ℕ → Bool
short_buffers s a b = ltb a (trucks_of s) || ltb b (rounds_of s * round_words (trucks_of s))

-- 1 to 6, then 9, for buffers of these lengths
unfoldable pub read_check : List ℕ → ℕ → ℕ → Outcome
read_check s a b = and_then (check_of s) (refuse (short_buffers s a b) ShortBuffer (Ok tt))

-- the answer, and the two buffers as they are left
pub record AfterRead : Type 0 where
  pub answer : Result Counts Refusal
  pub openings : List ℕ
  pub words : List ℕ

abbrev pub after_read : Result Counts Refusal → List ℕ → List ℕ → AfterRead
after_read r openings words = record { answer = r; openings = openings; words = words }

-- by the outcome of the check: no buffer changes on a refusal, and longer ones keep everything past the part written
abbrev pub read_as : Outcome → List ℕ → List ℕ → List ℕ → AfterRead
read_as (Err r) s openings words = after_read (Err r) openings words
read_as (Ok _) s openings words =
    after_read (Ok (counts_of s))
    (filled (opening_at s) (trucks_of s) openings)
    (filled (word_at s) (rounds_of s * round_words (trucks_of s)) words)

unfoldable pub read_plain : List ℕ → List ℕ → List ℕ → AfterRead
read_plain s openings words = read_as (read_check s (length openings) (length words)) s openings words

-- ---- writing
-- an answer by document 01's number and values: the number of bytes written, where it is no refusal
abbrev pub write_answer : Result ℕ Refusal → ℕ × List ℕ
write_answer (Ok m) = (0, m ∷ [])
write_answer (Err r) = (number_of r, [])

-- 2, 3, 7, 8, 6, then 9, for a buffer of this length
unfoldable pub write_check : ℕ → ℕ → List ℕ → List ℕ → ℕ → Outcome
write_check n R openings words m =
    and_then (plain_check n R openings words) (refuse (ltb m (bytes_for n R)) ShortBuffer (Ok tt))

pub record AfterWrite : Type 0 where
  pub answer : Result ℕ Refusal
  pub buffer : List ℕ

abbrev pub after_write : Result ℕ Refusal → List ℕ → AfterWrite
after_write r buffer = record { answer = r; buffer = buffer }

abbrev pub write_as : Outcome → ℕ → ℕ → List ℕ → List ℕ → List ℕ → AfterWrite
write_as (Err r) n R openings words buffer = after_write (Err r) buffer
write_as (Ok _) n R openings words buffer =
    after_write (Ok (bytes_for n R)) (packed n R openings words ++ drop (bytes_for n R) buffer)

unfoldable pub write_plain : ℕ → ℕ → List ℕ → List ℕ → List ℕ → AfterWrite
write_plain n R openings words buffer =
    write_as (write_check n R openings words (length buffer)) n R openings words buffer
