-- What each exported function answers, with everything lent as it leaves it, by the answers of the library.
-- The number answered is document 01's number of the refusal, and 0 where nothing is refused; the values of an answer are put where the caller said, and
-- without a value what is there stays: a refusal changes nothing that was lent.
use Rattle.std.specs.Prelude.{ℕ, cond, ◌||◌, List, [], ◌∷◌, ◌++◌, ltb, eqb, length, get_or, drop, Ok, Err}
use Rattle.basics.specs.Lists.{filled}
use Rattle.refusals.specs.Numbers.{number_of}
use Rattle.refusals.specs.Locations.{outcome_location, location_number}
use Rattle.refusals.specs.declared.Refusal.TheVariants.{ShortBuffer}
use Rattle.refusals.specs.Outcomes.{Outcome, refuse, and_then}
use Rattle.recording.specs.Checks.{bad_trucks, bad_rounds, check_of, round_check, plain_check}
use Rattle.roads.specs.Opening.{opening_of, opening_answer}
use Rattle.plain.specs.Forms.{read_answer, read_plain, write_answer, write_plain}
use Rattle.protocol.specs.declared.Fleet.{Fleet}
use Rattle.protocol.specs.declared.Answer.{Answer}
use Rattle.protocol.specs.Fleets.{Protocol, two_round, started, stepped_in, ran_in, grade_answer, graded_in}
use Rattle.listing.specs.Listed.{list_answer, listed}
use Rattle.recordbytes.specs.Layout.{size_for, record_byte, unpacked}

-- what a call leaves: the number answered, and in the order of its parameters the buffers and the single numbers that it was lent
pub record CallResult : Type 0 where
  pub number : ℕ
  pub buffers : List (List ℕ)
  pub numbers : List ℕ

abbrev pub call_result : ℕ → List (List ℕ) → List ℕ → CallResult
call_result number buffers numbers = record { number = number; buffers = buffers; numbers = numbers }

-- the first of the buffers
abbrev pub buffer_of : CallResult → List ℕ
buffer_of l = get_or l.buffers 0 []

-- ---- the opening crusher

-- 10, 11, 12, 13
unfoldable pub opening_call : List ℕ → List ℕ → List ℕ → ℕ → CallResult
opening_call lengths metres seconds crusher =
    let (number, values) = opening_answer (opening_of lengths metres seconds) in
    call_result number [] (get_or values 0 crusher ∷ [])

-- ---- reading to plain form

-- 1 to 6, then 9
unfoldable pub read_call : List ℕ → List ℕ → List ℕ → ℕ → ℕ → CallResult
read_call bytes openings words trucks rounds =
    let a = read_plain bytes openings words in
    let (number, values) = read_answer a.answer in
    call_result number (a.openings ∷ a.words ∷ []) (get_or values 0 trucks ∷ get_or values 1 rounds ∷ [])

-- ---- writing

-- 2, 3, 7, 8, 6, then 9
unfoldable pub write_call : ℕ → ℕ → List ℕ → List ℕ → List ℕ → ℕ → CallResult
write_call n R openings words bytes written =
    let a = write_plain n R openings words bytes in
    let (number, values) = write_answer a.answer in
    call_result number (a.buffer ∷ []) (get_or values 0 written ∷ [])

-- ---- a recording's listing

-- 1 to 6, then 9
unfoldable pub list_call : List ℕ → List ℕ → ℕ → CallResult
list_call bytes text written =
    let a = listed bytes text in
    let (number, values) = list_answer a.answer in
    call_result number (a.buffer ∷ []) (get_or values 0 written ∷ [])

-- ---- a recording's grading

-- the values at the front of the buffer; 9 where it has fewer places than there are values
abbrev pub grade_result : ℕ × List ℕ → List ℕ → CallResult
grade_result (number, values) grades =
    cond (ltb (length grades) (length values)) (call_result (number_of ShortBuffer) (grades ∷ []) [])
    (call_result number ((values ++ drop (length values) grades) ∷ []) [])

-- 1 to 6, then 9
unfoldable pub grade_call_in : Protocol → List ℕ → List ℕ → CallResult
grade_call_in p bytes grades = grade_result (grade_answer (graded_in p bytes)) grades

-- by document 01's protocol
abbrev pub grade_call : List ℕ → List ℕ → CallResult
grade_call = grade_call_in two_round

-- ---- fleet records as bytes

-- the head and the first m places of a record
abbrev pub record_as : Outcome → ℕ → Fleet → List ℕ → CallResult
record_as (Ok _) m f d = call_result 0 (filled (record_byte f) (size_for m) d ∷ []) []
record_as (Err r) m f d = call_result (number_of r) (d ∷ []) []

-- a whole record, all 32 places; 9 where the buffer has fewer than 323 bytes
unfoldable pub store_call : Answer → List ℕ → CallResult
store_call a d = record_as (and_then a.outcome (refuse (ltb (length d) (size_for 32)) ShortBuffer (Ok tt))) 32 a.fleet d

-- running a recording: 1 to 6, then 9
unfoldable pub run_call_in : Protocol → List ℕ → List ℕ → CallResult
run_call_in p bytes d = store_call (ran_in p bytes) d

abbrev pub run_call : List ℕ → List ℕ → CallResult
run_call = run_call_in two_round

-- starting a fleet: 2, 7, then 9
unfoldable pub start_call : ℕ → List ℕ → List ℕ → CallResult
start_call n openings d = store_call (started n openings) d

-- a step: 7 where the bytes are no record, then 7, 14, 8, 6; places n and above stay as they came
unfoldable pub step_call_in : Protocol → List ℕ → List ℕ → CallResult
step_call_in p d words =
    let u = unpacked d in
    let a = stepped_in p u.fleet words in
    record_as (and_then u.outcome a.outcome) a.fleet.n a.fleet d

abbrev pub step_call : List ℕ → List ℕ → CallResult
step_call = step_call_in two_round

-- the bytes after a list of steps, each on what the step before it left
unfoldable pub bytes_after_in : Protocol → List ℕ → List (List ℕ) → List ℕ
bytes_after_in p d [] = d
bytes_after_in p d (w ∷ ws) = bytes_after_in p (buffer_of (step_call_in p d w)) ws

-- ---- where an own loss bit is: the round and the truck that refusal 6 names, as one number; 0 where none is named

-- of a recording, which is read, run, listed or graded
unfoldable pub recording_own_loss : List ℕ → ℕ
recording_own_loss bytes = location_number (outcome_location (check_of bytes))

-- of plain form, which is written
unfoldable pub write_own_loss : ℕ → ℕ → List ℕ → List ℕ → ℕ
write_own_loss n R openings words = location_number (outcome_location (plain_check n R openings words))

-- of round k of n trucks, by which a fleet is stepped; 0 where n or k is outside the limits
unfoldable pub round_own_loss : ℕ → ℕ → List ℕ → ℕ
round_own_loss n k words = cond (bad_trucks n || eqb k 0 || bad_rounds k) 0 (location_number (outcome_location (round_check n k words)))
