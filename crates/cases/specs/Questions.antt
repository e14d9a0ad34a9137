-- What a row of the table asks, and what the definitions answer.
use Rattle.std.specs.Prelude.{List, [], ◌∷◌, ◌++◌, ℕ, ◌-◌, ◌/◌, ◌%◌, length, drop, Result, Option, Ok, Err}
use Prim.Native.String.{String}
use Rattle.basics.specs.Lists.{tab, who}
use Rattle.radio.specs.Radio.{Radio, sent, heard}
use Rattle.refusals.specs.declared.Refusal.{Refusal}
use Rattle.refusals.specs.declared.Location.{Location}
use Rattle.refusals.specs.Numbers.{outcome_number}
use Rattle.refusals.specs.Locations.{outcome_location}
use Rattle.refusals.specs.Outcomes.{Outcome}
use Rattle.recording.specs.Packed.{trucks_of, openings_of, round_at}
use Rattle.recording.specs.Checks.{plain_check}
use Rattle.protocol.specs.declared.Cycle.{Cycle}
use Rattle.protocol.specs.declared.Cycle.TheVariants.{TwoRound}
use Rattle.protocol.specs.declared.Truck.{Truck}
use Rattle.protocol.specs.declared.Fleet.{Fleet}
use Rattle.protocol.specs.declared.Answer.{Answer}
use Rattle.protocol.specs.Rules.{truck, values_heard}
use Rattle.protocol.specs.Runs.{opened_trucks, trucks_in, trucks_at, radios_in}
use Rattle.protocol.specs.Fleets.{chosen, started, step_check_in, stepped_in, ran_in, graded_in}
use Rattle.plain.specs.Forms.{read_answer, read_plain, write_answer, write_plain}
use Rattle.recordbytes.specs.Layout.{unpacked}
use Rattle.fleet.specs.Bytes.{bytes_check_in, bytes_step_in}
use Rattle.listing.specs.Text.{text, decimal, printed}
use Rattle.listing.specs.Listed.{list_answer, listed}
use Rattle.roads.specs.Opening.{Road, numerator, denominator, opening_of, opening_answer}
use Rattle.protocol.specs.declared.Grades.{Grades}

pub data Question : Type 0 where
  -- what is printed for a recording
  prints : List ℕ → Question
  -- how a number is printed
  shows : ℕ → Question
  -- the grading of a recording in a cycle
  grades_in : Cycle → List ℕ → Question
  -- the trucks that running a recording in a cycle leaves
  leaves_in : Cycle → List ℕ → Question
  -- the estimates of a recording's trucks after round k
  estimates_in : Cycle → ℕ → List ℕ → Question
  -- the trucks of a recording that send in round k
  senders_in : Cycle → ℕ → List ℕ → Question
  -- the values that truck i hears in round k of a recording, in two rounds
  values : ℕ → ℕ → List ℕ → Question
  -- how many messages are sent in round k of a recording, and how many of them each truck hears, in two rounds
  messages : ℕ → List ℕ → Question
  -- starting a fleet of n trucks with these openings
  starts : ℕ → List ℕ → Question
  -- running a recording in a cycle
  runs_in : Cycle → List ℕ → Question
  -- reading a recording to plain form into these two buffers, for openings and for words
  reads : List ℕ → List ℕ → List ℕ → Question
  -- listing a recording in this buffer
  lists : List ℕ → List ℕ → Question
  -- writing these counts, openings and words into this buffer
  writes_into : ℕ → ℕ → List ℕ → List ℕ → List ℕ → Question
  -- what writing them is refused for, where the buffer is long enough
  writes : ℕ → ℕ → List ℕ → List ℕ → Question
  -- what a step by these words is refused for, of a record of n trucks with so many rounds done, where these trucks stand in the first places and all others run
  steps_in : Cycle → ℕ → ℕ → List Truck → List ℕ → Question
  -- the n trucks that it returns
  returns_in : Cycle → ℕ → ℕ → List Truck → List ℕ → Question
  -- the record that these bytes are
  unpacks : List ℕ → Question
  -- a step of the record that these bytes are, by these words
  steps_bytes_in : Cycle → List ℕ → List ℕ → Question
  -- the opening crusher of three lists
  opens : List ℕ → List ℕ → List ℕ → Question
  -- the exact seconds of a road of this length, metres and seconds, as quotient and remainder
  takes : ℕ → ℕ → ℕ → Question

-- in two rounds
abbrev pub grades : List ℕ → Question
grades = grades_in TwoRound

abbrev pub estimates : ℕ → List ℕ → Question
estimates = estimates_in TwoRound

abbrev pub senders : ℕ → List ℕ → Question
senders = senders_in TwoRound

abbrev pub steps_of : ℕ → ℕ → List Truck → List ℕ → Question
steps_of = steps_in TwoRound

abbrev pub runs : List ℕ → Question
runs = runs_in TwoRound

-- of n running trucks
abbrev pub steps : ℕ → ℕ → List ℕ → Question
steps n done = steps_of n done []

pub data Reply : Type 0 where
  bytes : List ℕ → Reply
  grading : Result Grades Refusal → Reply
  numbers : List ℕ → Reply
  trucks : List Truck → Reply
  -- a refusal by its number and what it names
  refused : ℕ × Option Location → Reply
  -- the same, or 0, with the record that the answer holds
  holds : ℕ × Option Location → Fleet → Reply
  -- an answer by its number and values, and the lent buffers as they are left
  left : ℕ × List ℕ → List (List ℕ) → Reply
  opening : ℕ × List ℕ → Reply
  exactly : ℕ × ℕ → Reply

-- round k of a recording on the radio
abbrev round_of : Cycle → List ℕ → ℕ → Radio
round_of c s k = radios_in (chosen c).rules (trucks_of s) (openings_of s) (round_at s) k

-- the first n trucks of a list
abbrev first_of : ℕ → List Truck → Reply
first_of n ts = trucks (tab (truck ts) n)

-- a record of n trucks with so many rounds done, where these trucks stand in the first places and all others run
abbrev record_of : ℕ → ℕ → List Truck → Fleet
record_of n done ts = record { n = n; done = done; trucks = ts ++ drop (length ts) (opened_trucks []) }

abbrev outcome : Outcome → Reply
outcome o = refused (outcome_number o, outcome_location o)

abbrev held : Answer → Reply
held a = holds (outcome_number a.outcome, outcome_location a.outcome) a.fleet

-- the reply that the definitions give
unfoldable pub reply : Question → Reply
reply (prints s) = bytes (printed s)
reply (shows k) = bytes (decimal k)
reply (grades_in c s) = grading (graded_in (chosen c) s)
reply (leaves_in c s) = first_of (trucks_of s) (ran_in (chosen c) s).fleet.trucks
reply (estimates_in c k s) =
    let ts = trucks_in (chosen c).rules (trucks_of s) (openings_of s) (round_at s) k in
    numbers (tab (λ i. (truck ts i).estimate) (trucks_of s))
reply (senders_in c k s) = numbers (who (round_of c s k).sends (trucks_of s))
reply (values i k s) = numbers (values_heard (round_of TwoRound s k) (trucks_at (trucks_of s) (openings_of s) (round_at s) (k - 1)) i)
reply (messages k s) = numbers (sent (round_of TwoRound s k) ∷ tab (heard (round_of TwoRound s k)) (trucks_of s))
reply (starts n openings) = held (started n openings)
reply (runs_in c s) = held (ran_in (chosen c) s)
reply (reads s openings words) = let l = read_plain s openings words in left (read_answer l.answer) (l.openings ∷ l.words ∷ [])
reply (lists s buffer) = let l = listed s buffer in left (list_answer l.answer) (l.buffer ∷ [])
reply (writes_into n R openings words buffer) =
    let l = write_plain n R openings words buffer in left (write_answer l.answer) (l.buffer ∷ [])
reply (writes n R openings words) = outcome (plain_check n R openings words)
reply (steps_in c n done ts words) = outcome (step_check_in (chosen c) (record_of n done ts) words)
reply (returns_in c n done ts words) = first_of n (stepped_in (chosen c) (record_of n done ts) words).fleet.trucks
reply (unpacks d) = held (unpacked d)
reply (steps_bytes_in c d words) = left (outcome_number (bytes_check_in (chosen c) d words), []) (bytes_step_in (chosen c) d words ∷ [])
reply (opens lengths metres seconds) = opening (opening_answer (opening_of lengths metres seconds))
reply (takes length metres seconds) =
    let r : Road = record { length = length; metres = metres; seconds = seconds } in
    exactly (numerator r / denominator r, numerator r % denominator r)

-- a text, and four grades, as document 01 writes them; a grading that is refused
abbrev pub says : String → Reply
says s = bytes (text s)

abbrev pub grades_are : ℕ → ℕ → ℕ → ℕ → Reply
grades_are c m z a = grading (Ok (record { complete = c; majority = m; zero = z; accurate = a }))

abbrev pub not_graded : Refusal → Reply
not_graded r = grading (Err r)
