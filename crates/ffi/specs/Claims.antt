-- Demand 3 on bytes, for any protocol: callers in other languages hold a fleet record as 323 bytes, and know by the number 0 that a call was accepted and that their
-- buffer had room.
use Rattle.std.specs.Prelude.{◌≡◌, List, [], ◌∷◌, ℕ, ◌+◌, ◌≤◌, eqb, length, get_or, Ok}
use Rattle.basics.specs.Lists.{filled}
use Rattle.refusals.specs.Numbers.{outcome_number}
use Rattle.refusals.specs.declared.Refusal.TheVariants.{RoundsDone}
use Rattle.refusals.specs.Outcomes.{refuse}
use Rattle.recording.specs.Packed.{trucks_of, rounds_of, openings_of, round_at}
use Rattle.recording.specs.Checks.{round_check}
use Rattle.protocol.specs.declared.Fleet.{Fleet}
use Rattle.protocol.specs.Fleets.{Protocol, two_round, six_round}
use Rattle.protocol.specs.Steps.{taken, round_in, recording_of}
use Rattle.protocol.specs.Claims.{Agreed, Marks, Claim, agrees_with, decides_in, MajorityMarks, MixedMarks, ZeroMarks, counts_sent}
use Rattle.protocol.specs.Claims.{Class, Complete, MajorityComplete, ZeroComplete, Accurate}
use Rattle.recordbytes.specs.Layout.{size_for, unpacked}
use Rattle.ffi.specs.Calls.{call_result, buffer_of, grade_call_in, start_call, step_call_in, run_call_in, bytes_after_in}

-- the bytes are a record, of which this is claimed
pub record RecordWith (claimed : Fleet → Type 0) (bytes : List ℕ) : Type 0 where
  pub whole : (unpacked bytes).outcome ≡ Ok tt
  pub claim : claimed (unpacked bytes).fleet

module _ (p : Protocol) where
  -- the bytes that a start in the buffer d and a list of steps leave, refused ones included
  abbrev pub bytes_of : ℕ → List ℕ → List ℕ → List (List ℕ) → List ℕ
  bytes_of n openings d steps = bytes_after_in p (buffer_of (start_call n openings d)) steps

  -- a claim holds of every list of steps on bytes after a start that answers 0, that is of the rounds taken and the record that the bytes are; and of every run that
  -- answers 0
  pub record HoldsOnBytes (claim : Claim) : Type 0 where
    pub steps : (n : ℕ) (openings d : List ℕ) (steps : List (List ℕ)) → (start_call n openings d).number ≡ 0
        → RecordWith (claim n openings (round_in (taken n steps)) (length (taken n steps))) (bytes_of n openings d steps)
    pub run : (s d : List ℕ) → (run_call_in p s d).number ≡ 0
        → RecordWith (claim (trucks_of s) (openings_of s) (round_at s) (rounds_of s)) (buffer_of (run_call_in p s d))

  -- stepped or run on bytes
  pub record SameOnBytes (n : ℕ) (openings d : List ℕ) (steps : List (List ℕ)) : Type 0 where
    -- the next step answers 14, 8, 6 or 0, and never 7
    pub next_step : (w : List ℕ) → (step_call_in p (bytes_of n openings d steps) w).number
        ≡ outcome_number (refuse (eqb (length (taken n steps)) 400) RoundsDone (round_check n (length (taken n steps) + 1) w))
    -- running the list's recording into any buffer with room answers 0 and puts there the 323 bytes that the steps left; everything past them stays
    pub as_run : (e : List ℕ) → size_for 32 ≤ length e
        → run_call_in p (recording_of n openings steps) e ≡ call_result 0 (filled (λ k. get_or (bytes_of n openings d steps) k 0) (size_for 32) e ∷ []) []
    -- so they are the same record
    pub same_record : (e : List ℕ) → size_for 32 ≤ length e
        → unpacked (buffer_of (run_call_in p (recording_of n openings steps) e)) ≡ unpacked (bytes_of n openings d steps)

  -- the whole of demand 3 on bytes, where agreement is promised with such marks
  pub record DemandOnBytes (marks : Marks) : Type 0 where
    pub agreement : HoldsOnBytes (agrees_with marks)
    pub deciding : HoldsOnBytes (decides_in p)
    pub same : (n : ℕ) (openings d : List ℕ) (steps : List (List ℕ)) → (start_call n openings d).number ≡ 0 → SameOnBytes n openings d steps

-- of document 01's protocol and of the six-round cycle
abbrev pub BytesDemand : Type 0
BytesDemand = DemandOnBytes two_round MajorityMarks

abbrev pub SixBytesDemand : Type 0
SixBytesDemand = DemandOnBytes six_round ZeroMarks

-- agreement with cheaper marks in even rounds (document 02, F-12), and what the counts are from a fresh start (F-5)
abbrev pub MixedBytesAgreement : Type 0
MixedBytesAgreement = HoldsOnBytes two_round (agrees_with MixedMarks)

abbrev pub BytesSentCounts : Type 0
BytesSentCounts = HoldsOnBytes two_round counts_sent

-- where the grade of a class stands among the four numbers of a grading
abbrev pub grade_place : Class → ℕ
grade_place Complete = 0
grade_place MajorityComplete = 1
grade_place ZeroComplete = 2
grade_place Accurate = 3

module _ (p : Protocol) (c : Class) where
  -- grading a recording into a buffer answers 0 and puts there a grade of 0 for the class
  abbrev pub GradedZero : List ℕ → List ℕ → Type 0
  GradedZero s grades = ((grade_call_in p s grades).number ≡ 0) × (get_or (buffer_of (grade_call_in p s grades)) (grade_place c) 0 ≡ 0)

  -- a grade of 0 gives agreement, and decisions being openings, to the bytes of a run; and to those of a list of steps whose recording has it
  pub record BytesAgreeByGrade : Type 0 where
    pub steps : (n : ℕ) (openings d grades : List ℕ) (steps : List (List ℕ)) → (start_call n openings d).number ≡ 0
        → GradedZero (recording_of n openings steps) grades → RecordWith (Agreed n openings) (bytes_of p n openings d steps)
    pub run : (s d grades : List ℕ) → (run_call_in p s d).number ≡ 0
        → GradedZero s grades → RecordWith (Agreed (trucks_of s) (openings_of s)) (buffer_of (run_call_in p s d))
