-- The refusals of document 01, 'Who can cause which refusal', and their numbers there.
use Rattle.std.specs.Prelude.{ℕ, Bool, true, false, List, [], Ok, Err}
use Rattle.refusals.specs.declared.Refusal.{Refusal}
use Rattle.refusals.specs.declared.Refusal.TheVariants.{ShortRecording, TruckCount, RoundCount, RecordingLength, EndBit, OwnLoss, Record}
use Rattle.refusals.specs.declared.Refusal.TheVariants.{PlainRound, ShortBuffer, RoadLists, Seconds, NoTime, AllIdle, RoundsDone}
use Rattle.refusals.specs.Outcomes.{Outcome}

abbrev pub number_of : Refusal → ℕ
-- fewer than 2 bytes
number_of ShortRecording = 1
-- n is 0 or above 32
number_of TruckCount = 2
-- R above 400
number_of RoundCount = 3
-- byte length differs from the one n and R fix
number_of RecordingLength = 4
-- a leftover end bit is 1
number_of EndBit = 5
-- an own loss bit is 1; it names the round and the truck
number_of (OwnLoss round truck) = 6
-- a fleet record, an opening or a number of openings outside the limits
number_of Record = 7
-- plain rounds of the wrong number of words, or a bit at or above n set
number_of PlainRound = 8
-- a lent buffer too short
number_of ShortBuffer = 9
-- no roads, more than 16, or lists of unequal length
number_of RoadLists = 10
-- seconds above 3,600
number_of Seconds = 11
-- metres above 0 in 0 seconds
number_of NoTime = 12
-- every road idle and longer than 0
number_of AllIdle = 13
-- a step with 400 rounds already done
number_of RoundsDone = 14

-- the number that stands for an outcome: 0 is no refusal
abbrev pub outcome_number : Outcome → ℕ
outcome_number (Ok _) = 0
outcome_number (Err r) = number_of r

-- an answer by its number and values: a refusal's number with no value, or 0 with the values that the call gives
abbrev pub numbered : Outcome → List ℕ → ℕ × List ℕ
numbered (Ok _) values = (0, values)
numbered (Err r) values = (number_of r, [])

-- it is no refusal
abbrev pub accepted : Outcome → Bool
accepted (Ok _) = true
accepted (Err r) = false
