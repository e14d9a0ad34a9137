-- The round and the truck that a refusal names (document 02, F-7): 6 alone names them.
use Rattle.std.specs.Prelude.{ℕ, ◌+◌, ◌*◌, Option, Ok, Err, Some, None}
use Rattle.refusals.specs.declared.Refusal.{Refusal}
use Rattle.refusals.specs.declared.Refusal.TheVariants.{ShortRecording, TruckCount, RoundCount, RecordingLength, EndBit, OwnLoss, Record}
use Rattle.refusals.specs.declared.Refusal.TheVariants.{PlainRound, ShortBuffer, RoadLists, Seconds, NoTime, AllIdle, RoundsDone}
use Rattle.refusals.specs.declared.Location.{Location}
use Rattle.refusals.specs.Outcomes.{Outcome}

-- a round, counted from 1, and a truck
abbrev pub location_at : ℕ → ℕ → Option Location
location_at round truck = Some (record { round = round; truck = truck })

abbrev pub location_of : Refusal → Option Location
location_of ShortRecording = None
location_of TruckCount = None
location_of RoundCount = None
location_of RecordingLength = None
location_of EndBit = None
location_of (OwnLoss round truck) = location_at round truck
location_of Record = None
location_of PlainRound = None
location_of ShortBuffer = None
location_of RoadLists = None
location_of Seconds = None
location_of NoTime = None
location_of AllIdle = None
location_of RoundsDone = None

-- of an outcome: nothing where it is no refusal
abbrev pub outcome_location : Outcome → Option Location
outcome_location (Ok _) = None
outcome_location (Err r) = location_of r

-- a location as one number: 256 times the round, and the truck; 0 where none is named
abbrev pub location_number : Option Location → ℕ
location_number None = 0
location_number (Some p) = p.round * 256 + p.truck
