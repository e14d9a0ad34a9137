-- What a run from the bytes of a recording comes to.
use Rattle.std.specs.Prelude.{ℕ, ◌≡◌, Bool, cond, List, length}
use Rattle.recording.specs.Packed.{trucks_of, openings_of}
use Rattle.protocol.specs.declared.Fleet.{Fleet}
use Rattle.protocol.specs.declared.Grades.{Grades}
use Rattle.protocol.specs.Cycles.{Rules}
use Rattle.protocol.specs.Rules.{recorded}
use Rattle.protocol.specs.Runs.{radios_in, grades_for}
use Rattle.protocol.specs.Fleets.{Protocol, fleet_in}
use Rattle.playback.specs.Grading.{grades_of}

abbrev pub no_grades : Grades
no_grades = record { complete = 0; majority = 0; zero = 0; accurate = 0 }

-- the record of a recording after k of these rounds by a protocol
abbrev pub fleet_after : Protocol → (ℕ → List ℕ) → List ℕ → ℕ → Fleet
fleet_after p rounds s k = fleet_in p (trucks_of s) (openings_of s) rounds k

-- the grades of the first k of these rounds by the rules of a cycle, where they are asked for
unfoldable pub grades_after : Rules recorded → (ℕ → List ℕ) → List ℕ → Bool → ℕ → Grades
grades_after c rounds s judging k = cond judging (grades_for (radios_in c (trucks_of s) (openings_of s) rounds) k) no_grades

-- these four numbers are the grades of the first k rounds
pub record FoundAfter (c : Rules recorded) (rounds : ℕ → List ℕ) (s : List ℕ) (judging : Bool) (k : ℕ) (l : List ℕ) : Type 0 where
  pub four : length l ≡ 4
  pub grades : grades_of l ≡ grades_after c rounds s judging k
