-- Whole runs: everything follows from n, the openings and the words of the rounds.
use Rattle.std.specs.Prelude.{ℕ, ◌-◌, Bool, List, get_or}
use Rattle.basics.specs.Lists.{tab}
use Rattle.basics.specs.Bits.{odd}
use Rattle.radio.specs.Round.{active_bit}
use Rattle.radio.specs.Radio.{Radio, complete, majority_complete, zero_complete, accurate, calm_for, first_break}
use Rattle.radio.specs.Runs.{state_at}
use Rattle.protocol.specs.declared.Truck.{Truck}
use Rattle.protocol.specs.declared.Grades.{Grades}
use Rattle.protocol.specs.Cycles.{Kind, Rules, radio_in, after_in}
use Rattle.protocol.specs.Rules.{recorded, two_rules}

-- the 32 places of a fleet that opens with these crushers; a place past the openings holds a truck of opening 0
unfoldable pub opened_in : {T : Type 0} → Kind T → List ℕ → List T
opened_in K openings = tab (λ i. K.opened (get_or openings i 0)) 32

module _ {T : Type 0} {K : Kind T} (c : Rules K) (n : ℕ) (openings : List ℕ) (rounds : ℕ → List ℕ) where
  -- the trucks after k rounds. `rounds` gives the words of each round, counted from 0
  unfoldable pub trucks_in : ℕ → List T
  trucks_in k = state_at (λ k w. after_in c n (active_bit w) k w) (opened_in K openings) rounds k

  -- round k on the radio, counted from 1
  unfoldable pub radios_in : ℕ → Radio
  radios_in k =
      let w = rounds (k - 1) in
      radio_in c n (active_bit w) k w (trucks_in (k - 1))

-- a grading: for each of the four classes the first of R rounds that breaks it, or 0
unfoldable pub grades_for : (ℕ → Radio) → ℕ → Grades
grades_for radios R =
    record {
      complete = first_break complete radios R;
      majority = first_break majority_complete radios R;
      zero = first_break zero_complete radios R;
      accurate = first_break accurate radios R;
    }

-- the 32 places of a fleet record before round 1; a place past the openings holds a running, willing truck of opening and estimate 0 with empty
-- memory and counts 0
abbrev pub opened_trucks : List ℕ → List Truck
opened_trucks = opened_in recorded

-- of the two-round cycle: the trucks after k rounds, and round k on the radio
abbrev pub trucks_at : ℕ → List ℕ → (ℕ → List ℕ) → ℕ → List Truck
trucks_at = trucks_in two_rules

abbrev pub radio_at : ℕ → List ℕ → (ℕ → List ℕ) → ℕ → Radio
radio_at = radios_in two_rules

-- the R rounds are calm from S with b: rounds S to S + 4
unfoldable pub calm : ℕ → List ℕ → (ℕ → List ℕ) → ℕ → ℕ → ℕ → Bool
calm n openings rounds R S b = calm_for 4 odd (radio_at n openings rounds) R S b
