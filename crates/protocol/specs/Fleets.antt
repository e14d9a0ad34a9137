-- Starting, stepping, running and grading a fleet, with their refusals (document 01, 'Who can cause which refusal'). The laws of what refusal 7 asks are in
-- proofs/Good.
use Rattle.std.specs.Prelude.{ℕ, ◌+◌, ◌/◌, ◌%◌, Bool, true, false, cond, not, ◌&&◌, ◌||◌, List, [], ◌∷◌, eqb, leb, ltb, Result, Ok, Err}
use Rattle.refusals.specs.declared.Refusal.{Refusal}
use Rattle.basics.specs.Lists.{all_below}
use Rattle.basics.specs.Bits.{odd}
use Rattle.radio.specs.Round.{active_bit}
use Rattle.radio.specs.Radio.{Radio, implies, majority_complete, zero_complete}
use Rattle.refusals.specs.declared.Refusal.TheVariants.{TruckCount, Record, RoundsDone}
use Rattle.refusals.specs.Numbers.{number_of}
use Rattle.refusals.specs.Outcomes.{Outcome, refuse}
use Rattle.recording.specs.Packed.{trucks_of, rounds_of, openings_of, round_at}
use Rattle.recording.specs.Checks.{bad_trucks, bad_openings, check_of, round_check}
use Rattle.protocol.specs.declared.Cycle.{Cycle}
use Rattle.protocol.specs.declared.Cycle.TheVariants.{TwoRound, SixRound}
use Rattle.protocol.specs.declared.Heard.{Heard}
use Rattle.protocol.specs.declared.Heard.TheVariants.{Nothing, One, Several}
use Rattle.protocol.specs.declared.State.{State}
use Rattle.protocol.specs.declared.State.TheVariants.{Running, Stopped, Decided}
use Rattle.protocol.specs.declared.Sent.{Sent}
use Rattle.protocol.specs.declared.Truck.{Truck}
use Rattle.protocol.specs.declared.Fleet.{Fleet}
use Rattle.protocol.specs.declared.Answer.{Answer}
use Rattle.protocol.specs.declared.Grades.{Grades}
use Rattle.protocol.specs.Cycles.{Rules, after_in}
use Rattle.protocol.specs.Rules.{recorded, two_rules, truck, runs}
use Rattle.protocol.specs.Six.{is_prepare, is_accept, six_rules}
use Rattle.protocol.specs.Runs.{opened_trucks, trucks_in, radios_in, grades_for}

-- the record that a refused start or run holds: n 0, no rounds done, and in every place a running, willing truck of opening and estimate 0 with empty memory and
-- counts 0
unfoldable pub blank : Fleet
blank = record { n = 0; done = 0; trucks = opened_trucks [] }

-- an outcome with the record of an accepted call, and with the other record where it is a refusal
abbrev pub answer : Outcome → Fleet → Fleet → Answer
answer (Ok _) f g = record { outcome = Ok tt; fleet = f }
answer (Err r) f g = record { outcome = Err r; fleet = g }

-- starting a fleet checks 2, 7
unfoldable pub start_check : ℕ → List ℕ → Outcome
start_check n openings = refuse (bad_trucks n) TruckCount (refuse (bad_openings n openings) Record (Ok tt))

-- starting a fleet of n trucks
unfoldable pub started : ℕ → List ℕ → Answer
started n openings = answer (start_check n openings) (record { n = n; done = 0; trucks = opened_trucks openings }) blank

-- a protocol by which fleets are stepped and recordings run: the rules of its cycle, and what refusal 7 and demand 3 ask by it
pub record Protocol : Type 0 where
  pub rules : Rules recorded
  -- the rounds in which trucks decide
  pub decisions : ℕ → Bool
  -- what refusal 7 asks of a truck's memory with some rounds done
  pub good_memory : ℕ → Truck → Bool
  -- what it asks of a truck's counts
  pub good_counts : ℕ → Sent → Bool
  -- what the marks of round k must be worth for agreement
  pub worth : ℕ → Radio → Bool
  -- calm from S lasts from round S to round S + `calm_span`
  pub calm_span : ℕ
  -- the rounds for proposals, in which calm asks for senders
  pub proposes : ℕ → Bool

-- the memory reads no mark and no value
abbrev pub is_empty : Bool → Heard → Bool
is_empty mark Nothing = not mark
is_empty mark One = false
is_empty mark Several = false

-- in the two-round cycle the memory is empty where the rounds done are even or the truck isn't running
abbrev pub two_memory : ℕ → Truck → Bool
two_memory done t = implies (not (odd done) || not (runs t)) (is_empty t.mark t.heard)

-- in the two-round cycle no truck has sent more proposals than there are odd rounds among those done, nor more vetoes than even ones
abbrev pub two_counts : ℕ → Sent → Bool
two_counts done c = leb c.proposals ((done + 1) / 2) && leb c.vetoes (done / 2)

-- in the two-round cycle marks must be majority complete in odd rounds and zero complete in even ones
abbrev pub two_worth : ℕ → Radio → Bool
two_worth k a = cond (odd k) (majority_complete a) (zero_complete a)

-- document 01's protocol
abbrev pub two_round : Protocol
two_round =
    record {
      rules = two_rules;
      decisions = λ k. not (odd k);
      good_memory = two_memory;
      good_counts = two_counts;
      worth = two_worth;
      calm_span = 4;
      proposes = odd;
    }

-- in the six-round cycle a truck is unwilling only while it runs and 2 to 5 rounds of the cycle are done; this takes the place of the memory
abbrev pub six_memory : ℕ → Truck → Bool
six_memory done t = implies t.unwilling (runs t && leb 2 (done % 6))

-- the six-round protocol of document 02, F-4; it does not judge the counts
abbrev pub six_round : Protocol
six_round =
    record {
      rules = six_rules;
      decisions = is_accept;
      good_memory = six_memory;
      good_counts = λ done c. true;
      worth = λ k. zero_complete;
      calm_span = 10;
      proposes = is_prepare;
    }

-- the protocol of the cycle that a caller chose
abbrev pub chosen : Cycle → Protocol
chosen TwoRound = two_round
chosen SixRound = six_round

-- an outcome with the grades of an accepted call
abbrev pub grading_for : Outcome → Grades → Result Grades Refusal
grading_for (Ok _) g = Ok g
grading_for (Err r) g = Err r

-- an answer by document 01's number and values: complete, majority, zero and accurate, where it is no refusal
abbrev pub grade_answer : Result Grades Refusal → ℕ × List ℕ
grade_answer (Ok g) = (0, g.complete ∷ g.majority ∷ g.zero ∷ g.accurate ∷ [])
grade_answer (Err r) = (number_of r, [])

-- round k is not 0 and not later than the rounds done
abbrev pub is_done : ℕ → ℕ → Bool
is_done done k = ltb 0 k && leb k done

module _ (p : Protocol) where
  -- a stop round is one of the rounds done; a decided round is besides one in which trucks decide
  abbrev pub good_state_in : ℕ → State → Bool
  good_state_in done Running = true
  good_state_in done (Stopped k) = is_done done k
  good_state_in done (Decided k) = is_done done k && p.decisions k

  -- what refusal 7 asks of one truck: no crusher above 15, a good round, a good memory, and good counts
  unfoldable pub good_truck_in : ℕ → Truck → Bool
  good_truck_in done t =
      leb t.opening 15 && leb t.estimate 15 && good_state_in done t.state && p.good_memory done t && p.good_counts done t.sent

  -- a fleet record that refusal 7 lets pass; places n and above are not read
  unfoldable pub good_fleet_in : Fleet → Bool
  good_fleet_in f =
      not (bad_trucks f.n) && leb f.done 400 && all_below (λ i. good_truck_in f.done (truck f.trucks i)) f.n

  -- a step checks 7, 14, 8, 6; it names the round that it would have been
  unfoldable pub step_check_in : Fleet → List ℕ → Outcome
  step_check_in f w = refuse (not (good_fleet_in f)) Record (refuse (eqb f.done 400) RoundsDone (round_check f.n (f.done + 1) w))

  -- the record after a round in plain form
  unfoldable pub next_fleet_in : Fleet → List ℕ → Fleet
  next_fleet_in f w =
      record { n = f.n; done = f.done + 1; trucks = after_in p.rules f.n (active_bit w) (f.done + 1) w f.trucks }

  -- a step by a round in plain form; a refused step returns the record it was given
  unfoldable pub stepped_in : Fleet → List ℕ → Answer
  stepped_in f w = answer (step_check_in f w) (next_fleet_in f w) f

  -- the record of n trucks after R rounds
  unfoldable pub fleet_in : ℕ → List ℕ → (ℕ → List ℕ) → ℕ → Fleet
  fleet_in n openings rounds R = record { n = n; done = R; trucks = trucks_in p.rules n openings rounds R }

  -- running a recording: all its rounds
  unfoldable pub ran_in : List ℕ → Answer
  ran_in s = answer (check_of s) (fleet_in (trucks_of s) (openings_of s) (round_at s) (rounds_of s)) blank

  -- grading a recording
  unfoldable pub graded_in : List ℕ → Result Grades Refusal
  graded_in s = grading_for (check_of s) (grades_for (radios_in p.rules (trucks_of s) (openings_of s) (round_at s)) (rounds_of s))

-- the same by document 01's protocol
abbrev pub good_state : ℕ → State → Bool
good_state = good_state_in two_round

abbrev pub good_truck : ℕ → Truck → Bool
good_truck = good_truck_in two_round

abbrev pub good_fleet : Fleet → Bool
good_fleet = good_fleet_in two_round

abbrev pub stepped : Fleet → List ℕ → Answer
stepped = stepped_in two_round

abbrev pub fleet_at : ℕ → List ℕ → (ℕ → List ℕ) → ℕ → Fleet
fleet_at = fleet_in two_round

abbrev pub ran : List ℕ → Answer
ran = ran_in two_round

abbrev pub graded : List ℕ → Result Grades Refusal
graded = graded_in two_round
