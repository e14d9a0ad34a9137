-- What demand 3 says (document 01, 'Whole lists of steps'), for any protocol. Who runs, sends, hears, misses, stops and decides is `trucks_in` and `radios_in`:
-- it follows from n, the openings and the words of the rounds. Besides, what a grade says, and what the counts of messages are.
use Rattle.std.specs.Prelude.{◌≡◌, Bool, true, false, cond, not, ◌&&◌, List, ℕ, ◌+◌, ◌≤◌, ◌<◌, eqb, length, get_or, Ok}
use Rattle.basics.specs.Bits.{odd}
use Rattle.radio.specs.Round.{active_bit}
use Rattle.radio.specs.Radio.{Radio, complete, majority_complete, zero_complete, accurate, calm_for, FirstToBreak, times_sent}
use Rattle.refusals.specs.declared.Refusal.TheVariants.{RoundsDone}
use Rattle.refusals.specs.Outcomes.{refuse}
use Rattle.recording.specs.Checks.{round_check}
use Rattle.recording.specs.Packed.{trucks_of, rounds_of, openings_of, round_at}
use Rattle.protocol.specs.declared.State.{State}
use Rattle.protocol.specs.declared.State.TheVariants.{Running, Stopped, Decided}
use Rattle.protocol.specs.declared.Fleet.{Fleet}
use Rattle.protocol.specs.declared.Grades.{Grades}
use Rattle.protocol.specs.Cycles.{Kind, truck_in}
use Rattle.protocol.specs.Rules.{recorded, truck, radio_of}
use Rattle.protocol.specs.Runs.{radios_in, radio_at}
use Rattle.protocol.specs.Fleets.{Protocol, two_round, six_round, started, stepped_in, stepped, ran_in, graded_in}
use Rattle.protocol.specs.Steps.{last_record_in, taken, round_in, recording_of}

abbrev pub is_decided : State → Bool
is_decided Running = false
is_decided (Stopped k) = false
is_decided (Decided k) = true

-- decided or stopped, in a round of at most m
abbrev pub EndedBy : ℕ → State → Type 0
EndedBy m Running = ⊥
EndedBy m (Stopped k) = k ≤ m
EndedBy m (Decided k) = k ≤ m

-- the decided ones of n trucks of any kind: no two hold different crushers, and each holds one of the n openings
pub record AgreedIn {T : Type 0} (K : Kind T) (n : ℕ) (openings : List ℕ) (ts : List T) : Type 0 where
  pub same : (i j : ℕ) → i < n → j < n → is_decided (K.state (truck_in K ts i)) ≡ true → is_decided (K.state (truck_in K ts j)) ≡ true
      → K.estimate (truck_in K ts i) ≡ K.estimate (truck_in K ts j)
  pub opening : (i : ℕ) → i < n → is_decided (K.state (truck_in K ts i)) ≡ true
      → (j : ℕ) × (j < n) × (K.estimate (truck_in K ts i) ≡ get_or openings j 0)

-- the decided trucks of a fleet record
abbrev pub Agreed : ℕ → List ℕ → Fleet → Type 0
Agreed n openings f = AgreedIn recorded n openings f.trucks

-- what is said of the marks of R rounds, by n, the openings, the words of the rounds and R
abbrev pub Marks : Type 1
Marks = ℕ → List ℕ → (ℕ → List ℕ) → ℕ → Type 0

-- what is said besides of the record that the rounds leave
abbrev pub Claim : Type 1
Claim = ℕ → List ℕ → (ℕ → List ℕ) → ℕ → Fleet → Type 0

-- the claim of agreement: with such marks in every round taken the decided trucks agree
abbrev pub agrees_with : Marks → Claim
agrees_with marks n openings rounds R f = marks n openings rounds R → Agreed n openings f

module _ (p : Protocol) where
  -- in each of R rounds marks are worth what is asked of them, by the round's number
  abbrev pub MarksIn : (ℕ → Radio → Bool) → Marks
  MarksIn worth n openings rounds R = (k : ℕ) → 1 ≤ k → k ≤ R → worth k (radios_in p.rules n openings rounds k) ≡ true

  -- the R rounds are calm from S with b
  unfoldable pub calm_in : ℕ → List ℕ → (ℕ → List ℕ) → ℕ → ℕ → ℕ → Bool
  calm_in n openings rounds R S b = calm_for p.calm_span p.proposes (radios_in p.rules n openings rounds) R S b

  -- the claim of deciding: with calm from S with b each truck below n is decided or stopped, in a round no later than the last calm one
  abbrev pub decides_in : Claim
  decides_in n openings rounds R f =
      (S b : ℕ) → calm_in n openings rounds R S b ≡ true → (i : ℕ) → i < n → EndedBy (S + p.calm_span) (truck f.trucks i).state

  -- a claim holds of every list of steps, refused ones included, after an accepted start, that is of the rounds taken and the record returned last; and of every
  -- accepted recording run
  pub record HoldsIn (claim : Claim) : Type 0 where
    pub steps : (n : ℕ) (openings : List ℕ) (steps : List (List ℕ)) → (started n openings).outcome ≡ Ok tt
        → claim n openings (round_in (taken n steps)) (length (taken n steps)) (last_record_in p (started n openings).fleet steps)
    pub run : (s : List ℕ) → (ran_in p s).outcome ≡ Ok tt → claim (trucks_of s) (openings_of s) (round_at s) (rounds_of s) (ran_in p s).fleet

  -- stepped or run, of a start with n and openings and a list of steps, refused ones included: running the list's recording is accepted and returns the record that
  -- the list returned last
  pub record SameIn (n : ℕ) (openings : List ℕ) (steps : List (List ℕ)) : Type 0 where
    -- of the next step only 14, 8 and 6 can be refused: no record that a start and steps returned is refused 7; 6 names the round after those taken
    pub next_step : (w : List ℕ) → (stepped_in p (last_record_in p (started n openings).fleet steps) w).outcome
        ≡ refuse (eqb (length (taken n steps)) 400) RoundsDone (round_check n (length (taken n steps) + 1) w)
    pub as_run : ran_in p (recording_of n openings steps) ≡ record { outcome = Ok tt; fleet = last_record_in p (started n openings).fleet steps }

  -- the whole of demand 3, where agreement is promised with such marks
  pub record DemandIn (marks : Marks) : Type 0 where
    pub agreement : HoldsIn (agrees_with marks)
    pub deciding : HoldsIn decides_in
    pub same : (n : ℕ) (openings : List ℕ) (steps : List (List ℕ)) → (started n openings).outcome ≡ Ok tt → SameIn n openings steps

-- marks are majority complete in every round
abbrev pub MajorityMarks : Marks
MajorityMarks = MarksIn two_round (λ k. majority_complete)

-- marks are majority complete in odd rounds and zero complete in even ones
abbrev pub MixedMarks : Marks
MixedMarks = MarksIn two_round two_round.worth

-- demand 3 of document 01's protocol, and its agreement part
abbrev pub Demand : Type 0
Demand = DemandIn two_round MajorityMarks

abbrev pub MajorityAgreement : Type 0
MajorityAgreement = HoldsIn two_round (agrees_with MajorityMarks)

-- agreement, and decisions being openings, with cheaper marks in even rounds (document 02, F-12); false marks are allowed, and nothing else is assumed
abbrev pub MixedAgreement : Type 0
MixedAgreement = HoldsIn two_round (agrees_with MixedMarks)

-- marks are zero complete in every round
abbrev pub ZeroMarks : Marks
ZeroMarks = MarksIn six_round (λ k. zero_complete)

-- what document 02, F-4, asks to be shown of the six-round cycle, from the start and in every round: agreement, and decisions being openings, with zero complete
-- marks; with eleven calm rounds from S, in whose prepare rounds there are senders, each truck is decided or stopped by round S + 10; stepped or run the same
abbrev pub SixDemand : Type 0
SixDemand = DemandIn six_round ZeroMarks

-- the four classes of marks that a grading judges
pub data Class : Type 0 where
  Complete : Class
  MajorityComplete : Class
  ZeroComplete : Class
  Accurate : Class

-- what a class asks of a round
abbrev pub asks : Class → Radio → Bool
asks Complete = complete
asks MajorityComplete = majority_complete
asks ZeroComplete = zero_complete
asks Accurate = accurate

-- its grade
abbrev pub grade_of : Class → Grades → ℕ
grade_of Complete g = g.complete
grade_of MajorityComplete g = g.majority
grade_of ZeroComplete g = g.zero
grade_of Accurate g = g.accurate

module _ (p : Protocol) (c : Class) where
  -- marks are of the class in every round
  abbrev pub MarksOf : Marks
  MarksOf = MarksIn p (λ k. asks c)

  -- what its grade says of a recording: 0 that marks are of the class in every round, any other number which round is the first that breaks it
  pub record GradeSays (s : List ℕ) (grade : ℕ) : Type 0 where
    pub never : grade ≡ 0 → MarksOf (trucks_of s) (openings_of s) (round_at s) (rounds_of s)
    pub first : (grade ≡ 0 → ⊥) → FirstToBreak (asks c) (radios_in p.rules (trucks_of s) (openings_of s) (round_at s)) (rounds_of s) grade

  -- what a grading says of every recording that it is given of
  abbrev pub GradesSay : Type 0
  GradesSay = (s : List ℕ) (g : Grades) → graded_in p s ≡ Ok g → GradeSays s (grade_of c g)

  -- a grade of 0 gives agreement, and decisions being openings, to the run of an accepted recording; and to a list of steps whose recording has it
  pub record AgreesByGrade : Type 0 where
    pub steps : (n : ℕ) (openings : List ℕ) (steps : List (List ℕ)) (g : Grades) → (started n openings).outcome ≡ Ok tt
        → graded_in p (recording_of n openings steps) ≡ Ok g → grade_of c g ≡ 0 → Agreed n openings (last_record_in p (started n openings).fleet steps)
    pub run : (s : List ℕ) (g : Grades) → graded_in p s ≡ Ok g → grade_of c g ≡ 0 → Agreed (trucks_of s) (openings_of s) (ran_in p s).fleet

-- each truck below n has sent as many proposals as there are odd rounds in which it sends, and as many vetoes as there are even ones
abbrev pub counts_sent : Claim
counts_sent n openings rounds R f =
    (i : ℕ) → i < n
    → ((truck f.trucks i).sent.proposals ≡ times_sent odd (radio_at n openings rounds) i R)
    × ((truck f.trucks i).sent.vetoes ≡ times_sent (λ k. not (odd k)) (radio_at n openings rounds) i R)

-- what the counts are from a fresh start (document 02, F-5)
abbrev pub SentCounts : Type 0
SentCounts = HoldsIn two_round counts_sent

-- a step of a record adds 1 to a count of a truck exactly if its round is of that kind and the truck sends in it
abbrev pub StepCounts : Type 0
StepCounts =
    (f : Fleet) (w : List ℕ) → (stepped f w).outcome ≡ Ok tt → (i : ℕ) → i < f.n
    → let k = f.done + 1 in
    let a = radio_of f.n (active_bit w) k w f.trucks in
    let t = truck f.trucks i in
    let t' = truck (stepped f w).fleet.trucks i in
    (t'.sent.proposals ≡ cond (odd k && a.sends i) (t.sent.proposals + 1) t.sent.proposals)
    × (t'.sent.vetoes ≡ cond (not (odd k) && a.sends i) (t.sent.vetoes + 1) t.sent.vetoes)
