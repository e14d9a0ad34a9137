-- What the grade of a class says, in any cycle, and agreement by a grade of 0.
use mathlib.Core.Path.{◌≡◌, refl, ap, ◌∙◌}
use mathlib.Core.List.{List}
use Prim.Native.Nat.{ℕ}
use native.Mathlib.Omega.{arith}
use Rattle.std.specs.Prelude.{Ok, Err}
use Rattle.radio.specs.Radio.{Radio, first_break}
use Rattle.radio.proofs.Laws.{break_never, break_first}
use Rattle.recording.specs.Packed.{trucks_of, rounds_of, openings_of, round_at}
use Rattle.recording.specs.Checks.{check_of}
use Rattle.protocol.specs.declared.Grades.{Grades}
use Rattle.protocol.specs.Runs.{radios_in, grades_for}
use Rattle.protocol.specs.Fleets.{Protocol, two_round, six_round, grading_for, graded_in, blank, started, fleet_in, ran_in}
use Rattle.protocol.specs.Steps.{recording_of, last_record_in}
use Rattle.protocol.specs.Claims.{Agreed, DemandIn, Class, Complete, MajorityComplete, ZeroComplete, Accurate, asks, grade_of, MarksOf, GradesSay, AgreesByGrade}
use Rattle.protocol.proofs.Steps.{answer-outcome, recording_back}
use Rattle.protocol.proofs.Demand.{accepted-start}
use Rattle.protocol.proofs.Demand3.{demand_3}
use Rattle.protocol.proofs.SixDemand.{six-demand}
use Rattle.refusals.specs.Outcomes.{Outcome}

-- a grade is the first break of its class
grade_break : (c : Class) (radios : ℕ → Radio) (R : ℕ) → grade_of c (grades_for radios R) ≡ first_break (asks c) radios R
unfolding grades_for
grade_break Complete radios R = refl
grade_break MajorityComplete radios R = refl
grade_break ZeroComplete radios R = refl
grade_break Accurate radios R = refl

module _ (p : Protocol) (s : List ℕ) where
  abbrev radios : ℕ → Radio
  radios = radios_in p.rules (trucks_of s) (openings_of s) (round_at s)

  -- a grading is that of an accepted recording's rounds
  graded_by : (g : Grades) → graded_in p s ≡ Ok g → (check_of s ≡ Ok tt) × (g ≡ grades_for radios (rounds_of s))
  unfolding graded_in
  graded_by g h = go (check_of s) h
    where
      go : (o : Outcome) → grading_for o (grades_for radios (rounds_of s)) ≡ Ok g → (o ≡ Ok tt) × (g ≡ grades_for radios (rounds_of s))
      go (Ok _) e = (refl, cc)
      go (Err r) e = let z : ◌≡◌ {A = ℕ} 0 1 = cc in absurd (omega arith)

  -- what is graded is run
  graded-runs : (g : Grades) → graded_in p s ≡ Ok g → (ran_in p s).outcome ≡ Ok tt
  unfolding ran_in
  graded-runs g h = answer-outcome (check_of s) (fleet_in p (trucks_of s) (openings_of s) (round_at s) (rounds_of s)) blank ∙ (graded_by g h).0

module _ (p : Protocol) (c : Class) where
  -- 0 says that marks are of the class in every round, any other number which round is the first that breaks it
  pub grades_say : GradesSay p c
  grades_say s g h =
      rw (ap (grade_of c) (graded_by p s g h).1 ∙ grade_break c (radios p s) (rounds_of s))
      (record { never = break_never (asks c) (radios p s) (rounds_of s); first = break_first (asks c) (radios p s) (rounds_of s) })

  -- where agreement is promised with marks of the class, a grade of 0 gives it
  pub grade_agrees : DemandIn p (MarksOf p c) → AgreesByGrade p c
  grade_agrees demand = record { steps = by_steps; run = by_run }
    where
      by_run : (s : List ℕ) (g : Grades) → graded_in p s ≡ Ok g → grade_of c g ≡ 0 → Agreed (trucks_of s) (openings_of s) (ran_in p s).fleet
      by_run s g h z = demand.agreement.run s (graded-runs p s g h) ((grades_say s g h).never z)

      by_steps : (n : ℕ) (openings : List ℕ) (steps : List (List ℕ)) (g : Grades) → (started n openings).outcome ≡ Ok tt
          → graded_in p (recording_of n openings steps) ≡ Ok g → grade_of c g ≡ 0 → Agreed n openings (last_record_in p (started n openings).fleet steps)
      by_steps n openings steps g a h z =
          let back = recording_back n openings (accepted-start n openings a) steps in
          rw (back.trucks, back.crushers, (demand.same n openings steps a).as_run) at (by_run (recording_of n openings steps) g h z)

-- in the two-round cycle where the grade of majority complete is 0
pub two_grade : AgreesByGrade two_round MajorityComplete
two_grade = grade_agrees two_round MajorityComplete demand_3

-- in the six-round cycle where the grade of zero complete is 0
pub six_grade : AgreesByGrade six_round ZeroComplete
six_grade = grade_agrees six_round ZeroComplete six-demand
