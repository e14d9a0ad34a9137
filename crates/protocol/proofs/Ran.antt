-- The record that running a recording leaves, by any protocol: refusal 7 lets it pass; with no rounds every truck runs on at its opening; and bytes past the
-- largest recording change nothing; and grading by number and values.
use mathlib.Core.Path.{◌≡◌, refl, ap, ◌∙◌}
use mathlib.Core.List.{List, [], ◌∷◌}
use mathlib.Core.Logic.{⊎_elim}
use Prim.Native.Nat.{ℕ, ◌≤◌, ◌<◌}
use native.Mathlib.Omega.{arith}
use lib.ListN.{take}
use Rattle.std.specs.Prelude.{Ok, Err}
use Rattle.basics.proofs.Laws.{get_or-tab}
use Rattle.refusals.specs.Numbers.{numbered}
use Rattle.refusals.specs.Outcomes.{Outcome}
use Rattle.recording.specs.Packed.{trucks_of, rounds_of, opening_at, openings_of, round_at, largest_recording}
use Rattle.recording.specs.Checks.{check_of}
use Rattle.recording.proofs.Accepted.{bytes_good}
use Rattle.recording.proofs.Limit.{check_cut}
use Rattle.recording.proofs.RoundTrip.{openings-read}
use Rattle.protocol.specs.declared.Fleet.{Fleet}
use Rattle.protocol.specs.declared.Grades.{Grades}
use Rattle.protocol.specs.Rules.{opened, truck}
use Rattle.protocol.specs.Runs.{radios_in, grades_for}
use Rattle.protocol.specs.Fleets.{Protocol, answer, grading_for, grade_answer, blank, fleet_in, ran_in, graded_in}
use Rattle.protocol.proofs.AnyRun.{opened-truck}
use Rattle.protocol.proofs.Good.{Sound, Good, good-at}

module _ (p : Protocol) (s : List ℕ) where
  -- the rounds of an accepted recording
  pub ran-fleet : check_of s ≡ Ok tt → (ran_in p s).fleet ≡ fleet_in p (trucks_of s) (openings_of s) (round_at s) (rounds_of s)
  unfolding ran_in
  ran-fleet h = rw h

  -- what refusal 7 asks of each truck
  pub ran-good : Sound p → check_of s ≡ Ok tt → (i : ℕ) → i < trucks_of s → Good p (rounds_of s) (truck (ran_in p s).fleet.trucks i)
  unfolding fleet_in
  ran-good sound h i l =
      rw (ran-fleet h) (good-at p sound (trucks_of s) (openings_of s) (bytes_good s h).frame.most (openings-read s) (round_at s) (rounds_of s) i l)

  -- R is 0
  pub ran_unplayed : check_of s ≡ Ok tt → rounds_of s ≡ 0 → (i : ℕ) → i < trucks_of s → truck (ran_in p s).fleet.trucks i ≡ opened (opening_at s i)
  unfolding fleet_in openings_of
  ran_unplayed h e i l =
      let m : trucks_of s ≤ 32 = (bytes_good s h).frame.most in
      rw (ran-fleet h, e)
      (opened-truck p.rules (trucks_of s) (openings_of s) (round_at s) i (omega arith) ∙ ap opened (get_or-tab (opening_at s) (trucks_of s) i 0 l))

-- a refused run holds the blank record, whatever the rest of the recording says
refused-same : (o : Outcome) (f g : Fleet) → (o ≡ Ok tt → ⊥) → answer o f blank ≡ answer o g blank
refused-same (Ok _) f g h = absurd (h refl)
refused-same (Err r) f g h = refl

-- the first m bytes of an input run to what the whole of it runs to, where m is above the largest recording
pub ran_cut : (p : Protocol) (s : List ℕ) (m : ℕ) → largest_recording < m → ran_in p (take m s) ≡ ran_in p s
unfolding ran_in
ran_cut p s m h =
    ⊎_elim (λ (e : take m s ≡ s). ap (ran_in p) e)
    (λ (c : (check_of (take m s) ≡ check_of s) × (check_of s ≡ Ok tt → ⊥)).
    ap (λ (o : Outcome). answer o (at (take m s)) blank) c.0 ∙ refused-same (check_of s) (at (take m s)) (at s) c.1)
    (check_cut s m h)
  where
    at : List ℕ → Fleet
    at s = fleet_in p (trucks_of s) (openings_of s) (round_at s) (rounds_of s)

-- the answer of grading, by document 01's number and values
pub grade_answer_lem : (p : Protocol) (s : List ℕ)
    → grade_answer (graded_in p s)
    ≡ numbered (check_of s)
    (let g = grades_for (radios_in p.rules (trucks_of s) (openings_of s) (round_at s)) (rounds_of s) in
    g.complete ∷ g.majority ∷ g.zero ∷ g.accurate ∷ [])
unfolding graded_in
grade_answer_lem p s = go (check_of s)
  where
    g : Grades
    g = grades_for (radios_in p.rules (trucks_of s) (openings_of s) (round_at s)) (rounds_of s)

    go : (o : Outcome) → grade_answer (grading_for o g) ≡ numbered o (g.complete ∷ g.majority ∷ g.zero ∷ g.accurate ∷ [])
    go (Ok _) = refl
    go (Err r) = refl
