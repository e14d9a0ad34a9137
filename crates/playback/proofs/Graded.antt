-- Grades are carried along a run.
use mathlib.Core.Path.{◌≡◌, refl, ap, sym, ◌∙◌}
use mathlib.Core.Bool.{Bool, true, false, cond, not, ◌&&◌}
use mathlib.Core.List.{List}
use Prim.Native.Nat.{ℕ, zero, suc, ◌+◌, ◌<◌}
use native.Mathlib.Decide.{dec_lt, ℕ_discrete}
use borrow.Author.Tests.{eq-eqb, ne_eqb, lt-ltb, le-ltb}
use lib.Dec.{eqb, ltb}
use native.Mathlib.Nat.{add-zero}
use native.Mathlib.Omega.{arith}
use lib.ListN.{replicate}
use Rattle.basics.specs.Lists.{first}
use Rattle.basics.proofs.Laws.{first-le, first-kept, first_hit, first_on}
use Rattle.radio.specs.Round.{stop_bit}
use Rattle.radio.specs.Radio.{Radio, complete, majority_complete, zero_complete, accurate, first_break}
use Rattle.radio.proofs.Laws.{idle_classes}
use Rattle.recording.specs.Packed.{trucks_of, openings_of}
use Rattle.protocol.specs.declared.Grades.{Grades}
use Rattle.protocol.specs.Cycles.{Rules, radio_in}
use Rattle.protocol.specs.Rules.{recorded, truck, runs}
use Rattle.protocol.specs.Runs.{radios_in, grades_for}
use Rattle.protocol.proofs.AnyRun.{radio-suc, kept}
use Rattle.playback.specs.Replays.{no_grades, grades_after, FoundAfter}
use Rattle.playback.specs.Standing.{trucks_after}
use Rattle.playback.specs.Grading.{carried, carried_by}
use Rattle.playback.proofs.AnyStood.{next_radio}

-- round k + 1 of these rounds of a recording on the radio, by the rules of a cycle
abbrev pub radio_after : Rules recorded → (ℕ → List ℕ) → List ℕ → ℕ → Radio
radio_after rules rounds s k = next_radio rules (trucks_of s) k (rounds k) (trucks_after rules rounds s k)

-- ---- the first break
module _ (class : Radio → Bool) (radios : ℕ → Radio) where
  breaks : ℕ → Bool
  breaks e = not (class (radios (suc e)))

  break_none : first_break class radios 0 ≡ 0
  unfolding first_break first
  break_none = refl

  break_next : (k : ℕ) → first_break class radios (suc k) ≡ carried (first_break class radios k) (class (radios (suc k))) (suc k)
  unfolding first_break carried breaks
  break_next k = go (dec_lt (first breaks k) k)
    where
      go : Dec (first breaks k < k)
          → cond (ltb (first breaks (suc k)) (suc k)) (suc (first breaks (suc k))) 0
          ≡ cond (eqb (cond (ltb (first breaks k) k) (suc (first breaks k)) 0) 0) (cond (class (radios (suc k))) 0 (suc k)) (cond (ltb (first breaks k) k) (suc (first breaks k)) 0)
      go (yes l) =
          rw (first-kept breaks k l, lt-ltb (first breaks k) k l, lt-ltb (first breaks k) (suc k) (omega arith), ne_eqb (suc (first breaks k)) 0 (λ z. omega arith))
      go (no l) = rw (le-ltb (first breaks k) k (omega arith)) (last (class (radios (suc k))) refl)
        where
          at : first breaks k ≡ k
          at = omega (arith, first-le breaks k)

          last : (b : Bool) → class (radios (suc k)) ≡ b → cond (ltb (first breaks (suc k)) (suc k)) (suc (first breaks (suc k))) 0 ≡ cond b 0 (suc k)
          last true e = rw (first_on breaks k at (ap not e), le-ltb (suc k) (suc k) (omega arith))
          last false e = rw (first_hit breaks k at (ap not e), lt-ltb k (suc k) (omega arith))

-- a round that breaks nothing
carried-true : (g k : ℕ) → carried g true k ≡ g
unfolding carried
carried-true g k = go (ℕ_discrete g 0)
  where
    go : Dec (g ≡ 0) → cond (eqb g 0) 0 g ≡ g
    go (yes e) = rw (eq-eqb g 0 e) (sym e)
    go (no e) = rw (ne_eqb g 0 e)

module _ (rules : Rules recorded) (rounds : ℕ → List ℕ) (s : List ℕ) where
  abbrev radios : ℕ → Radio
  radios k = radios_in rules (trucks_of s) (openings_of s) rounds k

  -- before round 1
  grades-none : (judging : Bool) → no_grades ≡ grades_after rules rounds s judging 0
  unfolding grades_after grades_for
  grades-none true = rw (break_none complete radios, break_none majority_complete radios, break_none zero_complete radios, break_none accurate radios)
  grades-none false = refl

  -- in a list that was lent as zeros
  pub found_none : (judging : Bool) (l : List ℕ) → l ≡ replicate 4 0 → FoundAfter rules rounds s judging 0 l
  found_none judging l e = rw e (record { four = refl; grades = grades-none judging })

  pub grades-next : (judging : Bool) (k : ℕ) → grades_after rules rounds s judging (suc k) ≡ cond judging (carried_by (grades_after rules rounds s judging k) (radio_after rules rounds s k) (suc k)) (grades_after rules rounds s judging k)
  unfolding grades_after grades_for carried_by
  grades-next true k =
      rw (break_next complete radios k, break_next majority_complete radios k, break_next zero_complete radios k, break_next accurate radios k, radio-suc rules (trucks_of s) (openings_of s) rounds k)
  grades-next false k = refl

-- nobody runs: a round breaks nothing
idle-carried : (a : Radio) → ((j : ℕ) → j < a.trucks → a.running j ≡ false) → (g : Grades) (k : ℕ) → carried_by g a k ≡ g
unfolding carried_by
idle-carried a h g k =
    let e = idle_classes a h in
    rw (e.0, e.1, e.2, e.3, carried-true g.complete k, carried-true g.majority k, carried-true g.zero k, carried-true g.accurate k)

module _ (rules : Rules recorded) (rounds : ℕ → List ℕ) (s : List ℕ) (k : ℕ) (none : (j : ℕ) → j < trucks_of s → runs (truck (trucks_after rules rounds s k) j) ≡ false) where
  idle-radio : (m j : ℕ) → j < trucks_of s → (radio_after rules rounds s (k + m)).running j ≡ false
  unfolding radio_in
  idle-radio m j l = ap (λ (r : Bool). r && not (stop_bit (rounds (k + m)) j)) (ap runs (kept rules (trucks_of s) (openings_of s) rounds j l k m (none j l)) ∙ none j l)

  pub grades-idle : (judging : Bool) (m : ℕ) → grades_after rules rounds s judging (k + m) ≡ grades_after rules rounds s judging k
  unfolding radio_in
  grades-idle judging zero = ap (grades_after rules rounds s judging) (add-zero k)
  grades-idle judging (suc m) =
      ap (grades_after rules rounds s judging) (let e : k + suc m ≡ suc (k + m) = omega arith in e)
      ∙ grades-next rules rounds s judging (k + m)
      ∙ go judging
      ∙ grades-idle judging m
    where
      go : (b : Bool) → cond b (carried_by (grades_after rules rounds s judging (k + m)) (radio_after rules rounds s (k + m)) (suc (k + m))) (grades_after rules rounds s judging (k + m)) ≡ grades_after rules rounds s judging (k + m)
      go true = idle-carried (radio_after rules rounds s (k + m)) (idle-radio m) (grades_after rules rounds s judging (k + m)) (suc (k + m))
      go false = refl
