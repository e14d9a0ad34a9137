-- What the equation `r ≡ opening_of ..` of the opening crusher says, for all lists.
use mathlib.Core.Path.{◌≡◌, refl, sym, ap, ◌∙◌, subst}
use mathlib.Core.Logic.{◌⊎◌, ◌↔◌, inl, inr}
use mathlib.Core.Bool.{Bool, true, false, cond, true≢false}
use mathlib.Core.List.{List, [], ◌∷◌}
use Prim.Native.Nat.{ℕ, ◌<◌}
use native.Mathlib.Omega.{arith}
use borrow.Author.Tests.{eq-eqb, eqb-true, eqb-false}
use lib.Dec.{eqb}
use lib.ListN.{length}
use Rattle.std.specs.Prelude.{Result, Ok, Err}
use Rattle.refusals.specs.declared.Refusal.{Refusal}
use Rattle.basics.specs.Lists.{first}
use Rattle.basics.proofs.Laws.{all_below-at, all_below-all, some_below_by, some_below-none, some_first, first-at, first-before}
use Rattle.refusals.specs.declared.Refusal.TheVariants.{AllIdle}
use Rattle.refusals.specs.Numbers.{numbered}
use Rattle.refusals.specs.Outcomes.{Outcome}
use Rattle.roads.specs.Opening.{Road, road_at, passed_over, numerator, denominator, bad_lists, seconds_above, no_time, all_passed_over, opening_check, least_road, LeastRoad, crusher_as, opening_of, opening_answer}
use Rattle.roads.proofs.Answers.{right, opening_by, opening_by_lem, opening-at}
use Rattle.roads.proofs.Roads.{length_0, passed_over_lem, time_there, time_above_0}
use Rattle.roads.proofs.Least.{least_is, zero-least, least_there}

abbrev number : Result ℕ Refusal → ℕ
number o = (opening_answer o).0

apart : {A : Type 0} {p q : Result ℕ Refusal} → p ≡ q → (number p ≡ number q → ⊥) → A
apart e h = absurd (h (ap number e))

-- the tests that lead to a crusher, and to 13
at-road : (a b c d : Bool) (k j : ℕ) → opening_by a b c d k ≡ Ok j → (d ≡ false) × (k ≡ j)
at-road true b c d k j e = apart e (λ z. omega arith)
at-road false true c d k j e = apart e (λ z. omega arith)
at-road false false true d k j e = apart e (λ z. omega arith)
at-road false false false true k j e = apart e (λ z. omega arith)
at-road false false false false k j e = (refl, cc)

at_13 : (a b c d : Bool) (k : ℕ) → opening_by a b c d k ≡ Err AllIdle → (a ≡ false) × (b ≡ false) × (c ≡ false) × (d ≡ true)
at_13 true b c d k e = apart e (λ z. omega arith)
at_13 false true c d k e = apart e (λ z. omega arith)
at_13 false false true d k e = apart e (λ z. omega arith)
at_13 false false false true k e = (refl, refl, refl, refl)
at_13 false false false false k e = apart e (λ z. omega arith)

numbers : (a b c d : Bool) (k : ℕ) → opening_answer (opening_by a b c d k) ≡ cond a (10, []) (cond b (11, []) (cond c (12, []) (cond d (13, []) (0, k ∷ []))))
numbers true b c d k = refl
numbers false true c d k = refl
numbers false false true d k = refl
numbers false false false true k = refl
numbers false false false false k = refl

module _ (lengths metres seconds : List ℕ) where
  abbrev n : ℕ
  n = length lengths

  abbrev road : ℕ → Road
  road = road_at lengths metres seconds

  -- In document 01's numbers: each refusal is returned for its condition, no earlier one holding, and for nothing else.
  pub opening-numbers : opening_answer (opening_of lengths metres seconds)
      ≡ cond (bad_lists lengths metres seconds) (10, [])
      (cond (seconds_above seconds) (11, [])
      (cond (no_time metres seconds) (12, [])
      (cond (all_passed_over road n) (13, [])
      (0, least_road road n ∷ []))))
  opening-numbers = ap opening_answer (opening_by_lem lengths metres seconds) ∙ numbers (bad_lists lengths metres seconds) (seconds_above seconds) (no_time metres seconds) (all_passed_over road n) (least_road road n)

  -- the number of the check, with the road of least exact time where it accepts
  pub opening-answer : opening_answer (opening_of lengths metres seconds) ≡ numbered (opening_check lengths metres seconds) (least_road road n ∷ [])
  unfolding opening_of
  opening-answer = go (opening_check lengths metres seconds)
    where
      go : (o : Outcome) → opening_answer (crusher_as o (least_road road n)) ≡ numbered o (least_road road n ∷ [])
      go (Ok _) = refl
      go (Err r) = refl

  -- A crusher k is a road that is not passed over; no road that takes part takes less exact time, and none of the same time has a lower
  -- number.
  pub opening-least : (k : ℕ) → opening_of lengths metres seconds ≡ Ok k → LeastRoad road n k
  opening-least k e =
      let t = at-road (bad_lists lengths metres seconds) (seconds_above seconds) (no_time metres seconds) (all_passed_over road n) (least_road road n) k (sym (opening_by_lem lengths metres seconds) ∙ e) in
      go t (least_there (λ j. passed_over (road j)) (λ j. numerator (road j)) (λ j. denominator (road j)) (λ j. time_there (road j)) n)
    where
      go : (all_passed_over road n ≡ false) × (least_road road n ≡ k) → ((j : ℕ) → j < n → passed_over (road j) ≡ true) ⊎ ((i : ℕ) × LeastRoad road n i) → LeastRoad road n k
      go t (inl f) = absurd (true≢false (sym (all_below-all (λ j. passed_over (road j)) n f) ∙ t.0))
      go t (inr (i, h)) = subst (LeastRoad road n) (sym (least_is (λ j. passed_over (road j)) (λ j. numerator (road j)) (λ j. denominator (road j)) n i h) ∙ t.1) h

  -- 13 is the answer exactly where none of 10 to 12 holds and every road is idle and longer than 0.
  pub opening-idle : (opening_of lengths metres seconds ≡ Err AllIdle)
      ↔ ((bad_lists lengths metres seconds ≡ false) × (seconds_above seconds ≡ false) × (no_time metres seconds ≡ false)
      × ((k : ℕ) → k < n → ((road k).metres ≡ 0) × (0 < (road k).length)))
  opening-idle = (
    λ e.
        let t = at_13 (bad_lists lengths metres seconds) (seconds_above seconds) (no_time metres seconds) (all_passed_over road n) (least_road road n) (sym (opening_by_lem lengths metres seconds) ∙ e) in
        (t.0, t.1, t.2, λ k l. (passed_over_lem (road k)).0 (all_below-at (λ j. passed_over (road j)) n t.3 k l)),
    λ t. rw (opening_by_lem lengths metres seconds, t.0, t.1, t.2, all_below-all (λ k. passed_over (road k)) n (λ k l. (passed_over_lem (road k)).1 (t.3 k l))),
  )

  -- Where none of 10 to 12 holds and there is a road of length 0, the opening is the lowest numbered road of length 0.
  pub opening-length_0 : bad_lists lengths metres seconds ≡ false → seconds_above seconds ≡ false → no_time metres seconds ≡ false
      → (k : ℕ) → k < n → (road k).length ≡ 0 → opening_of lengths metres seconds ≡ Ok (first (λ j. eqb (road j).length 0) n)
  opening-length_0 p q r k l z =
      let i = first no_length n in
      let b = some_first no_length n (some_below_by no_length n k l (eq-eqb (road k).length 0 z)) in
      let t = length_0 (road i) (eqb-true (road i).length 0 (first-at no_length n b)) in
      sym
      (opening-at lengths metres seconds p q r i
      (zero-least (λ j. passed_over (road j)) (λ j. numerator (road j)) (λ j. denominator (road j)) n i b t.0 t.1 (omega (arith, t.2))
      (λ j o h. time_above_0 (road j) (omega (arith, eqb-false (road j).length 0 (first-before no_length n j o))) h (some_below-none _ (length seconds) r j (omega (arith, (right lengths metres seconds p).as_seconds))))))
    where
      no_length : ℕ → Bool
      no_length j = eqb (road j).length 0
