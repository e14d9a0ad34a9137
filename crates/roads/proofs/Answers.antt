-- The answer at each return of the opening crusher, with what the code knows there.
use mathlib.Core.Path.{◌≡◌, refl, sym, ◌∙◌, subst}
use mathlib.Core.Bool.{Bool, true, false, not, ◌||◌, true≢false}
use mathlib.Core.List.{List}
use Prim.Native.Nat.{ℕ, ◌^◌, ◌≤◌, ◌<◌}
use borrow.Author.Tests.{eqb-true, ltb-false, not-false}
use lib.Dec.{ltb, eqb}
use lib.ListN.{length, get_or}
use Rattle.refusals.specs.declared.Refusal.{Refusal}
use Rattle.basics.specs.Lists.{all_below}
use Rattle.basics.proofs.Laws.{or_left, or_right, all_below-at, all_below-all}
use Rattle.refusals.specs.declared.Refusal.TheVariants.{RoadLists, Seconds, NoTime, AllIdle}
use Rattle.refusals.specs.Outcomes.{refuse}
use Rattle.std.specs.Prelude.{Option, Some, None, Result, Ok, Err}
use Rattle.roads.specs.declared.Fastest.{Fastest}
use Rattle.roads.specs.Opening.{Road, road_at, passed_over, numerator, denominator, bad_lists, seconds_above, no_time, all_passed_over, least_road, LeastRoad, opening_check, crusher_as, opening_of}
use Rattle.roads.specs.Choice.{chosen_below, estimate_at}
use Rattle.roads.proofs.Estimates.{SixteenBits, estimate_exact, in_range}
use Rattle.roads.proofs.Least.{least_is}
use Rattle.roads.proofs.Chosen.{Chosen, chosen-least}

-- ---- the answer by its four tests
abbrev pub opening_by : Bool → Bool → Bool → Bool → ℕ → Result ℕ Refusal
opening_by a b c d k = crusher_as (refuse a RoadLists (refuse b Seconds (refuse c NoTime (refuse d AllIdle (Ok tt))))) k

pub opening_by_lem : (l m s : List ℕ)
    → opening_of l m s ≡ opening_by (bad_lists l m s) (seconds_above s) (no_time m s) (all_passed_over (road_at l m s) (length l)) (least_road (road_at l m s) (length l))
unfolding opening_of opening_check
opening_by_lem l m s = refl

-- ---- the lists, where 10 does not hold
pub record Right (lengths metres seconds : List ℕ) : Type 0 where
  pub few : length lengths ≤ 16
  pub as_metres : length metres ≡ length lengths
  pub as_seconds : length seconds ≡ length lengths

pub right : (lengths metres seconds : List ℕ) → bad_lists lengths metres seconds ≡ false → Right lengths metres seconds
right l m s h =
    let n = length l in
    let three = or_left (eqb n 0 || ltb 16 n || not (eqb (length m) n)) (not (eqb (length s) n)) h in
    let two = or_left (eqb n 0 || ltb 16 n) (not (eqb (length m) n)) three in
    record {
      few = ltb-false 16 n (or_right (eqb n 0) (ltb 16 n) two);
      as_metres = eqb-true (length m) n (not-false (eqb (length m) n) (or_right (eqb n 0 || ltb 16 n) (not (eqb (length m) n)) three));
      as_seconds = eqb-true (length s) n (not-false (eqb (length s) n) (or_right (eqb n 0 || ltb 16 n || not (eqb (length m) n)) (not (eqb (length s) n)) h));
    }

-- ---- the road that the code chooses, of lists of 16-bit numbers
abbrev pub Short : List ℕ → Type 0
Short l = (k : ℕ) → get_or l k 0 < 2 ^ 16

abbrev ChosenRoad : (ℕ → Road) → ℕ → Option Fastest → Type 0
ChosenRoad road n best = Chosen (λ k. passed_over (road k)) (λ k. numerator (road k)) (λ k. denominator (road k)) n best

module _ (l m s : List ℕ) (L : Short l) (M : Short m) (S : Short s) where
  bits : (k : ℕ) → SixteenBits (road_at l m s k)
  bits k = (L k, M k, S k)

  chosen : (best : Option Fastest) → best ≡ chosen_below (estimate_at l m s) (length l) → ChosenRoad (road_at l m s) (length l) best
  chosen best e =
      subst (ChosenRoad (road_at l m s) (length l)) (sym e)
      (chosen-least (λ k. passed_over (road_at l m s k)) (λ k. numerator (road_at l m s k)) (λ k. denominator (road_at l m s k)) (λ k. in_range (road_at l m s k) (bits k)) (estimate_at l m s)
      (λ k. estimate_exact (road_at l m s k) (bits k)) (length l))

-- ---- the answer at each return
at_crusher : {a b c d : Bool} {i k : ℕ} → a ≡ false → b ≡ false → c ≡ false → d ≡ false → i ≡ k → Ok k ≡ opening_by a b c d i
at_crusher p q r t e = rw (p, q, r, t, e)

not-all : (p : ℕ → Bool) (n k : ℕ) → k < n → p k ≡ false → all_below p n ≡ false
not-all p n k l h = go (all_below p n) (λ e. all_below-at p n e k l)
  where
    go : (b : Bool) → (b ≡ true → p k ≡ true) → b ≡ false
    go true f = absurd (true≢false (sym (f refl) ∙ h))
    go false f = refl

module _ (l m s : List ℕ) where
  pub opening_10 : bad_lists l m s ≡ true → Err RoadLists ≡ opening_of l m s
  opening_10 p = rw (opening_by_lem l m s, p)

  pub opening_11 : bad_lists l m s ≡ false → seconds_above s ≡ true → Err Seconds ≡ opening_of l m s
  opening_11 p q = rw (opening_by_lem l m s, p, q)

  pub opening_12 : bad_lists l m s ≡ false → seconds_above s ≡ false → no_time m s ≡ true → Err NoTime ≡ opening_of l m s
  opening_12 p q r = rw (opening_by_lem l m s, p, q, r)

  module _ (p : bad_lists l m s ≡ false) (q : seconds_above s ≡ false) (r : no_time m s ≡ false) where
    -- the road of least exact time, where there is one
    pub opening-at : (k : ℕ) → LeastRoad (road_at l m s) (length l) k → Ok k ≡ opening_of l m s
    opening-at k h =
        at_crusher p q r (not-all (λ j. passed_over (road_at l m s j)) (length l) k h.below h.takes_part)
        (least_is (λ j. passed_over (road_at l m s j)) (λ j. numerator (road_at l m s j)) (λ j. denominator (road_at l m s j)) (length l) k h)
        ∙ sym (opening_by_lem l m s)

    module _ (L : Short l) (M : Short m) (S : Short s) (best : Option Fastest) (e : best ≡ chosen_below (estimate_at l m s) (length l)) where
      pub opening_13 : best ≡ None → Err AllIdle ≡ opening_of l m s
      opening_13 f = rw (opening_by_lem l m s, p, q, r, all_below-all (λ k. passed_over (road_at l m s k)) (length l) (chosen l m s L M S None (sym f ∙ e)))

      pub opening-road : (f : Fastest) → best ≡ Some f → Ok f.road ≡ opening_of l m s
      opening-road f g = opening-at f.road (chosen l m s L M S (Some f) (sym g ∙ e)).1
