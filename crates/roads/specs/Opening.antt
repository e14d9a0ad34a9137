-- The opening crusher of three lists of whole numbers, and its refusals (document 01, 'The opening crusher' and refusals 10 to 13; document
-- 02, F-2).
use Rattle.std.specs.Prelude.{ℕ, ◌*◌, ◌≤◌, ◌<◌, ◌≡◌, Bool, false, cond, not, ◌&&◌, ◌||◌, List, [], ◌∷◌, ltb, eqb, length, get_or, Result, Ok, Err}
use Rattle.refusals.specs.declared.Refusal.{Refusal}
use Rattle.basics.specs.Lists.{all_below, some_below, first}
use Rattle.refusals.specs.declared.Refusal.TheVariants.{RoadLists, Seconds, NoTime, AllIdle}
use Rattle.refusals.specs.Numbers.{number_of}
use Rattle.refusals.specs.Outcomes.{Outcome, refuse}

-- a road: its length, the metres of its last run and the seconds of it
pub record Road : Type 0 where
  pub length : ℕ
  pub metres : ℕ
  pub seconds : ℕ

-- road k of the three lists
abbrev pub road_at : List ℕ → List ℕ → List ℕ → ℕ → Road
road_at lengths metres seconds k = record { length = get_or lengths k 0; metres = get_or metres k 0; seconds = get_or seconds k 0 }

-- 01's idle: the last run covered 0 metres
abbrev pub idle : Road → Bool
idle r = eqb r.metres 0

-- F-2's passed over: idle and longer than 0
abbrev pub passed_over : Road → Bool
passed_over r = idle r && ltb 0 r.length

-- The exact time of a road that is not passed over is the fraction `numerator` / `denominator`: length times seconds, divided by metres.
-- A road of length 0, idle or not, takes 0 / 1 seconds.
abbrev pub numerator : Road → ℕ
numerator r = r.length * r.seconds

abbrev pub denominator : Road → ℕ
denominator r = cond (eqb r.length 0) 1 r.metres

-- ---- the least of n fractions, some of them passed over

-- j takes less time than k: a smaller fraction
abbrev pub faster : (ℕ → ℕ) → (ℕ → ℕ) → ℕ → ℕ → Bool
faster num den j k = ltb (num j * den k) (num k * den j)

-- k is not passed over, and no number below n that is not passed over is faster
abbrev pub fastest : (ℕ → Bool) → (ℕ → ℕ) → (ℕ → ℕ) → ℕ → ℕ → Bool
fastest passed num den n k = not (passed k) && all_below (λ j. passed j || not (faster num den j k)) n

-- the first of these: least exact time, lowest number on a tie
unfoldable pub least : (ℕ → Bool) → (ℕ → ℕ) → (ℕ → ℕ) → ℕ → ℕ
least passed num den n = first (fastest passed num den n) n

-- k is the least of the fractions num / den below n that are not passed over, and the first of those equal to it
pub record LeastBelow (passed : ℕ → Bool) (num den : ℕ → ℕ) (n k : ℕ) : Type 0 where
  pub below : k < n
  pub takes_part : passed k ≡ false
  -- no fraction is smaller
  pub smallest : (j : ℕ) → j < n → passed j ≡ false → num k * den j ≤ num j * den k
  -- each one before it is larger, so none of the same size has a lower number
  pub lowest : (j : ℕ) → j < k → passed j ≡ false → num k * den j < num j * den k

-- ---- the refusals

-- 10: no roads, more than 16, or lists of unequal length
abbrev pub bad_lists : List ℕ → List ℕ → List ℕ → Bool
bad_lists lengths metres seconds =
    let n = length lengths in
    eqb n 0 || ltb 16 n || not (eqb (length metres) n) || not (eqb (length seconds) n)

-- 11: seconds above 3,600, over all roads
abbrev pub seconds_above : List ℕ → Bool
seconds_above seconds = some_below (λ k. ltb 3600 (get_or seconds k 0)) (length seconds)

-- 12: metres above 0 in 0 seconds, over all roads
abbrev pub no_time : List ℕ → List ℕ → Bool
no_time metres seconds = some_below (λ k. ltb 0 (get_or metres k 0) && eqb (get_or seconds k 0) 0) (length seconds)

-- 13: every road idle and longer than 0
abbrev pub all_passed_over : (ℕ → Road) → ℕ → Bool
all_passed_over road n = all_below (λ k. passed_over (road k)) n

-- 10 to 13, in this order
unfoldable pub opening_check : List ℕ → List ℕ → List ℕ → Outcome
opening_check lengths metres seconds =
    refuse (bad_lists lengths metres seconds) RoadLists
    (refuse (seconds_above seconds) Seconds
    (refuse (no_time metres seconds) NoTime
    (refuse (all_passed_over (road_at lengths metres seconds) (length lengths)) AllIdle
    (Ok tt))))

-- ---- the answer

-- the road of least exact time among those that are not passed over
abbrev pub least_road : (ℕ → Road) → ℕ → ℕ
least_road road n = least (λ k. passed_over (road k)) (λ k. numerator (road k)) (λ k. denominator (road k)) n

-- Of roads: road k is not passed over, no road that takes part takes less exact time, and none of the same time has a lower number.
abbrev pub LeastRoad : (ℕ → Road) → ℕ → ℕ → Type 0
LeastRoad road n k = LeastBelow (λ j. passed_over (road j)) (λ j. numerator (road j)) (λ j. denominator (road j)) n k

-- by the outcome of the check: crusher k where it accepts
abbrev pub crusher_as : Outcome → ℕ → Result ℕ Refusal
crusher_as (Ok _) k = Ok k
crusher_as (Err r) k = Err r

-- 01's opening, or the first of the refusals 10 to 13 that holds; road k leads to crusher k
unfoldable pub opening_of : List ℕ → List ℕ → List ℕ → Result ℕ Refusal
opening_of lengths metres seconds =
    crusher_as (opening_check lengths metres seconds) (least_road (road_at lengths metres seconds) (length lengths))

-- an answer by document 01's number and values: the crusher, where it is no refusal
abbrev pub opening_answer : Result ℕ Refusal → ℕ × List ℕ
opening_answer (Ok k) = (0, k ∷ [])
opening_answer (Err r) = (number_of r, [])
