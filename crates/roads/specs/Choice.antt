-- How the code chooses: road by road, by the estimates. No public function's promise cites this.
use Rattle.std.specs.Prelude.{ℕ, zero, suc, cond, List, get_or, Option, Some, None, Float}
use Rattle.std.specs.Float.Ieee.{lt}
use Rattle.roads.specs.declared.Fastest.{Fastest}
use Rattle.roads.specs.Estimates.{leg_of, estimate_of}

-- road k, of so many seconds
abbrev pub road_of : ℕ → Float → Fastest
road_of k t = record { road = k; seconds = t }

-- road k beside the road chosen so far: the smaller number of seconds, and on a tie the road that was there
unfoldable pub better_of : Option Fastest → ℕ → Option Float → Option Fastest
better_of best k None = best
better_of None k (Some t) = Some (road_of k t)
better_of (Some b) k (Some t) = cond (lt t b.seconds) (Some (road_of k t)) (Some b)

-- the road chosen among those below n
unfoldable pub chosen_below : (ℕ → Option Float) → ℕ → Option Fastest
chosen_below estimate zero = None
chosen_below estimate (suc k) = better_of (chosen_below estimate k) k (estimate k)

-- the estimate of road k of the three lists
abbrev pub estimate_at : List ℕ → List ℕ → List ℕ → ℕ → Option Float
estimate_at lengths metres seconds k = estimate_of (leg_of (get_or lengths k 0) (get_or metres k 0) (get_or seconds k 0))
