-- The trucks of a fleet before round 1: 32 places, one for each opening and the rest as with opening 0.
use mathlib.Core.Path.{◌≡◌, ap, ◌∙◌}
use mathlib.Core.List.{List}
use Prim.Native.Nat.{ℕ, ◌≤◌, ◌<◌}
use native.Mathlib.Decide.{dec_lt}
use native.Mathlib.Omega.{arith}
use lib.ListN.{length, get_or, get_or-eq_default}
use Rattle.basics.proofs.Laws.{length-tab, get_or-tab}
use Rattle.protocol.specs.Cycles.{Kind, truck_in}
use Rattle.protocol.specs.Rules.{opened, recorded, truck}
use Rattle.protocol.specs.Runs.{opened_in, opened_trucks}

-- the truck in a place, of any kind
pub place_opened : {T : Type 0} (K : Kind T) (openings : List ℕ) (i : ℕ) → i < 32 → truck_in K (opened_in K openings) i ≡ K.opened (get_or openings i 0)
unfolding opened_in
place_opened K openings i l = get_or-tab (λ i. K.opened (get_or openings i 0)) 32 i (K.opened 0) l

module _ (openings : List ℕ) where
  pub length-opened : length (opened_trucks openings) ≡ 32
  unfolding opened_in
  length-opened = length-tab (λ i. opened (get_or openings i 0)) 32

  pub truck-opened : (i : ℕ) → i < 32 → truck (opened_trucks openings) i ≡ opened (get_or openings i 0)
  truck-opened i l = place_opened recorded openings i l

  -- past the openings
  pub truck_unopened : (i : ℕ) → length openings ≤ i → truck (opened_trucks openings) i ≡ opened 0
  truck_unopened i h = go (dec_lt i 32)
    where
      go : Dec (i < 32) → truck (opened_trucks openings) i ≡ opened 0
      go (yes l) = truck-opened i l ∙ ap opened (get_or-eq_default openings 0 h)
      go (no l) = get_or-eq_default (opened_trucks openings) (opened 0) (let g : length (opened_trucks openings) ≤ i = omega (arith, length-opened) in g)
