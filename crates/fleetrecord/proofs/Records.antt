-- A fleet of which one truck after the other opens becomes the record of a start; refusal 7 of a record, test by test.
use mathlib.Core.Path.{◌≡◌, sym, ◌∙◌, refl}
use mathlib.Core.Bool.{true, false}
use mathlib.Core.List.{List, []}
use Prim.Native.Nat.{ℕ, ◌+◌, ◌≤◌, ◌<◌}
use native.Mathlib.Decide.{dec_lt}
use native.Mathlib.Omega.{arith}
use borrow.Author.Tests.{le-leb, lt-leb}
use lib.ListN.{length, get_or, set}
use lib.Seq.{ext_get_or}
use Rattle.basics.specs.Lists.{filled, all_below}
use Rattle.basics.proofs.Laws.{length-filled, get_or-filled, get_or-filled_past, filled_none, fill_step}
use Rattle.recording.specs.Checks.{bad_trucks}
use Rattle.protocol.proofs.Opened.{length-opened, truck-opened, truck_unopened}
use Rattle.protocol.specs.declared.Truck.{Truck}
use Rattle.protocol.specs.declared.Fleet.{Fleet}
use Rattle.protocol.specs.Rules.{opened, truck}
use Rattle.protocol.specs.Runs.{opened_trucks}
use Rattle.protocol.specs.Fleets.{Protocol, blank, good_truck_in, good_fleet_in}
use Rattle.fleetrecord.specs.Opens.{open_fleet}

module _ (openings : List ℕ) where
  abbrev each : ℕ → Truck
  each i = opened (get_or openings i 0)

  -- the trucks of a fleet of which m have opened
  abbrev opening : ℕ → List Truck
  opening m = filled each m (opened_trucks [])

  -- the blank trucks with as many openings as there are
  opened-filled : (m : ℕ) → length openings ≡ m → m ≤ 32 → opening m ≡ opened_trucks openings
  opened-filled m e l = ext_get_or (opened 0) (opening m) (opened_trucks openings) (size ∙ sym (length-opened openings)) (λ i h. go i (rw size at h) (dec_lt i m))
    where
      size : length (opening m) ≡ 32
      size = length-filled each m (opened_trucks []) (omega (arith, length-opened [])) ∙ length-opened []

      go : (i : ℕ) → i < 32 → Dec (i < m) → get_or (opening m) i (opened 0) ≡ get_or (opened_trucks openings) i (opened 0)
      go i h (yes o) = get_or-filled each m (opened_trucks []) i (opened 0) o ∙ sym (truck-opened openings i h)
      go i h (no o) =
          get_or-filled_past each m (opened_trucks []) i (opened 0) (omega arith)
          ∙ truck_unopened [] i (omega arith)
          ∙ sym (truck_unopened openings i (omega arith))

-- a fleet of which i trucks have opened
abbrev pub opening_fleet : ℕ → List ℕ → ℕ → Fleet
opening_fleet n openings i = record { n = n; done = 0; trucks = opening openings i }

module _ (n : ℕ) (openings : List ℕ) where
  pub open-starts : (b : Fleet) → b ≡ blank → record { n = n; done = b.done; trucks = b.trucks } ≡ opening_fleet n openings 0
  unfolding blank
  open-starts b e = rw (e, filled_none (each openings) (opened_trucks []))

  pub open_more : (f : Fleet) (i : ℕ) (t : Truck) → f ≡ opening_fleet n openings i → t ≡ each openings i → i < 32
      → record { n = f.n; done = f.done; trucks = set f.trucks i t } ≡ opening_fleet n openings (i + 1)
  open_more f i t e h l = rw (e, fill_step (each openings) (opened_trucks []) (opening openings i) i refl t (omega (arith, length-opened [])) h)

  pub open_done : (f : Fleet) (i : ℕ) → f ≡ opening_fleet n openings i → i ≡ length openings → length openings ≤ 32 → f ≡ open_fleet n openings
  open_done f i e h l = e ∙ rw (opened-filled openings i (sym h) (omega arith))

-- refusal 7, test by test, in any protocol
module _ (p : Protocol) (f : Fleet) where
  pub bad_count : bad_trucks f.n ≡ true → good_fleet_in p f ≡ false
  unfolding good_fleet_in
  bad_count h = rw h

  pub bad_done : bad_trucks f.n ≡ false → 400 < f.done → good_fleet_in p f ≡ false
  unfolding good_fleet_in
  bad_done h l = rw (h, lt-leb f.done 400 l)

  pub good-count : bad_trucks f.n ≡ false → f.done ≤ 400 → good_fleet_in p f ≡ all_below (λ i. good_truck_in p f.done (truck f.trucks i)) f.n
  unfolding good_fleet_in
  good-count h l = rw (h, le-leb f.done 400 l)
