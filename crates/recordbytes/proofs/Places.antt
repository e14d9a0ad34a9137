-- Bytes that are a record, place by place: what is read of a place, and what is put into it where places before it were put.
use mathlib.Core.Path.{◌≡◌, refl, ap, sym, ◌∙◌}
use mathlib.Core.Bool.{false}
use mathlib.Core.List.{List, []}
use Prim.Native.Nat.{ℕ, ◌+◌, ◌≤◌, ◌<◌}
use native.Mathlib.Omega.{arith}
use lib.ListN.{length, get_or}
use Rattle.basics.specs.Lists.{filled}
use Rattle.basics.proofs.Laws.{get_or-filled, get_or-filled_past, filled_ext}
use Rattle.recording.specs.Checks.{bad_trucks}
use Rattle.recording.proofs.Accepted.{trucks_in_lem}
use Rattle.protocol.specs.declared.Fleet.{Fleet}
use Rattle.protocol.specs.Rules.{truck, opened}
use Rattle.protocol.specs.Runs.{opened_trucks}
use Rattle.recordbytes.specs.Layout.{size_for, record_byte, place_byte, pair_of, truck_at, truck_in, with_truck, damaged, record_of}
use Rattle.recordbytes.proofs.Laws.{headed, head_filled, put-now, put-length, put_step, truck_had, put_had}
use Rattle.recordbytes.proofs.RoundTrip.{undamaged}

-- of a list that is filled as far as place i the truck there is the old one
truck_past : (h : ℕ → ℕ) (m : ℕ) (d l : List ℕ) (i : ℕ) → l ≡ filled h m d → m ≤ size_for i → truck_at l i ≡ truck_at d i
unfolding truck_at place_byte
truck_past h m d l i e few = rw (at 0, at 1, at 2, at 3, at 4, at 5, at 6, at 7, at 8, at 9)
  where
    at : (j : ℕ) → place_byte l i j ≡ place_byte d i j
    at j = ap (λ (x : List ℕ). get_or x (size_for i + j) 0) e ∙ get_or-filled_past h m d (size_for i + j) 0 (omega arith)

module _ (d : List ℕ) (sound : damaged d ≡ false) where
  pub bytes_whole : size_for 32 ≤ length d
  bytes_whole = (undamaged d sound).whole

  pub bytes_range : bad_trucks (record_of d).n ≡ false
  unfolding record_of
  bytes_range = (undamaged d sound).range

  pub bytes-few : (record_of d).n ≤ 32
  bytes-few = (trucks_in_lem (record_of d).n bytes_range).1

  pub bytes-n : get_or d 0 0 ≡ (record_of d).n
  unfolding record_of
  bytes-n = refl

  pub bytes-done : pair_of (get_or d 1 0) (get_or d 2 0) ≡ (record_of d).done
  unfolding record_of
  bytes-done = refl

  record_truck : (i : ℕ) → i < (record_of d).n → truck_at d i ≡ truck (record_of d).trucks i
  unfolding record_of
  record_truck i l = sym (get_or-filled (truck_at d) (get_or d 0 0) (opened_trucks []) i (opened 0) l)

  pub place_read : (i : ℕ) → i < (record_of d).n → truck_in d i ≡ truck (record_of d).trucks i
  place_read i l = truck_had d i bytes_whole (omega (arith, l, bytes-few)) ∙ record_truck i l

  -- with another head the trucks are the same
  module _ (g : Fleet) (same : g.n ≡ (record_of d).n) where
    pub head_n : (record_of (headed g d)).n ≡ (record_of d).n
    unfolding record_of record_byte
    head_n = ap (λ (x : List ℕ). get_or x 0 0) (head_filled g d bytes_whole) ∙ get_or-filled (record_byte g) 3 d 0 0 (omega arith) ∙ same

    pub head_trucks : (record_of (headed g d)).trucks ≡ (record_of d).trucks
    unfolding record_of
    head_trucks =
        filled_ext (truck_at (headed g d)) (truck_at d) (get_or (headed g d) 0 0) (opened_trucks []) (λ i l. truck_past (record_byte g) 3 d (headed g d) i (head_filled g d bytes_whole) (omega arith))
        ∙ ap (λ (m : ℕ). filled (truck_at d) m (opened_trucks [])) head_n

  -- the head and i places of g are put
  module _ (g : Fleet) (l : List ℕ) (i : ℕ) (below : i < (record_of d).n) (now : l ≡ filled (record_byte g) (size_for i) (headed g d)) where
    few : i < 32
    few = omega (arith, below, bytes-few)

    there : l ≡ filled (record_byte g) (size_for i) d
    there = put-now g d bytes_whole l i (omega (arith, few)) now

    room : size_for 32 ≤ length l
    room = omega (arith, put-length g d bytes_whole l i (omega (arith, few)) now, bytes_whole)

    pub place_kept : truck_in l i ≡ truck (record_of d).trucks i
    place_kept = truck_had l i room few ∙ truck_past (record_byte g) (size_for i) d l i there (omega arith) ∙ record_truck i below

    pub place-put : (k : List ℕ) → k ≡ with_truck l i (truck g.trucks i) → k ≡ filled (record_byte g) (size_for (i + 1)) (headed g d)
    place-put k e = put_step g d bytes_whole l i (omega (arith, few)) now k few (e ∙ put_had l i room few (truck g.trucks i))
