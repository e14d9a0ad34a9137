-- Laws of a record as bytes: one for each place of the code that they serve.
use mathlib.Core.Path.{◌≡◌, refl, ap, ap₂, sym, ◌∙◌}
use mathlib.Core.Bool.{Bool, true, false, ◌||◌}
use mathlib.Core.List.{List, [], ◌∷◌}
use Prim.Native.Nat.{ℕ, zero, suc, ◌+◌, ◌*◌, ◌-◌, ◌/◌, ◌%◌, ◌≤◌, ◌<◌}
use native.Mathlib.Nat.{add-zero}
use native.Mathlib.Omega.{arith}
use lib.Dec.{leb, ltb}
use lib.ListN.{length, get_or, set, take}
use lib.Seq.{sets}
use borrow.Author.Tests.{lt-ltb, le-ltb, le-leb, ltb-false, lt-leb, leb-false}
use Rattle.std.specs.Prelude.{Ok, Err}
use Rattle.basics.specs.Lists.{filled}
use Rattle.basics.proofs.Laws.{filled_none, filled_more, filled_again, fill_length, or_left, or_right}
use Rattle.refusals.specs.declared.Refusal.{Refusal}
use Rattle.refusals.specs.declared.Refusal.TheVariants.{Record, ShortBuffer}
use Rattle.refusals.specs.Outcomes.{Outcome, refuse}
use Rattle.refusals.proofs.Outcomes.{refuse-false, refuse-rest}
use Rattle.recording.proofs.Accepted.{trucks_in_lem}
use Rattle.recording.specs.Checks.{bad_trucks}
use Rattle.protocol.specs.declared.Truck.{Truck}
use Rattle.protocol.specs.declared.Fleet.{Fleet}
use Rattle.protocol.specs.declared.Answer.{Answer}
use Rattle.protocol.specs.Rules.{truck, opened}
use Rattle.protocol.specs.Runs.{opened_trucks}
use Rattle.protocol.specs.Fleets.{blank}
use Rattle.recordbytes.specs.Layout.{truck_bytes, record_byte, size_for, pack_check, pack_for, truck_at, lacks_place, truck_in, with_truck, damaged, record_of, no_record, unpacked}

-- ---- the bytes of a truck

-- one store more: a loop that puts a list into another from place `at` on
pub sets_more : (vs d : List ℕ) (at i : ℕ) → i < length vs → set (sets d at (take i vs)) (at + i) (get_or vs i 0) ≡ sets d at (take (suc i) vs)
sets_more [] d at i h = absurd (omega arith)
sets_more (v ∷ vs) d at zero h = ap (λ (k : ℕ). set d k v) (add-zero at)
sets_more (v ∷ vs) d at (suc i) h =
    ap (λ (k : ℕ). set (sets (set d at v) (suc at) (take i vs)) k (get_or vs i 0)) (let e : at + suc i ≡ suc at + i = omega arith in e)
    ∙ sets_more vs (set d at v) (suc at) i (omega arith)

-- ---- a list that is filled from the front

-- a run of stores that goes on with it
pub fill_sets {ℓ} : {A : Type ℓ} (z : A) (g : ℕ → A) (d vs l : List A) (i : ℕ) → l ≡ filled g i d → i + length vs ≤ length d → ((j : ℕ) → j < length vs → get_or vs j z ≡ g (i + j))
    → sets l i vs ≡ filled g (i + length vs) d
fill_sets z g d [] l i e h same = e ∙ ap (λ (k : ℕ). filled g k d) (sym (add-zero i))
fill_sets z g d (v ∷ vs) l i e h same =
    let first : v ≡ g i = same 0 (omega arith) ∙ ap g (add-zero i) in
    fill_sets z g d vs (set l i v) (suc i)
    (ap (λ (k : List _). set k i v) e ∙ filled_more g i d v (omega arith) first)
    (omega arith)
    (λ j l. same (suc j) (omega arith) ∙ ap g (omega arith))
    ∙ ap (λ (k : ℕ). filled g k d) (let s : suc i + length vs ≡ i + suc (length vs) = omega arith in s)

-- ---- the bytes of a record

pub place_byte_lem : (f : Fleet) (q : ℕ) → get_or (truck_bytes (truck f.trucks (q / 10))) (q % 10) 0 ≡ record_byte f (3 + q)
unfolding record_byte
place_byte_lem f q =
    let e : 3 + q - 3 ≡ q = omega arith in
    rw (le-ltb (3 + q) 3 (omega arith), e)

-- it is by the truck in its place alone
pub same_byte : (f g : Fleet) (q : ℕ) → 3 ≤ q → truck f.trucks ((q - 3) / 10) ≡ truck g.trucks ((q - 3) / 10) → record_byte f q ≡ record_byte g q
unfolding record_byte
same_byte f g q h e = rw (le-ltb q 3 h, e)

-- byte j of place i
pub byte_of_place : (f : Fleet) (i j : ℕ) → j < 10 → get_or (truck_bytes (truck f.trucks i)) j 0 ≡ record_byte f (size_for i + j)
byte_of_place f i j h =
    let q : (10 * i + j) / 10 ≡ i = omega arith in
    let r : (10 * i + j) % 10 ≡ j = omega arith in
    let e : 3 + (10 * i + j) ≡ size_for i + j = omega arith in
    sym (ap₂ (λ (a b : ℕ). get_or (truck_bytes (truck f.trucks a)) b 0) q r) ∙ place_byte_lem f (10 * i + j) ∙ ap (record_byte f) e

-- a record's head
abbrev head_bytes : Fleet → List ℕ
head_bytes f = f.n ∷ f.done % 256 ∷ f.done / 256 ∷ []

-- the buffer d with it
abbrev pub headed : Fleet → List ℕ → List ℕ
headed f d = sets d 0 (head_bytes f)

-- a loop that puts the places: what the buffer l holds after i of them
module _ (f : Fleet) (d : List ℕ) (room : size_for 32 ≤ length d) where
  pub head_filled : headed f d ≡ filled (record_byte f) 3 d
  unfolding record_byte
  head_filled = fill_sets 0 (record_byte f) d (head_bytes f) d 0 (sym (filled_none (record_byte f) d)) (omega arith) same
    where
      same : (j : ℕ) → j < 3 → get_or (head_bytes f) j 0 ≡ record_byte f (0 + j)
      same zero h = refl
      same (suc zero) h = refl
      same (suc (suc zero)) h = refl
      same (suc (suc (suc j))) h = absurd (omega arith)

  pub put_more : (l : List ℕ) (i : ℕ) → i < 32 → l ≡ filled (record_byte f) (size_for i) d → (k : List ℕ) → k ≡ sets l (size_for i) (truck_bytes (truck f.trucks i))
      → k ≡ filled (record_byte f) (size_for (i + 1)) d
  put_more l i h now k e =
      e
      ∙ fill_sets 0 (record_byte f) d (truck_bytes (truck f.trucks i)) l (size_for i) now (omega arith) (λ j h. byte_of_place f i j h)
      ∙ ap (λ (k : ℕ). filled (record_byte f) k d) (let s : size_for i + 10 ≡ size_for (i + 1) = omega arith in s)

  over_head : (i : ℕ) → i ≤ 32 → filled (record_byte f) (size_for i) (headed f d) ≡ filled (record_byte f) (size_for i) d
  over_head i h = rw head_filled (filled_again (record_byte f) (record_byte f) 3 (size_for i) d (omega arith))

  pub put_holds : headed f d ≡ filled (record_byte f) (size_for 0) (headed f d)
  put_holds = head_filled ∙ sym (over_head 0 (omega arith))

  module _ (l : List ℕ) (i : ℕ) (few : i ≤ 32) (now : l ≡ filled (record_byte f) (size_for i) (headed f d)) where
    pub put-now : l ≡ filled (record_byte f) (size_for i) d
    put-now = now ∙ over_head i few

    pub put-length : length l ≡ length d
    put-length = fill_length (record_byte f) d l (size_for i) put-now (omega arith)

    pub put_step : (k : List ℕ) → i < 32 → k ≡ sets l (size_for i) (truck_bytes (truck f.trucks i)) → k ≡ filled (record_byte f) (size_for (i + 1)) (headed f d)
    put_step k h e = put_more l i h put-now k e ∙ sym (over_head (i + 1) (omega arith))

-- ---- what putting a record answers

pub accepted_is : (n room : ℕ) → pack_check n room ≡ Ok tt → (bad_trucks n ≡ false) × (n ≤ 32) × (size_for 32 ≤ room)
unfolding pack_check
accepted_is n room h =
    let later = refuse (ltb room (size_for 32)) ShortBuffer (Ok tt) in
    let t = refuse-false (bad_trucks n) Record later h in
    (t, (trucks_in_lem n t).1, ltb-false room (size_for 32) (refuse-false (ltb room (size_for 32)) ShortBuffer (Ok tt) (refuse-rest (bad_trucks n) Record later h)))

module _ (n room : ℕ) where
  pub pack_7 : (b : Bool) → b ≡ bad_trucks n → b ≡ true → Err Record ≡ pack_check n room
  unfolding pack_check
  pack_7 b e h = rw (sym e ∙ h)

  module _ (b : Bool) (counted : b ≡ bad_trucks n) (range : b ≡ false) where
    pub pack_9 : room < size_for 32 → Err ShortBuffer ≡ pack_check n room
    unfolding pack_check
    pack_9 h = rw (sym counted ∙ range, lt-ltb room (size_for 32) h)

    pub pack_0 : size_for 32 ≤ room → (Ok tt) ≡ pack_check n room
    unfolding pack_check
    pack_0 h = rw (sym counted ∙ range, le-ltb room (size_for 32) h)

module _ (f : Fleet) (d : List ℕ) (o : Outcome) (checked : o ≡ pack_check f.n (length d)) where
  module _ (r : Refusal) (kept : o ≡ Err r) where
    pub pack_refusal : Err r ≡ pack_check f.n (length d)
    pack_refusal = sym kept ∙ checked

    pub pack-kept : (m : ℕ) → d ≡ pack_for (pack_check f.n (length d)) m f d
    pack-kept m = ap (λ (x : Outcome). pack_for x m f d) pack_refusal

  module _ (kept : o ≡ Ok tt) where
    pub pack-accepted : (Ok tt) ≡ pack_check f.n (length d)
    pack-accepted = sym kept ∙ checked

    pub pack-put : (m : ℕ) (l : List ℕ) → l ≡ filled (record_byte f) (size_for m) d → l ≡ pack_for (pack_check f.n (length d)) m f d
    pack-put m l e = e ∙ ap (λ (x : Outcome). pack_for x m f d) pack-accepted

    pub pack_range : (m : ℕ) → (bad_trucks f.n ≡ false → m ≤ 32) → m ≤ 32
    pack_range m h = h (accepted_is f.n (length d) (sym pack-accepted)).0

    pub pack-room : size_for 32 ≤ length d
    pack-room = (accepted_is f.n (length d) (sym pack-accepted)).2

-- ---- taking bytes for a record

pub blank-trucks : blank.trucks ≡ opened_trucks []
unfolding blank
blank-trucks = refl

module _ (d : List ℕ) where
  module _ (x : Bool) (told : x ≡ damaged d) where
    pub unpack_7 : (a : Answer) → a ≡ no_record → x ≡ true → a ≡ unpacked d
    unfolding unpacked
    unpack_7 a e h = e ∙ rw (sym told ∙ h)

    pub unpack_0 : (f : Fleet) → f ≡ record_of d → x ≡ false → record { outcome = Ok tt; fleet = f } ≡ unpacked d
    unfolding unpacked
    unpack_0 f e h = rw (sym told ∙ h, e)

-- ---- one place

module _ (d : List ℕ) (i : ℕ) where
  pub place_short : length d < size_for 32 → lacks_place d i ≡ true
  place_short h = rw (lt-ltb (length d) (size_for 32) h)

  pub place_past : 32 ≤ i → lacks_place d i ≡ true
  place_past h = rw (le-leb 32 i h) (or_true (ltb (length d) (size_for 32)))
    where
      or_true : (b : Bool) → (b || true) ≡ true
      or_true true = refl
      or_true false = refl

  module _ (lacks : lacks_place d i ≡ true) where
    pub truck-none : (t : Truck) → t ≡ opened 0 → t ≡ truck_in d i
    unfolding truck_in
    truck-none t e = e ∙ rw lacks

    pub put-none : (t : Truck) → d ≡ with_truck d i t
    unfolding with_truck
    put-none t = rw lacks

  module _ (has : lacks_place d i ≡ false) where
    pub place-whole : size_for 32 ≤ length d
    place-whole = ltb-false (length d) (size_for 32) (or_left (ltb (length d) (size_for 32)) (leb 32 i) has)

    pub place-below : i < 32
    place-below = leb-false 32 i (or_right (ltb (length d) (size_for 32)) (leb 32 i) has)

    pub truck-some : (t : Truck) → t ≡ truck_at d i → t ≡ truck_in d i
    unfolding truck_in
    truck-some t e = e ∙ rw has

    pub put_some : (t : Truck) (l : List ℕ) → l ≡ sets d (size_for i) (truck_bytes t) → l ≡ with_truck d i t
    unfolding with_truck
    put_some t l e = e ∙ rw has

  -- a place of a whole record
  module _ (whole : size_for 32 ≤ length d) (below : i < 32) where
    pub place_had : lacks_place d i ≡ false
    place_had = rw (le-ltb (length d) (size_for 32) whole, lt-leb 32 i below)

    pub truck_had : truck_in d i ≡ truck_at d i
    truck_had = sym (truck-some place_had (truck_at d i) refl)

    pub put_had : (t : Truck) → with_truck d i t ≡ sets d (size_for i) (truck_bytes t)
    put_had t = sym (put_some place_had t (sets d (size_for i) (truck_bytes t)) refl)
