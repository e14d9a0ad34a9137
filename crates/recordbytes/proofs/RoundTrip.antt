-- Bytes and records: the bytes of an undamaged record come back as they were, and a record that is put into a buffer is read out of it again.
use mathlib.Core.Path.{◌≡◌, refl, ap, ap₂, sym, ◌∙◌}
use mathlib.Core.Bool.{Bool, true, false, cond, ◌&&◌, ◌||◌}
use mathlib.Core.List.{List, []}
use Prim.Native.Nat.{ℕ, zero, suc, ◌+◌, ◌*◌, ◌-◌, ◌/◌, ◌%◌, ◌≤◌, ◌<◌}
use native.Mathlib.Decide.{dec_lt}
use native.Mathlib.Omega.{arith}
use lib.Dec.{eqb, ltb}
use lib.ListN.{length, get_or}
use lib.Seq.{ext_get_or}
use borrow.Author.Tests.{le-ltb, ltb-false}
use Rattle.std.specs.Prelude.{Ok}
use Rattle.basics.specs.Lists.{filled, some_below}
use Rattle.basics.proofs.Laws.{length-filled, get_or-filled, get_or-filled_past, filled-same, filled-part, or_left, or_right, some_below-none, none-some_below}
use Rattle.recording.proofs.Accepted.{trucks_in_lem}
use Rattle.recording.specs.Checks.{bad_trucks}
use Rattle.protocol.specs.declared.Heard.{Heard}
use Rattle.protocol.specs.declared.Heard.TheVariants.{Nothing, One, Several}
use Rattle.protocol.specs.declared.State.{State}
use Rattle.protocol.specs.declared.State.TheVariants.{Running, Stopped, Decided}
use Rattle.protocol.specs.declared.Truck.{Truck}
use Rattle.protocol.specs.declared.Fleet.{Fleet}
use Rattle.protocol.specs.Rules.{truck, opened}
use Rattle.protocol.specs.Runs.{opened_trucks}
use Rattle.protocol.proofs.Opened.{length-opened, truck_unopened}
use Rattle.recordbytes.specs.Layout.{size_for, bool_byte, heard_byte, state_byte, round_of, truck_bytes, record_byte, pack_check, pack_for, packed_record, packed_whole, heard_of_byte, state_of_byte, pair_of, place_byte, place_round, truck_at, damaged_at, damaged, record_of, no_record, unpacked}
use Rattle.recordbytes.proofs.Laws.{place_byte_lem, same_byte, byte_of_place, accepted_is, pack_0}
use Rattle.refusals.specs.Outcomes.{Outcome}

-- ---- numbers of two bytes

pair_low : (a b : ℕ) → a < 256 → pair_of a b % 256 ≡ a
pair_low a b h = omega arith

pair_high : (a b : ℕ) → a < 256 → pair_of a b / 256 ≡ b
pair_high a b h = omega arith

pair_back : (k : ℕ) → pair_of (k % 256) (k / 256) ≡ k
pair_back k = omega arith

-- ---- a byte, as what it stands for and back

bool_back : (b : ℕ) → ltb 1 b ≡ false → bool_byte (eqb b 1) ≡ b
bool_back zero h = refl
bool_back (suc zero) h = refl
bool_back (suc (suc b)) h = absurd (omega (arith, ltb-false 1 (suc (suc b)) h))

heard-back : (b : ℕ) → ltb 2 b ≡ false → heard_byte (heard_of_byte b) ≡ b
heard-back zero h = refl
heard-back (suc zero) h = refl
heard-back (suc (suc zero)) h = refl
heard-back (suc (suc (suc b))) h = absurd (omega (arith, ltb-false 2 (suc (suc (suc b))) h))

state-back : (b k : ℕ) → ltb 2 b ≡ false → state_byte (state_of_byte b k) ≡ b
state-back zero k h = refl
state-back (suc zero) k h = refl
state-back (suc (suc zero)) k h = refl
state-back (suc (suc (suc b))) k h = absurd (omega (arith, ltb-false 2 (suc (suc (suc b))) h))

-- a running truck has no round
state-round-back : (b k : ℕ) → ltb 2 b ≡ false → (eqb b 0 && ltb 0 k) ≡ false → round_of (state_of_byte b k) ≡ k
state-round-back zero k h e = omega (arith, ltb-false 0 k e)
state-round-back (suc zero) k h e = refl
state-round-back (suc (suc zero)) k h e = refl
state-round-back (suc (suc (suc b))) k h e = absurd (omega (arith, ltb-false 2 (suc (suc (suc b))) h))

-- ---- bytes that are a record come back

-- what the bytes of an undamaged place are
record Sound (d : List ℕ) (i : ℕ) : Type 0 where
  mark : ltb 1 (place_byte d i 2) ≡ false
  heard : ltb 2 (place_byte d i 3) ≡ false
  state : ltb 2 (place_byte d i 4) ≡ false
  round : (eqb (place_byte d i 4) 0 && ltb 0 (place_round d i)) ≡ false
  unwilling : ltb 1 (place_byte d i 9) ≡ false

sound : (d : List ℕ) (i : ℕ) → damaged_at d i ≡ false → Sound d i
unfolding damaged_at
sound d i h =
    let mark = ltb 1 (place_byte d i 2) in
    let heard = ltb 2 (place_byte d i 3) in
    let state = ltb 2 (place_byte d i 4) in
    let round = eqb (place_byte d i 4) 0 && ltb 0 (place_round d i) in
    let upTo6 = or_left (mark || heard || state || round) (ltb 1 (place_byte d i 9)) h in
    let upTo4 = or_left (mark || heard || state) round upTo6 in
    let upTo3 = or_left (mark || heard) state upTo4 in
    record {
      mark = or_left mark heard upTo3;
      heard = or_right mark heard upTo3;
      state = or_right (mark || heard) state upTo4;
      round = or_right (mark || heard || state) round upTo6;
      unwilling = or_right (mark || heard || state || round) (ltb 1 (place_byte d i 9)) h;
    }

-- its ten bytes
place-back : (d : List ℕ) (i : ℕ) → Sound d i → place_byte d i 5 < 256 → (j : ℕ) → j < 10 → get_or (truck_bytes (truck_at d i)) j 0 ≡ place_byte d i j
unfolding truck_at
place-back d i s low zero l = refl
place-back d i s low (suc zero) l = refl
place-back d i s low (suc (suc zero)) l = bool_back (place_byte d i 2) s.mark
place-back d i s low (suc (suc (suc zero))) l = heard-back (place_byte d i 3) s.heard
place-back d i s low (suc (suc (suc (suc zero)))) l = state-back (place_byte d i 4) (place_round d i) s.state
place-back d i s low (suc (suc (suc (suc (suc zero))))) l =
    ap (λ (k : ℕ). k % 256) (state-round-back (place_byte d i 4) (place_round d i) s.state s.round) ∙ pair_low (place_byte d i 5) (place_byte d i 6) low
place-back d i s low (suc (suc (suc (suc (suc (suc zero)))))) l =
    ap (λ (k : ℕ). k / 256) (state-round-back (place_byte d i 4) (place_round d i) s.state s.round) ∙ pair_high (place_byte d i 5) (place_byte d i 6) low
place-back d i s low (suc (suc (suc (suc (suc (suc (suc zero))))))) l = refl
place-back d i s low (suc (suc (suc (suc (suc (suc (suc (suc zero)))))))) l = refl
place-back d i s low (suc (suc (suc (suc (suc (suc (suc (suc (suc zero))))))))) l = bool_back (place_byte d i 9) s.unwilling
place-back d i s low (suc (suc (suc (suc (suc (suc (suc (suc (suc (suc j)))))))))) l = absurd (omega arith)

-- bytes: every element of the list is below 256
abbrev pub Bytes : List ℕ → Type 0
Bytes d = (k : ℕ) → k < length d → get_or d k 0 < 256

-- what makes bytes a record
pub record Undamaged (d : List ℕ) : Type 0 where
  pub whole : size_for 32 ≤ length d
  pub range : bad_trucks (get_or d 0 0) ≡ false
  places : (i : ℕ) → i < get_or d 0 0 → Sound d i

pub undamaged : (d : List ℕ) → damaged d ≡ false → Undamaged d
unfolding damaged
undamaged d h =
    let front : (ltb (length d) (size_for 32) || bad_trucks (get_or d 0 0)) ≡ false = or_left (ltb (length d) (size_for 32) || bad_trucks (get_or d 0 0)) (some_below (damaged_at d) (get_or d 0 0)) h in
    record {
      whole = ltb-false (length d) (size_for 32) (or_left (ltb (length d) (size_for 32)) (bad_trucks (get_or d 0 0)) front);
      range = or_right (ltb (length d) (size_for 32)) (bad_trucks (get_or d 0 0)) front;
      places = λ i l. sound d i (some_below-none (damaged_at d) (get_or d 0 0) (or_right (ltb (length d) (size_for 32) || bad_trucks (get_or d 0 0)) (some_below (damaged_at d) (get_or d 0 0)) h) i l);
    }

module _ (d : List ℕ) (bytes : Bytes d) (u : Undamaged d) where
  -- a byte of a place
  later_back : (q : ℕ) → q < 10 * get_or d 0 0 → record_byte (record_of d) (3 + q) ≡ get_or d (3 + q) 0
  unfolding record_of place_byte
  later_back q h =
      let n = get_or d 0 0 in
      let most : n ≤ 32 = (trucks_in_lem n u.range).1 in
      let i : q / 10 < n = omega arith in
      let low : place_byte d (q / 10) 5 < 256 = bytes (size_for (q / 10) + 5) (omega (arith, u.whole)) in
      let e : size_for (q / 10) + q % 10 ≡ 3 + q = omega arith in
      sym (place_byte_lem (record_of d) q)
      ∙ ap (λ (t : Truck). get_or (truck_bytes t) (q % 10) 0) (get_or-filled (truck_at d) n (opened_trucks []) (q / 10) (opened 0) i)
      ∙ place-back d (q / 10) (u.places (q / 10) i) low (q % 10) (omega arith)
      ∙ ap (λ (k : ℕ). get_or d k 0) e

  byte_back : (p : ℕ) → p < size_for (get_or d 0 0) → record_byte (record_of d) p ≡ get_or d p 0
  unfolding record_of record_byte
  byte_back zero h = refl
  byte_back (suc zero) h = pair_low (get_or d 1 0) (get_or d 2 0) (bytes 1 (omega (arith, u.whole)))
  byte_back (suc (suc zero)) h = pair_high (get_or d 1 0) (get_or d 2 0) (bytes 1 (omega (arith, u.whole)))
  byte_back (suc (suc (suc q))) h =
      let e : suc (suc (suc q)) ≡ 3 + q = omega arith in
      ap (record_byte (record_of d)) e ∙ later_back q (omega arith) ∙ sym (ap (λ (k : ℕ). get_or d k 0) e)

-- bytes that are taken for a record are undamaged
pub taken-whole : (d : List ℕ) → (unpacked d).outcome ≡ Ok tt → damaged d ≡ false
unfolding unpacked
taken-whole d h = go (damaged d) h
  where
    go : (b : Bool) → (cond b no_record (record { outcome = Ok tt; fleet = record_of d })).outcome ≡ Ok tt → b ≡ false
    go true e = let z : ◌≡◌ {A = ℕ} 0 1 = cc in absurd (omega arith)
    go false e = refl

-- the bytes of an undamaged record come back as they were
pub bytes_back : (d : List ℕ) → Bytes d → damaged d ≡ false → packed_record (record_of d) d ≡ d
unfolding packed_record record_of
bytes_back d bytes h =
    let u = undamaged d h in
    let n = get_or d 0 0 in
    let most : n ≤ 32 = (trucks_in_lem n u.range).1 in
    ap (λ (o : Outcome). pack_for o n (record_of d) d) (sym (pack_0 n (length d) false (sym u.range) refl u.whole))
    ∙ filled-same 0 (record_byte (record_of d)) (size_for n) d (omega (arith, u.whole)) (byte_back d bytes u)

-- ---- a record that is put into a buffer is read out of it

-- the two records have n, the rounds done and the trucks below n in common
pub record SameRecord (f g : Fleet) : Type 0 where
  pub n : g.n ≡ f.n
  pub done : g.done ≡ f.done
  pub trucks : (i : ℕ) → i < f.n → truck g.trucks i ≡ truck f.trucks i

bool_there : (b : Bool) → (eqb (bool_byte b) 1 ≡ b) × (ltb 1 (bool_byte b) ≡ false)
bool_there true = (refl, refl)
bool_there false = (refl, refl)

heard_there : (h : Heard) → (heard_of_byte (heard_byte h) ≡ h) × (ltb 2 (heard_byte h) ≡ false)
heard_there Nothing = (refl, refl)
heard_there One = (refl, refl)
heard_there Several = (refl, refl)

state_there : (s : State)
    → (state_of_byte (state_byte s) (round_of s) ≡ s) × (ltb 2 (state_byte s) ≡ false) × ((eqb (state_byte s) 0 && ltb 0 (round_of s)) ≡ false)
state_there Running = (refl, refl, refl)
state_there (Stopped k) = (refl, refl, refl)
state_there (Decided k) = (refl, refl, refl)

-- a place that holds the bytes of a truck
module _ (d : List ℕ) (i : ℕ) (t : Truck) (holds : (j : ℕ) → j < 10 → place_byte d i j ≡ get_or (truck_bytes t) j 0) where
  place-round_there : place_round d i ≡ round_of t.state
  place-round_there = ap₂ (λ (a b : ℕ). pair_of a b) (holds 5 (omega arith)) (holds 6 (omega arith)) ∙ pair_back (round_of t.state)

  truck_there : truck_at d i ≡ t
  unfolding truck_at
  truck_there =
      rw (
        holds 0 (omega arith),
        holds 1 (omega arith),
        holds 2 (omega arith),
        holds 3 (omega arith),
        holds 4 (omega arith),
        place-round_there,
        holds 7 (omega arith),
        holds 8 (omega arith),
        holds 9 (omega arith),
      )
      (simp ((bool_there t.mark).0, (bool_there t.unwilling).0, (heard_there t.heard).0, (state_there t.state).0))

  place_there : damaged_at d i ≡ false
  unfolding damaged_at
  place_there =
      rw (holds 2 (omega arith), holds 3 (omega arith), holds 4 (omega arith), place-round_there, holds 9 (omega arith))
      (simp ((bool_there t.mark).1, (bool_there t.unwilling).1, (heard_there t.heard).1, (state_there t.state).1, (state_there t.state).2))

-- 32 places, of which those from n on are as a start makes them
pub record Tidy (n : ℕ) (ts : List Truck) : Type 0 where
  pub places : length ts ≡ 32
  pub rest : (i : ℕ) → n ≤ i → truck ts i ≡ opened 0

-- brought up to date over another record of n trucks that stands whole in a buffer, such a record stands whole in it
pub tidy-over : (n : ℕ) (f g : Fleet) (d : List ℕ) → n ≤ 32 → size_for 32 ≤ length d → Tidy n f.trucks → Tidy n g.trucks
    → filled (record_byte g) (size_for n) (filled (record_byte f) (size_for 32) d) ≡ filled (record_byte g) (size_for 32) d
tidy-over n f g d few room tf tg = filled-part 0 (record_byte f) (record_byte g) (size_for n) (size_for 32) d (omega arith) room (λ q l o. same q l)
  where
    same : (q : ℕ) → size_for n ≤ q → record_byte f q ≡ record_byte g q
    same q l =
        let i : n ≤ (q - 3) / 10 = omega arith in
        same_byte f g q (omega arith) (tf.rest ((q - 3) / 10) i ∙ sym (tg.rest ((q - 3) / 10) i))

tidy-read : (d : List ℕ) → get_or d 0 0 ≤ 32 → Tidy (record_of d).n (record_of d).trucks
unfolding record_of
tidy-read d h =
    record {
      places = length-filled (truck_at d) (get_or d 0 0) (opened_trucks []) (omega (arith, length-opened [])) ∙ length-opened [];
      rest = λ i l. get_or-filled_past (truck_at d) (get_or d 0 0) (opened_trucks []) i (opened 0) l ∙ truck_unopened [] i (omega arith);
    }

tidy-same : (f g : Fleet) → Tidy f.n f.trucks → Tidy g.n g.trucks → SameRecord f g → g ≡ f
tidy-same f g tf tg s =
    let e : g.trucks ≡ f.trucks = ext_get_or (opened 0) g.trucks f.trucks (tg.places ∙ sym tf.places) (λ i l. at i (dec_lt i f.n)) in
    let n : g.n ≡ f.n = s.n in
    let d : g.done ≡ f.done = s.done in
    whole n d e
  where
    at : (i : ℕ) → Dec (i < f.n) → truck g.trucks i ≡ truck f.trucks i
    at i (yes l) = s.trucks i l
    at i (no l) = tg.rest i (omega (arith, s.n)) ∙ sym (tf.rest i (omega arith))

    whole : g.n ≡ f.n → g.done ≡ f.done → g.trucks ≡ f.trucks → g ≡ f
    whole p q r = λ i. record { n = p i; done = q i; trucks = r i }

-- the first m places, n of which hold trucks, in a buffer with room for all
module _ (f : Fleet) (d : List ℕ) (m : ℕ) (range : bad_trucks f.n ≡ false) (room : size_for 32 ≤ length d) (low : f.n ≤ m) (high : m ≤ 32) where
  abbrev laid : List ℕ
  laid = filled (record_byte f) (size_for m) d

  byte_laid : (p : ℕ) → p < size_for m → get_or laid p 0 ≡ record_byte f p
  byte_laid p h = get_or-filled (record_byte f) (size_for m) d p 0 h

  head_laid : (get_or laid 0 0 ≡ f.n) × (pair_of (get_or laid 1 0) (get_or laid 2 0) ≡ f.done)
  unfolding record_byte
  head_laid =
      (byte_laid 0 (omega arith), ap₂ (λ (a b : ℕ). pair_of a b) (byte_laid 1 (omega arith)) (byte_laid 2 (omega arith)) ∙ pair_back f.done)

  place-laid : (i : ℕ) → i < m → (j : ℕ) → j < 10 → place_byte laid i j ≡ get_or (truck_bytes (truck f.trucks i)) j 0
  unfolding place_byte
  place-laid i h j l = byte_laid (size_for i + j) (omega arith) ∙ sym (byte_of_place f i j l)

  same-laid : SameRecord f (record_of laid)
  unfolding record_of
  same-laid =
      record {
        n = head_laid.0;
        done = head_laid.1;
        trucks = λ i l.
            get_or-filled (truck_at laid) (get_or laid 0 0) (opened_trucks []) i (opened 0) (omega (arith, head_laid.0))
            ∙ truck_there laid i (truck f.trucks i) (place-laid i (omega arith));
      }

  undamaged-laid : damaged laid ≡ false
  unfolding damaged
  undamaged-laid =
      rw (le-ltb (length laid) (size_for 32) (omega (arith, length-filled (record_byte f) (size_for m) d (omega arith))), head_laid.0, range)
      (none-some_below (damaged_at laid) f.n (λ i l. place_there laid i (truck f.trucks i) (place-laid i (omega arith))))

  read-laid : unpacked laid ≡ record { outcome = Ok tt; fleet = record_of laid }
  unfolding unpacked
  read-laid = rw undamaged-laid

  same_back : ((unpacked laid).outcome ≡ Ok tt) × SameRecord f (unpacked laid).fleet
  same_back = rw read-laid (refl, same-laid)

  tidy-back : Tidy f.n f.trucks → unpacked laid ≡ record { outcome = Ok tt; fleet = f }
  tidy-back t =
      let few : get_or laid 0 0 ≤ 32 = omega (arith, head_laid.0) in
      read-laid ∙ ap (λ (g : Fleet). record { outcome = Ok tt; fleet = g }) (tidy-same f (record_of laid) t (tidy-read laid few) same-laid)

module _ (f : Fleet) (d : List ℕ) (room : pack_check f.n (length d) ≡ Ok tt) where
  -- a record brought up to date in a buffer is read out of it, and so is one that is put there whole
  pub record_back : ((unpacked (packed_record f d)).outcome ≡ Ok tt) × SameRecord f (unpacked (packed_record f d)).fleet
  unfolding packed_record
  record_back =
      let g = accepted_is f.n (length d) room in
      rw room (same_back f d f.n g.0 g.2 (omega arith) g.1)

  pub whole_back : ((unpacked (packed_whole f d)).outcome ≡ Ok tt) × SameRecord f (unpacked (packed_whole f d)).fleet
  unfolding packed_whole
  whole_back =
      let g = accepted_is f.n (length d) room in
      rw room (same_back f d 32 g.0 g.2 g.1 (omega arith))

  -- and where its places n and above are as a start makes them, every place of it
  pub whole-tidy : Tidy f.n f.trucks → unpacked (packed_whole f d) ≡ record { outcome = Ok tt; fleet = f }
  unfolding packed_whole
  whole-tidy t =
      let g = accepted_is f.n (length d) room in
      rw room (tidy-back f d 32 g.0 g.2 g.1 (omega arith) t)
