-- Laws of a record's bytes by their parts, the head and the ten bytes of each place: what they are of the bytes, and what is read out of them.
use mathlib.Core.Path.{◌≡◌, refl, ap, ap₂, sym, ◌∙◌}
use mathlib.Core.Bool.{Bool, true, false, ◌||◌}
use mathlib.Core.List.{List, []}
use Prim.Native.Nat.{ℕ, zero, suc, ◌+◌, ◌*◌, ◌/◌, ◌≤◌, ◌<◌}
use native.Mathlib.Omega.{arith}
use lib.ListN.{length, get_or, take, drop}
use lib.Seq.{drop-drop, get_or-drop}
use borrow.Author.Tests.{lt-ltb, le-ltb}
use Rattle.std.specs.Simd.{first_chunks}
use Rattle.std.specs.List.{list_any}
use Rattle.std.proofs.lemmas.List.{get_or-take, length-take-le}
use Rattle.std.proofs.lemmas.List.Folds.{list_any_more}
use Rattle.basics.specs.Lists.{filled, some_below}
use Rattle.basics.proofs.Laws.{filled_ext, or_left, some-none, some_more}
use Rattle.recording.proofs.Accepted.{trucks_in_lem}
use Rattle.recording.specs.Checks.{bad_trucks}
use Rattle.protocol.specs.declared.Truck.{Truck}
use Rattle.protocol.specs.Runs.{opened_trucks}
use Rattle.recordbytes.specs.Layout.{size_for, pair_of, place_byte, truck_at, damaged_at, damaged, record_of, truck_of, damaged_place, ArePartsOf, damaged_parts, record_of_parts}

-- ---- the parts are cut from the bytes

module _ {X : Type 0} where
  chunk_at : (n k : ℕ) (xs : List X) (i : ℕ) → i < k → get_or (first_chunks n k xs) i [] ≡ take n (drop (i * n) xs)
  chunk_at n zero xs i h = absurd (omega arith)
  chunk_at n (suc k) xs zero h = ap (λ (m : ℕ). take n (drop m xs)) (let e : 0 ≡ 0 * n = omega arith in e)
  chunk_at n (suc k) xs (suc i) h =
      chunk_at n k (drop n xs) i (omega arith)
      ∙ ap (take n) (drop-drop (i * n) n xs ∙ ap (λ (m : ℕ). drop m xs) (let e : n + i * n ≡ suc i * n = omega arith in e))

pub parts_cut : (d head rest : List ℕ) (chunks places : List (List ℕ)) → head ≡ take 3 d → rest ≡ drop 3 d → length rest + 3 ≡ length d
    → chunks ≡ first_chunks 10 (length rest / 10) rest → length chunks ≡ length rest / 10 → places ≡ take 32 chunks → 32 ≤ length chunks → ArePartsOf d head places
unfolding place_byte
parts_cut d head rest chunks places eh er el ec ek ep h =
    record {
      whole = omega arith;
      count = ap length ep ∙ length-take-le 32 chunks h;
      head_byte = λ j l. ap (λ (x : List ℕ). get_or x j 0) eh ∙ get_or-take 3 d j 0 l;
      byte = byte;
    }
  where
    byte : (i j : ℕ) → i < 32 → j < 10 → get_or (get_or places i []) j 0 ≡ get_or d (size_for i + j) 0
    byte i j k l =
        ap (λ (x : List (List ℕ)). get_or (get_or x i []) j 0) ep
        ∙ ap (λ (x : List ℕ). get_or x j 0) (get_or-take 32 chunks i [] k ∙ ap (λ (x : List (List ℕ)). get_or x i []) ec ∙ chunk_at 10 (length rest / 10) rest i (omega arith))
        ∙ get_or-take 10 (drop (i * 10) rest) j 0 l
        ∙ get_or-drop (i * 10) rest j 0
        ∙ ap (λ (x : List ℕ). get_or x (i * 10 + j) 0) er
        ∙ get_or-drop 3 d (i * 10 + j) 0
        ∙ ap (λ (m : ℕ). get_or d m 0) (let e : 3 + (i * 10 + j) ≡ size_for i + j = omega arith in e)

-- bytes past a record belong to no part
pub parts_within : (d r head : List ℕ) (places : List (List ℕ)) → r ≡ take (size_for 32) d → size_for 32 ≤ length d → ArePartsOf r head places
    → ArePartsOf d head places
unfolding place_byte
parts_within d r head places e whole p =
    record {
      whole = whole;
      count = p.count;
      head_byte = λ j l. p.head_byte j l ∙ same j (omega arith);
      byte = λ i j k l. p.byte i j k l ∙ same (size_for i + j) (omega arith);
    }
  where
    same : (j : ℕ) → j < size_for 32 → get_or r j 0 ≡ get_or d j 0
    same j l = ap (λ (x : List ℕ). get_or x j 0) e ∙ get_or-take (size_for 32) d j 0 l

-- ---- what is read out of them

-- a search through the first n elements, where a test of numbers says of each what the test of elements does
any_below : {X : Type 0} (p : X → Bool) (q : ℕ → Bool) (xs : List X) (z : X) (n : ℕ) → n ≤ length xs → ((i : ℕ) → i < n → p (get_or xs i z) ≡ q i)
    → list_any p (take n xs) ≡ some_below q n
any_below p q xs z zero l same = sym (some-none q)
any_below p q xs z (suc n) l same =
    ap (λ (m : ℕ). list_any p (take m xs)) (let e : suc n ≡ n + 1 = omega arith in e)
    ∙ list_any_more p xs n z (omega arith)
    ∙ ap₂ ◌||◌ (any_below p q xs z n (omega arith) (λ i h. same i (omega arith))) (same n (omega arith))
    ∙ some_more q n
    ∙ ap (some_below q) (let e : n + 1 ≡ suc n = omega arith in e)

module _ (d head : List ℕ) (places : List (List ℕ)) (parts : ArePartsOf d head places) where
  pub truck_here : (i : ℕ) → i < 32 → truck_of (get_or places i []) ≡ truck_at d i
  unfolding truck_at
  truck_here i h =
      rw (
        parts.byte i 0 h (omega arith),
        parts.byte i 1 h (omega arith),
        parts.byte i 2 h (omega arith),
        parts.byte i 3 h (omega arith),
        parts.byte i 4 h (omega arith),
        parts.byte i 5 h (omega arith),
        parts.byte i 6 h (omega arith),
        parts.byte i 7 h (omega arith),
        parts.byte i 8 h (omega arith),
        parts.byte i 9 h (omega arith),
      )

  damaged_here : (i : ℕ) → i < 32 → damaged_place (get_or places i []) ≡ damaged_at d i
  unfolding damaged_at
  damaged_here i h =
      rw (
        parts.byte i 2 h (omega arith),
        parts.byte i 3 h (omega arith),
        parts.byte i 4 h (omega arith),
        parts.byte i 5 h (omega arith),
        parts.byte i 6 h (omega arith),
        parts.byte i 9 h (omega arith),
      )

  pub damaged_by_parts : damaged_parts head places ≡ damaged d
  unfolding damaged_parts damaged
  damaged_by_parts =
      rw (parts.head_byte 0 (omega arith), le-ltb (length d) (size_for 32) parts.whole) (by_count (bad_trucks (get_or d 0 0)) refl)
    where
      by_count : (b : Bool) → b ≡ bad_trucks (get_or d 0 0)
          → (b || list_any damaged_place (take (get_or d 0 0) places)) ≡ (b || some_below (damaged_at d) (get_or d 0 0))
      by_count true e = refl
      by_count false e =
          let few : get_or d 0 0 ≤ 32 = (trucks_in_lem (get_or d 0 0) (sym e)).1 in
          any_below damaged_place (damaged_at d) places [] (get_or d 0 0) (omega (arith, parts.count)) (λ i h. damaged_here i (omega arith))

  pub record_by_parts : get_or head 0 0 ≤ 32 → record_of_parts head places ≡ record_of d
  unfolding record_of_parts record_of
  record_by_parts h =
      let n : get_or head 0 0 ≡ get_or d 0 0 = parts.head_byte 0 (omega arith) in
      rw (n, parts.head_byte 1 (omega arith), parts.head_byte 2 (omega arith))
      (ap (λ (ts : List Truck). record { n = get_or d 0 0; done = pair_of (get_or d 1 0) (get_or d 2 0); trucks = ts })
      (ap (λ (m : ℕ). filled (λ i. truck_of (get_or (take (get_or d 0 0) places) i [])) m (opened_trucks []))
      (length-take-le (get_or d 0 0) places (omega (arith, parts.count)))
      ∙ filled_ext (λ i. truck_of (get_or (take (get_or d 0 0) places) i [])) (truck_at d) (get_or d 0 0) (opened_trucks [])
      (λ i l. ap truck_of (get_or-take (get_or d 0 0) places i [] l) ∙ truck_here i (omega arith))))

  pub head_count : damaged_parts head places ≡ false → get_or head 0 0 ≤ 32
  unfolding damaged_parts
  head_count h =
      (trucks_in_lem (get_or head 0 0) (or_left (bad_trucks (get_or head 0 0)) (list_any damaged_place (take (get_or head 0 0) places)) h)).1

pub damaged_short : (d : List ℕ) → length d < size_for 32 → true ≡ damaged d
unfolding damaged
damaged_short d h = rw (lt-ltb (length d) (size_for 32) h)
