-- The tests of openings and words that the code makes, by shifts and unions, are those that the checks ask.
use mathlib.Core.Path.{◌≡◌, refl, ap, sym, ◌∙◌}
use mathlib.Core.Bool.{Bool, true, false, not, ◌||◌}
use mathlib.Core.List.{List}
use Prim.Native.Nat.{ℕ, zero, suc, ◌+◌, ◌*◌, ◌-◌, ◌/◌, ◌%◌, ◌^◌, ◌≤◌, ◌<◌, min}
use native.Mathlib.Nat.{le_refl, div-eq_of_lt, le-div_iff_mul-le}
use native.Mathlib.Numerals.{add-one}
use native.Mathlib.Omega.{arith}
use borrow.Author.Tests.{leb-true, leb-false, le-leb, lt-leb, eq-eqb, ne_eqb, eqb-true, eqb-false}
use lib.Bits.{bit_and, bit_or, and_le_l, and_le_r, and_high, or_lt, or_add_and}
use lib.Dec.{leb, ltb, eqb, lit<}
use lib.ListN.{length, get_or, take}
use lib.Pow.{pow_mono, pow_pos, pow-add, shl_exact}
use Rattle.std.proofs.Common.{Option, Some, None}
use Rattle.std.specs.Option.{MatchOption}
use Rattle.std.specs.List.{fold, list_any}
use Rattle.std.proofs.lemmas.List.{take_all}
use Rattle.std.proofs.lemmas.List.Folds.{list_any_more}
use Rattle.std.proofs.lemmas.List.Sums.{fold_more}
use Rattle.basics.specs.Bits.{digit, bit}
use Rattle.basics.specs.Lists.{first, some_below}
use Rattle.basics.proofs.Laws.{first_unique, some_below_by, none-some_below, some-none, some_more, some_ext, first_ext, some_past, first_past}
use Rattle.bitreader.proofs.Digits.{digit_lt}
use Rattle.plain.specs.Steps.{own_in_rows}
use Rattle.plain.proofs.Chunks.{Taken, rows, rows_count, row-there}
use Rattle.recording.specs.Checks.{high_bit, own_bit, own_in, own_truck, bad_openings, bad_words}

-- a shift in place of a power
pub high_shift : (n w : ℕ) → leb 1 (w / 2 ^ n) ≡ high_bit n w
unfolding high_bit
high_shift n w = go (leb (2 ^ n) w) refl
  where
    go : (b : Bool) → leb (2 ^ n) w ≡ b → leb 1 (w / 2 ^ n) ≡ b
    go true h =
        let l : 2 ^ n ≤ w = leb-true (2 ^ n) w h in
        le-leb 1 (w / 2 ^ n) ((le-div_iff_mul-le (pow_pos n)).1 (let o : 1 * 2 ^ n ≤ w = omega arith in o))
    go false h =
        let l : w < 2 ^ n = leb-false (2 ^ n) w h in
        lt-leb 1 (w / 2 ^ n) (omega (arith, div-eq_of_lt l))

-- words have 32 bits
pub high_none : (n w : ℕ) → 32 ≤ n → w < 2 ^ 32 → false ≡ high_bit n w
unfolding high_bit
high_none n w h l = sym (lt-leb (2 ^ n) w (omega (arith, pow_mono {i = 32} {j = n} h)))

bit-none : (w i : ℕ) → 32 ≤ i → w < 2 ^ 32 → false ≡ bit w i
bit-none w i h l =
    ap (λ (x : ℕ). eqb (x % 2) 1) (sym (div-eq_of_lt (let o : w < 2 ^ i = omega (arith, pow_mono {i = 32} {j = i} h) in o)))

pub high_zero : (n : ℕ) → high_bit n 0 ≡ false
unfolding high_bit
high_zero n = lt-leb (2 ^ n) 0 (pow_pos n)

-- a union has a bit too high exactly where one of its words has
pub high_or : (n a b : ℕ) → high_bit n (bit_or a b) ≡ (high_bit n a || high_bit n b)
unfolding high_bit
high_or n a b = go (leb (2 ^ n) a) (leb (2 ^ n) b) refl refl
  where
    go : (x y : Bool) → leb (2 ^ n) a ≡ x → leb (2 ^ n) b ≡ y → leb (2 ^ n) (bit_or a b) ≡ (x || y)
    go true y p q = le-leb (2 ^ n) (bit_or a b) (omega (arith, leb-true (2 ^ n) a p, or_add_and a b, and_le_r a b))
    go false true p q = le-leb (2 ^ n) (bit_or a b) (omega (arith, leb-true (2 ^ n) b q, or_add_and a b, and_le_l a b))
    go false false p q = lt-leb (2 ^ n) (bit_or a b) (or_lt n a b (leb-false (2 ^ n) a p) (leb-false (2 ^ n) b q))

-- and so the union of a list's words
pub high_union : (n : ℕ) (xs : List ℕ) → high_bit n (fold bit_or 0 xs) ≡ some_below (λ k. high_bit n (get_or xs k 0)) (length xs)
high_union n xs = ap (λ (l : List ℕ). high_bit n (fold bit_or 0 l)) (sym (take_all (length xs) xs (le_refl (length xs)))) ∙ go (length xs) (le_refl (length xs))
  where
    high : ℕ → Bool
    high k = high_bit n (get_or xs k 0)

    go : (m : ℕ) → m ≤ length xs → high_bit n (fold bit_or 0 (take m xs)) ≡ some_below high m
    go zero l = high_zero n ∙ sym (some-none high)
    go (suc m) l =
        ap (λ (k : ℕ). high_bit n (fold bit_or 0 (take k xs))) (sym (add-one m))
        ∙ ap (high_bit n) (fold_more bit_or 0 xs m 0 l)
        ∙ high_or n (fold bit_or 0 (take m xs)) (get_or xs m 0)
        ∙ ap (λ (b : Bool). b || high m) (go m (omega arith))
        ∙ some_more high m
        ∙ ap (some_below high) (add-one m)

-- a test of a list's elements, by their places
pub some_in_list : (p : ℕ → Bool) (xs : List ℕ) → list_any p xs ≡ some_below (λ k. p (get_or xs k 0)) (length xs)
some_in_list p xs = ap (list_any p) (sym (take_all (length xs) xs (le_refl (length xs)))) ∙ go (length xs) (le_refl (length xs))
  where
    at : ℕ → Bool
    at k = p (get_or xs k 0)

    go : (m : ℕ) → m ≤ length xs → list_any p (take m xs) ≡ some_below at m
    go zero l = sym (some-none at)
    go (suc m) l =
        ap (λ (k : ℕ). list_any p (take k xs)) (sym (add-one m))
        ∙ list_any_more p xs m 0 l
        ∙ ap (λ (b : Bool). b || at m) (go m (omega arith))
        ∙ some_more at m
        ∙ ap (some_below at) (add-one m)

-- a word's bit alone
pub bit-alone : (w i : ℕ) → i < 32 → high_bit 0 (bit_and w (1 * 2 ^ i % 2 ^ 32)) ≡ bit w i
unfolding high_bit
bit-alone w i h =
    let power : 1 * 2 ^ i % 2 ^ 32 ≡ 2 ^ (1 + i) - 2 ^ i =
    shl_exact {a = 1} 1 i 32 (lit< tt) (omega arith) ∙ omega (arith, pow-add 2 1 i) in
    ap (λ (x : ℕ). leb 1 (bit_and w x)) power ∙ ap (leb 1) (and_high w 1 i) ∙ go (bit w i) refl
  where
    go : (b : Bool) → bit w i ≡ b → leb 1 (digit w i * 2 ^ i) ≡ b
    go true e = le-leb 1 (digit w i * 2 ^ i) (rw (eqb-true (digit w i) 1 e) (omega (arith, pow_pos i)))
    go false e =
        let d : digit w i ≡ 1 → ⊥ = eqb-false (digit w i) 1 e in
        lt-leb 1 (digit w i * 2 ^ i) (rw (let z : digit w i ≡ 0 = omega (arith, digit_lt w i) in z) (omega arith))

-- what a search from the lowest number up answers
pub first_searched : (p : ℕ → Bool) (m : ℕ) (r : Option ℕ)
    → MatchOption r ((k : ℕ) → 0 ≤ k → k < m → p k ≡ false) (λ i. (0 ≤ i) × (i < m) × (p i ≡ true) × ((k : ℕ) → 0 ≤ k → k < i → p k ≡ false))
    → MatchOption r (some_below p m ≡ false) (λ i. (some_below p m ≡ true) × (i ≡ first p m))
first_searched p m None h = none-some_below p m (λ k l. h k (omega arith) l)
first_searched p m (Some i) h =
    (some_below_by p m i h.1 h.2, sym (first_unique p m i (omega arith) (λ k l. h.3 k (omega arith) l) (λ l. h.2)))

-- ---- openings and words as a whole
module _ (n : ℕ) (openings : List ℕ) where
  pub openings-count : (length openings ≡ n → ⊥) → not (eqb (length openings) n) ≡ bad_openings n openings
  unfolding bad_openings
  openings-count h = rw (ne_eqb (length openings) n h)

  pub openings_tested : (b : Bool) → length openings ≡ n → b ≡ some_below (λ k. ltb 15 (get_or openings k 0)) (length openings) → b ≡ bad_openings n openings
  unfolding bad_openings
  openings_tested b e h = rw (eq-eqb (length openings) n e, h)

module _ (n R : ℕ) (words : List ℕ) where
  pub words_count : (length words ≡ R * (3 + n) → ⊥) → true ≡ bad_words n R words
  unfolding bad_words
  words_count h = rw (ne_eqb (length words) (R * (3 + n)) h)

  pub words_tested : (b : Bool) → length words ≡ R * (3 + n) → b ≡ some_below (λ k. high_bit n (get_or words k 0)) (length words) → b ≡ bad_words n R words
  unfolding bad_words
  words_tested b e h = rw (eq-eqb (length words) (R * (3 + n)) e, h)

-- what a look at the rows of round r says; the first 32 trucks alone have an own loss bit
module _ {words : List ℕ} {n r : ℕ} {round rest : List ℕ} (taken : Taken words n r round rest) (m : ℕ)
    (fits : (k : ℕ) → get_or words k 0 < 2 ^ 32) (held : m ≡ min n 32) where
  own : ℕ → Bool
  own = own_bit (λ w. get_or words w 0) n r

  count : length (rows round m) ≡ m
  count = rows_count taken m (omega arith)

  own-there : (i : ℕ) → i < length (rows round m) → own_in_rows (rows round m) i ≡ own i
  unfolding own own_bit
  own-there i l = ap (λ (w : ℕ). bit w i) (row-there taken m i (omega arith) l)

  none_above : (k : ℕ) → length (rows round m) ≤ k → k < n → own k ≡ false
  unfolding own own_bit
  none_above k l u = sym (bit-none (get_or words (r * (3 + n) + (3 + k)) 0) k (omega (arith, count)) (fits (r * (3 + n) + (3 + k))))

  some-there : some_below (own_in_rows (rows round m)) (length (rows round m)) ≡ some_below own n
  some-there =
      some_ext (own_in_rows (rows round m)) own (length (rows round m)) own-there
      ∙ some_past own (length (rows round m)) n (omega (arith, count)) none_above

  pub plain_looked : (b : Bool) → some_below (own_in_rows (rows round m)) (length (rows round m)) ≡ b → own_in (λ w. get_or words w 0) n r ≡ b
  unfolding own own_in
  plain_looked b e = sym some-there ∙ e

  pub plain_searched : (truck : ℕ) → some_below (own_in_rows (rows round m)) (length (rows round m)) ≡ true → truck ≡ first (own_in_rows (rows round m)) (length (rows round m))
      → own_truck (λ w. get_or words w 0) n r ≡ truck
  unfolding own own_truck
  plain_searched truck h e =
      let part : List ℕ = rows round m in
      sym
      (e
      ∙ first_ext (own_in_rows part) own (length part) own-there
      ∙ first_past own (length part) n (omega (arith, count)) (sym (some_ext (own_in_rows part) own (length part) own-there) ∙ h))
