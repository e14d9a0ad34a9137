-- Laws of the definitions of specs/Lists: tables and filled lists by their elements, tests over the numbers below a bound, searches among
-- them, and sums over them.
use mathlib.Core.Path.{◌≡◌, refl, ap, ap₂, sym, ◌∙◌}
use mathlib.Core.Bool.{Bool, true, false, cond, not, ◌&&◌, ◌||◌, true≢false, false≢true}
use mathlib.Core.List.{List, [], ◌∷◌, ◌++◌, append_assoc}
use Prim.Native.Nat.{ℕ, zero, suc, ◌+◌, ◌*◌, ◌-◌, ◌%◌, ◌≤◌, ◌<◌}
use native.Mathlib.Nat.{add-zero, mul-suc}
use native.Mathlib.Numerals.{add-one}
use native.Mathlib.Decide.{dec_lt}
use native.Mathlib.Omega.{arith}
use borrow.Author.Tests.{ltb-true, ltb-false, lt-ltb, le-ltb, eq-eqb, ne_eqb, eqb-true, eqb-false}
use borrow.Author.Count.{below_more}
use lib.Dec.{ltb}
use lib.ListN.{length, get_or, drop, set, replicate, length-append, length-drop, get_or-append}
use lib.Seq.{drop-cons, drop-append-add, drop-drop, set_at, get_or-append-add, get_or-drop, ext_get_or}
use Rattle.basics.specs.Bits.{odd}
use Rattle.basics.specs.Lists.{tab_from, tab, filled, all_below, who, first, some_below, sum_below}

-- a list of zeros has a 0 at every place, also past its end
pub zeros : (m i : ℕ) → get_or {A = ℕ} (replicate m 0) i 0 ≡ 0
zeros zero i = refl
zeros (suc m) zero = refl
zeros (suc m) (suc i) = zeros m i

module _ {ℓ} {A : Type ℓ} where
  length-tab_from : (g : ℕ → A) (i m : ℕ) → length (tab_from g i m) ≡ m
  unfolding tab_from
  length-tab_from g i zero = refl
  length-tab_from g i (suc m) = ap suc (length-tab_from g (suc i) m)

  pub length-tab : (g : ℕ → A) (m : ℕ) → length (tab g m) ≡ m
  unfolding tab
  length-tab g m = length-tab_from g 0 m

  tab_from-suc : (g : ℕ → A) (i m : ℕ) → tab_from g i (suc m) ≡ tab_from g i m ++ (g (i + m) ∷ [])
  unfolding tab_from
  tab_from-suc g i zero = ap (λ (k : ℕ). g k ∷ []) (sym (add-zero i))
  tab_from-suc g i (suc m) =
      ap (λ (l : List A). g i ∷ l) (tab_from-suc g (suc i) m ∙ ap (λ (k : ℕ). tab_from g (suc i) m ++ (g k ∷ [])) (omega arith))

  -- one element more
  pub tab-suc : (g : ℕ → A) (m : ℕ) → tab g (suc m) ≡ tab g m ++ (g m ∷ [])
  unfolding tab
  tab-suc g m = tab_from-suc g 0 m ∙ ap (λ (k : ℕ). tab_from g 0 m ++ (g k ∷ [])) (omega arith)

  get_or-tab_from : (g : ℕ → A) (i m k : ℕ) (d : A) → k < m → get_or (tab_from g i m) k d ≡ g (i + k)
  unfolding tab_from
  get_or-tab_from g i zero k d h = absurd (omega arith)
  get_or-tab_from g i (suc m) zero d h = ap g (sym (add-zero i))
  get_or-tab_from g i (suc m) (suc k) d h = get_or-tab_from g (suc i) m k d (omega arith) ∙ ap g (omega arith)

  -- an element
  pub get_or-tab : (g : ℕ → A) (m k : ℕ) (d : A) → k < m → get_or (tab g m) k d ≡ g k
  unfolding tab
  get_or-tab g m k d h = get_or-tab_from g 0 m k d h ∙ ap g (omega arith)

  -- two tables that agree below m are one
  pub tab_ext : (f g : ℕ → A) (m : ℕ) → ((k : ℕ) → k < m → f k ≡ g k) → tab f m ≡ tab g m
  unfolding tab tab_from
  tab_ext f g zero h = refl
  tab_ext f g (suc m) h =
      tab-suc f m ∙ ap₂ (λ (l : List A) (a : A). l ++ (a ∷ [])) (tab_ext f g m (λ k e. h k (omega arith))) (h m (omega arith)) ∙ sym (tab-suc g m)

  -- a list is the table of its elements
  pub tab-get_or : (d : A) (l : List A) (m : ℕ) → length l ≡ m → tab (λ k. get_or l k d) m ≡ l
  tab-get_or d l m e =
      ext_get_or d (tab (λ k. get_or l k d) m) l (length-tab (λ k. get_or l k d) m ∙ sym e)
      (λ i h. get_or-tab (λ k. get_or l k d) m i d (rw length-tab at h))

  pub filled_none : (g : ℕ → A) (d : List A) → filled g 0 d ≡ d
  unfolding filled tab tab_from
  filled_none g d = refl

  -- one store more: a loop that fills a list from the front
  pub filled_more : (g : ℕ → A) (m : ℕ) (d : List A) (a : A) → m < length d → a ≡ g m → set (filled g m d) m a ≡ filled g (suc m) d
  unfolding filled
  filled_more g m d a h e =
      ap (λ (l : List A). set (tab g m ++ l) m a) (drop-cons d m a h)
      ∙ set_at (tab g m) (get_or d m a) (drop (suc m) d) a m (length-tab g m)
      ∙ ap (λ (x : A). tab g m ++ x ∷ drop (suc m) d) e
      ∙ sym (ap (λ (l : List A). l ++ drop (suc m) d) (tab-suc g m) ∙ append_assoc (tab g m) (g m ∷ []) (drop (suc m) d))

  pub length-filled : (g : ℕ → A) (m : ℕ) (d : List A) → m ≤ length d → length (filled g m d) ≡ length d
  unfolding filled
  length-filled g m d h = simp (length-append, length-tab, length-drop) (omega arith)

  -- an element of the part written
  pub get_or-filled : (g : ℕ → A) (m : ℕ) (d : List A) (k : ℕ) (z : A) → k < m → get_or (filled g m d) k z ≡ g k
  unfolding filled
  get_or-filled g m d k z h =
      get_or-append (tab g m) (drop m d) z k (rw (length-tab g m) h) ∙ get_or-tab g m k z h

  -- an element past the part written
  pub get_or-filled_past : (g : ℕ → A) (m : ℕ) (d : List A) (k : ℕ) (z : A) → m ≤ k → get_or (filled g m d) k z ≡ get_or d k z
  unfolding filled
  get_or-filled_past g m d k z h =
      ap (λ (i : ℕ). get_or (tab g m ++ drop m d) i z) (omega (arith, length-tab g m))
      ∙ get_or-append-add (tab g m) (drop m d) (k - m) z
      ∙ get_or-drop m d (k - m) z
      ∙ ap (λ (i : ℕ). get_or d i z) (omega arith)

  -- a loop that fills a list from the front: the list l after i stores
  module _ (g : ℕ → A) (d l : List A) (i : ℕ) (now : l ≡ filled g i d) where
    pub fill_length : i ≤ length d → length l ≡ length d
    fill_length h = ap length now ∙ length-filled g i d h

    pub fill_step : (a : A) → i < length d → a ≡ g i → set l i a ≡ filled g (i + 1) d
    fill_step a h e = rw (now, add-one i) (filled_more g i d a h e)

  -- filled once more, at least as far: only the last filling counts
  pub filled_again : (f g : ℕ → A) (k m : ℕ) (d : List A) → k ≤ m → filled g m (filled f k d) ≡ filled g m d
  unfolding filled
  filled_again f g k m d h =
      ap (λ (l : List A). tab g m ++ l)
      (ap (λ (i : ℕ). drop i (tab f k ++ drop k d)) (let e : m ≡ length (tab f k) + (m - k) = omega (arith, length-tab f k) in e)
      ∙ drop-append-add (tab f k) (drop k d) (m - k)
      ∙ drop-drop (m - k) k d
      ∙ ap (λ (i : ℕ). drop i d) (let e : k + (m - k) ≡ m = omega arith in e))

  -- filled once more, less far, where the two agree past that
  pub filled-part : (z : A) (f g : ℕ → A) (m k : ℕ) (d : List A) → m ≤ k → k ≤ length d → ((i : ℕ) → m ≤ i → i < k → f i ≡ g i)
      → filled g m (filled f k d) ≡ filled g k d
  filled-part z f g m k d h l same =
      ext_get_or z (filled g m (filled f k d)) (filled g k d)
      (length-filled g m (filled f k d) (omega (arith, length-filled f k d l)) ∙ length-filled f k d l ∙ sym (length-filled g k d l))
      (λ i o. at i (dec_lt i m) (dec_lt i k))
    where
      at : (i : ℕ) → Dec (i < m) → Dec (i < k) → get_or (filled g m (filled f k d)) i z ≡ get_or (filled g k d) i z
      at i (yes a) b = get_or-filled g m (filled f k d) i z a ∙ sym (get_or-filled g k d i z (omega arith))
      at i (no a) (yes b) =
          get_or-filled_past g m (filled f k d) i z (omega arith) ∙ get_or-filled f k d i z b ∙ same i (omega arith) b ∙ sym (get_or-filled g k d i z b)
      at i (no a) (no b) =
          get_or-filled_past g m (filled f k d) i z (omega arith) ∙ get_or-filled_past f k d i z (omega arith) ∙ sym (get_or-filled_past g k d i z (omega arith))

  -- a list that is filled with what it holds
  pub filled-same : (z : A) (g : ℕ → A) (m : ℕ) (d : List A) → m ≤ length d → ((k : ℕ) → k < m → g k ≡ get_or d k z) → filled g m d ≡ d
  filled-same z g m d h e = ext_get_or z (filled g m d) d (length-filled g m d h) (λ k l. at k (dec_lt k m))
    where
      at : (k : ℕ) → Dec (k < m) → get_or (filled g m d) k z ≡ get_or d k z
      at k (yes l) = get_or-filled g m d k z l ∙ e k l
      at k (no l) = get_or-filled_past g m d k z (omega arith)

  pub filled_ext : (f g : ℕ → A) (m : ℕ) (d : List A) → ((k : ℕ) → k < m → f k ≡ g k) → filled f m d ≡ filled g m d
  unfolding filled
  filled_ext f g m d h = ap (λ (l : List A). l ++ drop m d) (tab_ext f g m h)

-- parity takes turns
pub odd-suc : (k : ℕ) → odd (suc k) ≡ not (odd k)
odd-suc k = go (odd k) refl
  where
    go : (b : Bool) → odd k ≡ b → odd (suc k) ≡ not b
    go true e = ne_eqb (suc k % 2) 1 (λ h. omega (arith, eqb-true (k % 2) 1 e))
    go false e = eq-eqb (suc k % 2) 1 (let h : k % 2 ≡ 1 → ⊥ = eqb-false (k % 2) 1 e in omega arith)

-- the two halves of a test that holds
pub and_left : (a b : Bool) → (a && b) ≡ true → a ≡ true
and_left true b h = refl
and_left false b h = h

pub and_right : (a b : Bool) → (a && b) ≡ true → b ≡ true
and_right true b h = h
and_right false b h = absurd (false≢true h)

pub and_both : (a b : Bool) → a ≡ true → b ≡ true → (a && b) ≡ true
and_both a b p q = rw (p, q)

-- the two halves of a test that fails
pub or_left : (a b : Bool) → (a || b) ≡ false → a ≡ false
or_left true b h = h
or_left false b h = refl

pub or_right : (a b : Bool) → (a || b) ≡ false → b ≡ false
or_right true b h = absurd (true≢false h)
or_right false b h = h

pub or-none : (a b : Bool) → a ≡ false → b ≡ false → (a || b) ≡ false
or-none a b p q = rw (p, q)

-- tests that agree hold of the same numbers
pub who_ext : (p q : ℕ → Bool) (m : ℕ) → ((k : ℕ) → k < m → p k ≡ q k) → who p m ≡ who q m
unfolding who
who_ext p q zero h = refl
who_ext p q (suc m) h =
    ap₂ (λ (l : List ℕ) (b : Bool). l ++ cond b (m ∷ []) []) (who_ext p q m (λ k l. h k (omega arith))) (h m (omega arith))

module _ (p : ℕ → Bool) where
  -- what a test over all says of each
  pub all_below-at : (m : ℕ) → all_below p m ≡ true → (k : ℕ) → k < m → p k ≡ true
  unfolding all_below
  all_below-at zero h k l = absurd (omega arith)
  all_below-at (suc m) h k l = go (dec_lt k m) (all_below-at m (and_left (all_below p m) (p m) h) k)
    where
      go : Dec (k < m) → (k < m → p k ≡ true) → p k ≡ true
      go (yes e) f = f e
      go (no e) f = rw (let s : k ≡ m = omega arith in s) (and_right (all_below p m) (p m) h)

  pub all_below-all : (m : ℕ) → ((k : ℕ) → k < m → p k ≡ true) → all_below p m ≡ true
  unfolding all_below
  all_below-all zero h = refl
  all_below-all (suc m) h = and_both (all_below p m) (p m) (all_below-all m (λ k l. h k (omega arith))) (h m (omega arith))

  -- a search that goes upward: what it finds, goes on with and ends with
  pub first-none : first p 0 ≡ 0
  unfolding first
  first-none = refl

  pub first_hit : (m : ℕ) → first p m ≡ m → p m ≡ true → first p (suc m) ≡ m
  unfolding first
  first_hit m e h = rw (le-ltb (first p m) m (omega arith), h)

  pub first_on : (m : ℕ) → first p m ≡ m → p m ≡ false → first p (suc m) ≡ suc m
  unfolding first
  first_on m e h = rw (le-ltb (first p m) m (omega arith), h)

  pub first-kept : (m : ℕ) → first p m < m → first p (suc m) ≡ first p m
  unfolding first
  first-kept m h = rw (lt-ltb (first p m) m h)

  -- the three facts that make a number the first one
  pub first_is : (m : ℕ) → (first p m ≤ m) × ((k : ℕ) → k < first p m → p k ≡ false) × (first p m < m → p (first p m) ≡ true)
  unfolding first
  first_is zero = (omega arith, (λ k h. absurd (omega arith)), λ h. absurd (omega arith))
  first_is (suc m) = go (ltb (first p m) m) (p m) refl refl (first_is m)
    where
      go : (a b : Bool) → ltb (first p m) m ≡ a → p m ≡ b
          → (first p m ≤ m) × ((k : ℕ) → k < first p m → p k ≡ false) × (first p m < m → p (first p m) ≡ true)
          → (cond a (first p m) (cond b m (suc m)) ≤ suc m)
          × ((k : ℕ) → k < cond a (first p m) (cond b m (suc m)) → p k ≡ false)
          × (cond a (first p m) (cond b m (suc m)) < suc m → p (cond a (first p m) (cond b m (suc m))) ≡ true)
      go true b e f h = (omega arith, h.1, λ l. h.2 (ltb-true (first p m) m e))
      go false true e f h =
          let s : first p m ≡ m = omega (arith, ltb-false (first p m) m e, h.0) in
          (omega arith, (λ k l. h.1 k (omega arith)), λ l. f)
      go false false e f h =
          let s : first p m ≡ m = omega (arith, ltb-false (first p m) m e, h.0) in
          (omega arith, (λ k l. below_more (λ i. p i ≡ false) m (λ i o. h.1 i (omega arith)) f k (omega arith)), λ l. absurd (omega arith))

  pub first-le : (m : ℕ) → first p m ≤ m
  first-le m = (first_is m).0

  pub first-before : (m k : ℕ) → k < first p m → p k ≡ false
  first-before m = (first_is m).1

  pub first-at : (m : ℕ) → first p m < m → p (first p m) ≡ true
  first-at m = (first_is m).2

  pub first_unique : (m r : ℕ) → r ≤ m → ((k : ℕ) → k < r → p k ≡ false) → (r < m → p r ≡ true) → first p m ≡ r
  first_unique m r a b c = go (dec_lt (first p m) r) (dec_lt r (first p m))
    where
      go : Dec (first p m < r) → Dec (r < first p m) → first p m ≡ r
      go (yes l) e = absurd (true≢false (sym (first-at m (omega arith)) ∙ b (first p m) l))
      go (no l) (yes e) = absurd (true≢false (sym (c (omega (arith, first-le m))) ∙ first-before m r e))
      go (no l) (no e) = omega arith

  -- a search that goes upward and is at c: it passes c, or has found c below every larger bound
  pub first_step : (c : ℕ) → first p c ≡ c → p c ≡ false → first p (c + 1) ≡ c + 1
  first_step c e h = ap (first p) (add-one c) ∙ first_on c e h ∙ sym (add-one c)

  pub first_found : (m c : ℕ) → c < m → first p c ≡ c → p c ≡ true → first p m ≡ c
  first_found m c l e h = first_unique m c (omega arith) (λ k o. first-before c k (omega arith)) (λ o. h)

  -- none has p
  pub first-all : (m : ℕ) → ((k : ℕ) → k < m → p k ≡ false) → first p m ≡ m
  first-all m h = first_unique m m (omega arith) h (λ l. absurd (omega arith))

  -- some number below m has p, and what it takes to say so
  pub some_below-at : (m : ℕ) → some_below p m ≡ true → (k : ℕ) × (k < m) × (p k ≡ true)
  unfolding some_below
  some_below-at m h =
      let l : first p m < m = ltb-true (first p m) m h in
      (first p m, l, first-at m l)

  pub some_below_by : (m k : ℕ) → k < m → p k ≡ true → some_below p m ≡ true
  unfolding some_below
  some_below_by m k l h = lt-ltb (first p m) m (go (dec_lt k (first p m)))
    where
      go : Dec (k < first p m) → first p m < m
      go (yes e) = absurd (true≢false (sym h ∙ first-before m k e))
      go (no e) = omega arith

  pub some_below-none : (m : ℕ) → some_below p m ≡ false → (k : ℕ) → k < m → p k ≡ false
  unfolding some_below
  some_below-none m h k l = first-before m k (omega (arith, ltb-false (first p m) m h))

  pub none-some_below : (m : ℕ) → ((k : ℕ) → k < m → p k ≡ false) → some_below p m ≡ false
  unfolding some_below
  none-some_below m h = le-ltb (first p m) m (omega (arith, first-all m h))

  -- the same by the least of them
  pub some_first : (m : ℕ) → some_below p m ≡ true → first p m < m
  unfolding some_below
  some_first m h = ltb-true (first p m) m h

  -- none at all
  pub some-none : some_below p 0 ≡ false
  some-none = none-some_below 0 (λ k l. absurd (omega arith))

  -- one number more
  pub some_more : (m : ℕ) → (some_below p m || p m) ≡ some_below p (m + 1)
  some_more m = go (some_below p m) (p m) refl refl
    where
      go : (a b : Bool) → some_below p m ≡ a → p m ≡ b → (a || b) ≡ some_below p (m + 1)
      go true b h e = let r = some_below-at m h in sym (some_below_by (m + 1) r.0 (omega (arith, r.1)) r.2)
      go false true h e = sym (some_below_by (m + 1) m (omega arith) e)
      go false false h e = sym (none-some_below (m + 1) (λ k l. below_more (λ i. p i ≡ false) m (some_below-none m h) e k (omega arith)))

  -- numbers more of which none has p
  pub some_past : (m n : ℕ) → m ≤ n → ((k : ℕ) → m ≤ k → k < n → p k ≡ false) → some_below p m ≡ some_below p n
  some_past m n l h = go (some_below p m) refl
    where
      past : some_below p m ≡ false → (k : ℕ) → k < n → Dec (k < m) → p k ≡ false
      past e k u (yes o) = some_below-none m e k o
      past e k u (no o) = h k (omega arith) u

      go : (b : Bool) → some_below p m ≡ b → b ≡ some_below p n
      go true e =
          let k = some_below-at m e in
          sym (some_below_by n k.0 (omega (arith, k.1)) k.2)
      go false e = sym (none-some_below n (λ k u. past e k u (dec_lt k m)))

  -- the least number below m that has p is the least below every larger bound
  pub first_past : (m n : ℕ) → m ≤ n → some_below p m ≡ true → first p m ≡ first p n
  first_past m n l h =
      let o : first p m < m = some_first m h in
      sym (first_unique n (first p m) (omega arith) (first-before m) (λ u. first-at m o))

  -- a loop that looks for a number with p: it finds one, or has passed all of them
  pub some_hit : (m k : ℕ) → k < m → p k ≡ true → true ≡ some_below p m
  some_hit m k l h = sym (some_below_by m k l h)

  pub some_end : (m k : ℕ) → m ≤ k → ((i : ℕ) → i < k → p i ≡ false) → false ≡ some_below p m
  some_end m k l h = sym (none-some_below m (λ i e. h i (omega arith)))

-- tests that agree below m: the same number is the first, and both hold of one or neither does
module _ (p q : ℕ → Bool) (m : ℕ) (same : (k : ℕ) → k < m → p k ≡ q k) where
  pub first_ext : first p m ≡ first q m
  first_ext =
      first_unique p m (first q m) (first-le q m) (λ k l. same k (omega (arith, first-le q m)) ∙ first-before q m k l)
      (λ l. same (first q m) l ∙ first-at q m l)

  pub some_ext : some_below p m ≡ some_below q m
  unfolding some_below
  some_ext = ap (λ (k : ℕ). ltb k m) first_ext

-- numbers that agree below m have one sum
pub sum_ext : (f g : ℕ → ℕ) (m : ℕ) → ((k : ℕ) → k < m → f k ≡ g k) → sum_below f m ≡ sum_below g m
unfolding sum_below
sum_ext f g zero h = refl
sum_ext f g (suc m) h = ap₂ (λ (a b : ℕ). a + b) (sum_ext f g m (λ k l. h k (omega arith))) (h m (omega arith))

-- a sum of numbers of at most b
pub sum_most : (g : ℕ → ℕ) (b m : ℕ) → ((k : ℕ) → k < m → g k ≤ b) → sum_below g m ≤ b * m
unfolding sum_below
sum_most g b zero h = omega arith
sum_most g b (suc m) h = let e : b * suc m ≡ b * m + b = mul-suc b m in omega (arith, sum_most g b m (λ k l. h k (omega arith)), h m (omega arith))
