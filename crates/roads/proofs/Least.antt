-- The least of n fractions, some of them passed over: what it means, and that it is there.
use mathlib.Core.Path.{◌≡◌, refl, sym, ◌∙◌}
use mathlib.Core.Logic.{◌⊎◌, inl, inr}
use mathlib.Core.Bool.{Bool, true, false, not, ◌&&◌, ◌||◌, true≢false, false≢true}
use Prim.Native.Nat.{ℕ, zero, suc, ◌*◌, ◌≤◌, ◌<◌}
use native.Mathlib.Nat.{le_refl, le_of_lt, zero-mul, mul-pos, mul-lt-mul_of_pos_right, mul-le-mul_right, lt_of_mul-lt-mul_right}
use native.Mathlib.Decide.{dec_lt}
use native.Mathlib.Omega.{arith}
use borrow.Author.Tests.{lt-ltb, le-ltb}
use borrow.Author.Count.{below_more}
use Rattle.basics.specs.Lists.{all_below}
use Rattle.basics.proofs.Laws.{and_both, all_below-at, all_below-all, first_unique}
use Rattle.roads.specs.Opening.{faster, fastest, least, LeastBelow}

-- x / p < y / q ≤ z / r
strictly : (x y z p q r : ℕ) → 0 < r → x * q < y * p → y * r ≤ z * q → x * r < z * p
strictly x y z p q r R h k =
    let a : x * q * r < y * p * r = mul-lt-mul_of_pos_right h R in
    let b : y * r * p ≤ z * q * p = mul-le-mul_right p k in
    lt_of_mul-lt-mul_right q (omega arith)

module _ (passed : ℕ → Bool) (num den : ℕ → ℕ) where
  -- ---- `least` is such a k

  -- what the test `fastest` says
  slower : (n j k : ℕ) → LeastBelow passed num den n k → j < k → (b : Bool) → passed j ≡ b → (not b && all_below (λ i. passed i || not (faster num den i j)) n) ≡ false
  slower n j k h l true p = refl
  slower n j k h l false p = go (all_below (λ i. passed i || not (faster num den i j)) n) (λ e. all_below-at (λ i. passed i || not (faster num den i j)) n e k h.below)
    where
      go : (b : Bool) → (b ≡ true → (passed k || not (faster num den k j)) ≡ true) → b ≡ false
      go true f = absurd (false≢true (rw (h.takes_part, lt-ltb (num k * den j) (num j * den k) (h.lowest j l p)) at (f refl)))
      go false f = refl

  not_slower : (n k : ℕ) → LeastBelow passed num den n k → fastest passed num den n k ≡ true
  not_slower n k h = and_both (not (passed k)) (all_below (λ j. passed j || not (faster num den j k)) n) (rw h.takes_part) (all_below-all (λ j. passed j || not (faster num den j k)) n (λ j l. go j l (passed j) refl))
    where
      go : (j : ℕ) → j < n → (b : Bool) → passed j ≡ b → (b || not (faster num den j k)) ≡ true
      go j l true p = refl
      go j l false p = rw (le-ltb (num j * den k) (num k * den j) (h.smallest j l p))

  pub least_is : (n k : ℕ) → LeastBelow passed num den n k → least passed num den n ≡ k
  unfolding least
  least_is n k h = first_unique (fastest passed num den n) n k (omega arith) (λ j l. slower n j k h l (passed j) refl) (λ l. not_slower n k h)

  -- ---- one number more: n beside the least of those below it

  -- n is passed over, or is no smaller
  pub stays : (n k : ℕ) → LeastBelow passed num den n k → (passed n ≡ false → num k * den n ≤ num n * den k) → LeastBelow passed num den (suc n) k
  stays n k h f = record {
    below = omega (arith, h.below);
    takes_part = h.takes_part;
    smallest = λ j l. below_more (λ i. passed i ≡ false → num k * den i ≤ num i * den k) n h.smallest f j (omega arith);
    lowest = h.lowest;
  }

  -- all before n are passed over
  pub begins : (n : ℕ) → ((j : ℕ) → j < n → passed j ≡ true) → passed n ≡ false → LeastBelow passed num den (suc n) n
  begins n f p = record {
    below = omega arith;
    takes_part = p;
    smallest = λ j l. below_more (λ i. passed i ≡ false → num n * den i ≤ num i * den n) n (λ i o q. absurd (true≢false (sym (f i o) ∙ q))) (λ q. le_refl (num n * den n)) j (omega arith);
    lowest = λ j l q. absurd (true≢false (sym (f j l) ∙ q));
  }

  -- 0, where none before it is
  pub zero-least : (n k : ℕ) → k < n → passed k ≡ false → num k ≡ 0 → 0 < den k → ((j : ℕ) → j < k → passed j ≡ false → 0 < num j) → LeastBelow passed num den n k
  zero-least n k l p z d f = record {
    below = l;
    takes_part = p;
    smallest = λ j o q. omega (arith, none j);
    lowest = λ j o q. omega (arith, none j, mul-pos (f j o q) d);
  }
    where
      none : (j : ℕ) → num k * den j ≡ 0
      none j = rw z (zero-mul (den j))

  module _ (den_pos : (k : ℕ) → passed k ≡ false → 0 < den k) where
    -- n is smaller
    pub takes-over : (n k : ℕ) → LeastBelow passed num den n k → passed n ≡ false → num n * den k < num k * den n → LeastBelow passed num den (suc n) n
    takes-over n k h p l =
        let over : (j : ℕ) → j < n → passed j ≡ false → num n * den j < num j * den n = λ j o q. strictly (num n) (num k) (num j) (den n) (den k) (den j) (den_pos j q) l (h.smallest j o q) in
        record {
          below = omega arith;
          takes_part = p;
          smallest = λ j o. below_more (λ i. passed i ≡ false → num n * den i ≤ num i * den n) n (λ i e q. le_of_lt (over i e q)) (λ q. le_refl (num n * den n)) j (omega arith);
          lowest = over;
        }

    -- it is there, unless all are passed over
    pub least_there : (n : ℕ) → ((j : ℕ) → j < n → passed j ≡ true) ⊎ ((k : ℕ) × LeastBelow passed num den n k)
    least_there zero = inl (λ j l. absurd (omega arith))
    least_there (suc n) = go (passed n) refl (least_there n)
      where
        go : (b : Bool) → passed n ≡ b → ((j : ℕ) → j < n → passed j ≡ true) ⊎ ((k : ℕ) × LeastBelow passed num den n k)
            → ((j : ℕ) → j < suc n → passed j ≡ true) ⊎ ((k : ℕ) × LeastBelow passed num den (suc n) k)
        go true p (inl f) = inl (λ j l. below_more (λ i. passed i ≡ true) n f p j (omega arith))
        go false p (inl f) = inr (n, begins n f p)
        go true p (inr (k, h)) = inr (k, stays n k h (λ q. absurd (true≢false (sym p ∙ q))))
        go false p (inr (k, h)) = elim (dec_lt (num n * den k) (num k * den n)) [
          | yes l ↦ inr (n, takes-over n k h p l)
          | no l ↦ inr (k, stays n k h (λ q. omega arith))
        ]
