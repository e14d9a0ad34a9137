-- Lists by their elements, and tests and sums over the numbers below a bound.
use Rattle.std.specs.Prelude.{ℕ, zero, suc, ◌+◌, Bool, true, cond, ◌&&◌, List, [], ◌∷◌, ◌++◌, ltb, drop}

-- g i, g (i + 1), .. : m elements
unfoldable pub tab_from {ℓ} : {A : Type ℓ} → (ℕ → A) → ℕ → ℕ → List A
tab_from g i zero = []
tab_from g i (suc m) = g i ∷ tab_from g (suc i) m

-- g 0, g 1, .. : m elements
unfoldable pub tab {ℓ} : {A : Type ℓ} → (ℕ → A) → ℕ → List A
tab g m = tab_from g 0 m

-- a list whose first m elements are now g 0, g 1, ..; a longer list keeps everything past them
unfoldable pub filled {ℓ} : {A : Type ℓ} → (ℕ → A) → ℕ → List A → List A
filled g m d = tab g m ++ drop m d

-- every number below m has p
unfoldable pub all_below : (ℕ → Bool) → ℕ → Bool
all_below p zero = true
all_below p (suc m) = all_below p m && p m

-- the numbers below m that have p, in their order
unfoldable pub who : (ℕ → Bool) → ℕ → List ℕ
who p zero = []
who p (suc m) = who p m ++ cond (p m) (m ∷ []) []

-- the least number below m that has p, or m where none has
unfoldable pub first : (ℕ → Bool) → ℕ → ℕ
first p zero = 0
first p (suc m) = cond (ltb (first p m) m) (first p m) (cond (p m) m (suc m))

-- some number below m has p
unfoldable pub some_below : (ℕ → Bool) → ℕ → Bool
some_below p m = ltb (first p m) m

-- the sum of g 0, g 1, .. : m numbers
unfoldable pub sum_below : (ℕ → ℕ) → ℕ → ℕ
sum_below g zero = 0
sum_below g (suc m) = sum_below g m + g m
