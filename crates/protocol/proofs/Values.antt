-- Values heard: those of the numbers below m that have p, the least of them, and how many are different.
use mathlib.Core.Path.{◌≡◌, refl, ap, sym, subst, ◌∙◌}
use mathlib.Core.Bool.{Bool, true, false, cond, true≢false, false≢true}
use mathlib.Core.List.Memᴰ
use mathlib.Core.List.{List, [], ◌∷◌, ◌++◌, map, map-append, Memᴰ}
use mathlib.Core.Logic.{◌⊎◌, inl, inr, ⊎_elim}
use Prim.Native.Nat.{ℕ, zero, suc, ◌≤◌, ◌<◌, min}
use native.Mathlib.Decide.{dec_lt, dec_le}
use native.Mathlib.Omega.{arith}
use lib.Dec.{eqb}
use borrow.Author.Tests.{eqb-true, eq-eqb}
use Rattle.basics.specs.Lists.{who}
use Rattle.basics.proofs.Laws.{and_left, and_right, and_both}
use Rattle.protocol.specs.declared.Heard.{Heard}
use Rattle.protocol.specs.declared.Heard.TheVariants.{Nothing, One, Several}
use Rattle.protocol.specs.Rules.{is_several, is_one, all_same, different, least_or}

-- the values of the numbers below m that have p
module _ (f : ℕ → ℕ) (p : ℕ → Bool) where
  pub value_of : (m j : ℕ) → j < m → p j ≡ true → Memᴰ (f j) (map f (who p m))
  unfolding who
  value_of zero j h e = absurd (omega arith)
  value_of (suc m) j h e = rw (map-append f (who p m) (cond (p m) (m ∷ []) [])) (go (dec_lt j m) (value_of m j))
    where
      go : Dec (j < m) → (j < m → p j ≡ true → Memᴰ (f j) (map f (who p m)))
          → Memᴰ (f j) (map f (who p m) ++ map f (cond (p m) (m ∷ []) []))
      go (yes l) ih = Memᴰ.append_left (map f (cond (p m) (m ∷ []) [])) (ih l e)
      go (no l) ih =
          let s : j ≡ m = omega arith in
          Memᴰ.append_right (map f (who p m)) (rw (sym (ap p s) ∙ e) (Memᴰ.head (ap f s)))

  pub of_value : (m u : ℕ) → Memᴰ u (map f (who p m)) → (j : ℕ) × (j < m) × (p j ≡ true) × (u ≡ f j)
  unfolding who
  of_value zero u h = absurd (Memᴰ.not-nil h)
  of_value (suc m) u h =
      ⊎_elim (λ l. let r = of_value m u l in (r.0, omega (arith, r.1), r.2, r.3)) (last (p m) refl)
      (Memᴰ.append_cases (map f (who p m)) (rw (map-append f (who p m) (cond (p m) (m ∷ []) [])) at h))
    where
      last : (b : Bool) → p m ≡ b → Memᴰ u (map f (cond b (m ∷ []) [])) → (j : ℕ) × (j < suc m) × (p j ≡ true) × (u ≡ f j)
      last true e l = (m, omega arith, e, Memᴰ.eq_of_singleton l)
      last false e l = absurd (Memᴰ.not-nil l)

-- what holds of two numbers holds of the smaller
min_keeps : (P : ℕ → Type 0) (a b : ℕ) → P a → P b → P (min a b)
min_keeps P a b pa pb = go (dec_le a b)
  where
    go : Dec (a ≤ b) → P (min a b)
    go (yes l) = subst P (let e : a ≡ min a b = omega arith in e) pa
    go (no l) = subst P (let e : b ≡ min a b = omega arith in e) pb

-- what holds of every value, and of the estimate where there is none, holds of the least
pub least_keeps : (P : ℕ → Type 0) (e : ℕ) (vs : List ℕ) → (vs ≡ [] → P e) → ((u : ℕ) → Memᴰ u vs → P u) → P (least_or e vs)
unfolding least_or
least_keeps P e [] he h = he refl
least_keeps P e (v ∷ vs) he h =
    let pv : P v = h v (Memᴰ.head refl) in
    min_keeps P v (least_or v vs) pv (least_keeps P v vs (λ n. pv) (λ u m. h u (Memᴰ.tail m)))

-- the least value is one of them, or the estimate
pub least_in : (e : ℕ) (vs : List ℕ) → (least_or e vs ≡ e) ⊎ Memᴰ (least_or e vs) vs
least_in e vs = least_keeps (λ (u : ℕ). (u ≡ e) ⊎ Memᴰ u vs) e vs (λ z. inl refl) (λ u m. inr m)

same-each : (v : ℕ) (vs : List ℕ) → all_same v vs ≡ true → (u : ℕ) → Memᴰ u vs → u ≡ v
unfolding all_same
same-each v [] h u m = absurd (Memᴰ.not-nil m)
same-each v (x ∷ xs) h u (Memᴰ.head e) = e ∙ eqb-true x v (and_left (eqb x v) (all_same v xs) h)
same-each v (x ∷ xs) h u (Memᴰ.tail m) = same-each v xs (and_right (eqb x v) (all_same v xs) h) u m

each_same : (v : ℕ) (vs : List ℕ) → ((u : ℕ) → Memᴰ u vs → u ≡ v) → all_same v vs ≡ true
unfolding all_same
each_same v [] h = refl
each_same v (x ∷ xs) h =
    and_both (eqb x v) (all_same v xs) (eq-eqb x v (h x (Memᴰ.head refl))) (each_same v xs (λ u m. h u (Memᴰ.tail m)))

-- where the values are not several, the least is any of them
pub one_value : (e : ℕ) (vs : List ℕ) → is_several (different vs) ≡ false → (u : ℕ) → Memᴰ u vs → least_or e vs ≡ u
unfolding different
one_value e [] h u m = absurd (Memᴰ.not-nil m)
one_value e (v ∷ vs) h u m =
    least_keeps (λ (x : ℕ). x ≡ u) e (v ∷ vs) (λ n. absurd (Memᴰ.not-nil (rw n at m))) (λ x mx. alike x mx ∙ sym (alike u m))
  where
    same : (b : Bool) → is_several (cond b One Several) ≡ false → b ≡ true
    same true g = refl
    same false g = sym g

    alike : (x : ℕ) → Memᴰ x (v ∷ vs) → x ≡ v
    alike x (Memᴰ.head g) = g
    alike x (Memᴰ.tail g) = same-each v vs (same (all_same v vs) h) x g

-- values that are all v are one value, where there is any
pub all_one : (v u : ℕ) (vs : List ℕ) → Memᴰ u vs → ((u : ℕ) → Memᴰ u vs → u ≡ v) → different vs ≡ One
unfolding different
all_one v u [] m h = absurd (Memᴰ.not-nil m)
all_one v u (x ∷ xs) m h =
    rw (each_same x xs (λ y my. h y (Memᴰ.tail my) ∙ sym (h x (Memᴰ.head refl))))

-- a value heard is no silence
pub not_nothing : (vs : List ℕ) → is_one (different vs) ≡ true → (u : ℕ) × Memᴰ u vs
unfolding different
not_nothing [] h = absurd (false≢true h)
not_nothing (v ∷ vs) h = (v, Memᴰ.head refl)

-- where some value was heard, the least does not depend on the estimate before
pub least_any : (d e : ℕ) (vs : List ℕ) (u : ℕ) → Memᴰ u vs → least_or d vs ≡ least_or e vs
unfolding least_or
least_any d e [] u m = absurd (Memᴰ.not-nil m)
least_any d e (v ∷ vs) u m = refl

-- the least value is no larger than any
pub least-le : (e : ℕ) (vs : List ℕ) (u : ℕ) → Memᴰ u vs → least_or e vs ≤ u
unfolding least_or
least-le e [] u m = absurd (Memᴰ.not-nil m)
least-le e (v ∷ vs) u (Memᴰ.head g) = omega arith
least-le e (v ∷ vs) u (Memᴰ.tail m) = omega (arith, least-le v vs u m)

-- where none is heard the least is the estimate, and where one is, the estimate does not count
pub least_silent : (e : ℕ) (vs : List ℕ) → different vs ≡ Nothing → least_or e vs ≡ e
unfolding different least_or
least_silent e [] h = refl
least_silent e (v ∷ vs) h = absurd (go (all_same v vs) h)
  where
    go : (b : Bool) → cond b One Several ≡ Nothing → ⊥
    go true q = true≢false (ap is_one q)
    go false q = true≢false (ap is_several q)

pub least-same : (d e : ℕ) (vs : List ℕ) → (different vs ≡ Nothing → ⊥) → least_or d vs ≡ least_or e vs
unfolding different least_or
least-same d e [] h = absurd (h refl)
least-same d e (v ∷ vs) h = refl

-- one value is not several
pub one_only : (h : Heard) → is_one h ≡ true → is_several h ≡ false
one_only Nothing e = refl
one_only One e = refl
one_only Several e = absurd (false≢true e)
