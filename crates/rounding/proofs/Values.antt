-- Two floats that are not negative compare as the fractions that they equal.
use mathlib.Core.Path.{◌≡◌, sym, ap, ap₂, ◌∙◌}
use mathlib.Core.Bool.{Bool, true, false, and-true, true≢false}
use Prim.Native.Nat.{ℕ, ◌*◌, ◌<◌}
use native.Mathlib.Nat.{mul_comm, mul_assoc, mul_right_comm, mul-pos, mul-le-mul_right, mul-lt-mul_of_pos_right, eq_of_mul-eq-mul_right}
use native.Mathlib.Decide.{dec_lt, ℕ_discrete}
use native.Mathlib.Omega.{arith}
use borrow.Author.Tests.{lt-ltb, le-ltb, eq-eqb, ne_eqb}
use lib.Dec.{ltb, eqb}
use lib.IntN.{ℤ}
use lib.Ieee.{Float, nan, inf, fin, up, down, lt, eq}
use lib.Ieee.Fits.{down_pos}
use lib.Ieee.Exact.{HasValue}

-- a test on two multiples is that on the numbers themselves
abbrev Scales : (ℕ → ℕ → Bool) → Type 0
Scales test = (a b k : ℕ) → 0 < k → test (a * k) (b * k) ≡ test a b

ltb-scales : Scales ltb
ltb-scales a b k K = elim (dec_lt a b) [
  | yes h ↦ lt-ltb (a * k) (b * k) (mul-lt-mul_of_pos_right h K) ∙ sym (lt-ltb a b h)
  | no h ↦ le-ltb (a * k) (b * k) (mul-le-mul_right k (omega arith)) ∙ sym (le-ltb a b (omega arith))
]

eqb-scales : Scales eqb
eqb-scales a b k K = elim (ℕ_discrete a b) [
  | yes h ↦ eq-eqb (a * k) (b * k) (ap (λ (z : ℕ). z * k) h) ∙ sym (eq-eqb a b h)
  | no h ↦ ne_eqb (a * k) (b * k) (λ e. h (eq_of_mul-eq-mul_right k K a b e)) ∙ sym (ne_eqb a b h)
]

-- p / q is g / l, and r / s is h / l
cross : (test : ℕ → ℕ → Bool) → Scales test → (p q r s g h l : ℕ) → 0 < q → 0 < s → 0 < l → p * l ≡ g * q → r * l ≡ h * s → test (p * s) (r * q) ≡ test g h
cross test scales p q r s g h l Q S L e f =
    sym (scales (p * s) (r * q) l L)
    ∙ ap₂ test (mul_right_comm p s l ∙ ap (λ (z : ℕ). z * s) e ∙ mul_assoc g q s) (mul_right_comm r q l ∙ ap (λ (z : ℕ). z * q) f ∙ mul_assoc h s q ∙ ap (λ (z : ℕ). h * z) (mul_comm s q))
    ∙ scales g h (q * s) (mul-pos Q S)

-- two floats with values that are not negative are finite, with the sign of such a value
pub of_finite : (P : Float → Float → Type 0) (x y : Float) (a c b d : ℕ) → HasValue x false a c → HasValue y false b d
    → ((m n : ℕ) (e g : ℤ) → HasValue (fin false m e) false a c → HasValue (fin false n g) false b d → P (fin false m e) (fin false n g)) → P x y
of_finite P nan y a c b d p q h = absurd p
of_finite P (inf s) y a c b d p q h = absurd p
of_finite P (fin true m e) y a c b d p q h = absurd (true≢false p.0)
of_finite P (fin false m e) nan a c b d p q h = absurd q
of_finite P (fin false m e) (inf t) a c b d p q h = absurd q
of_finite P (fin false m e) (fin true n g) a c b d p q h = absurd (true≢false q.0)
of_finite P (fin false m e) (fin false n g) a c b d p q h = h m n e g p q

module _ (x y : Float) (g h l : ℕ) (L : 0 < l) (p : HasValue x false g l) (q : HasValue y false h l) where
  pub lt-values : lt x y ≡ ltb g h
  unfolding lt
  lt-values =
      of_finite (λ x y. lt x y ≡ ltb g h) x y g l h l p q
      (λ m n e d p q. cross ltb ltb-scales (m * up e) (down e) (n * up d) (down d) g h l (down_pos e) (down_pos d) L p.1 q.1)

  pub eq-values : eq x y ≡ eqb g h
  unfolding eq
  eq-values =
      of_finite (λ x y. eq x y ≡ eqb g h) x y g l h l p q
      (λ m n e d p q.
      and-true (eqb (m * up e * down d) (n * up d * down e))
      ∙ cross eqb eqb-scales (m * up e) (down e) (n * up d) (down d) g h l (down_pos e) (down_pos d) L p.1 q.1)
