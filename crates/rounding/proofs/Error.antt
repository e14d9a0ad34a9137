-- How far a rounded fraction may lie from the exact one: by at most one part in 2 ^ 53 of it.
use mathlib.Core.Path.{◌≡◌, sym, ap, ◌∙◌, subst}
use mathlib.Core.Logic.{◌⊎◌, inl, inr}
use mathlib.Core.Bool.{not}
use Prim.Native.Nat.{ℕ, zero, suc, ◌+◌, ◌*◌, ◌/◌, ◌%◌, ◌^◌, ◌≤◌, ◌<◌, compare, Ordering}
use native.Mathlib.Nat.{le_trans, le_of_eq, zero-mul, suc-mul, add-zero, mul_comm, mul_assoc, mul-pos, le-mul_of_pos_right, div-add-mod', mod-lt, le-div_iff_mul-le, eq-zero-or-pos}
use native.Mathlib.Numerals.{add-one}
use native.Mathlib.Omega.{arith}
use lib.Dec.{T, is_le, compare_is_eq, leb→le, nleb→lt, eqb→eq, lit≤}
use lib.Pow.{pow-add, pow_pos, pow_mono}
use lib.Ieee.{binary64, size, nearest}
use lib.Ieee.Digits.{size_reaches}
use lib.Ieee.Nearest.{closest}
use lib.Ieee.Order.{drop, kept}
use lib.Ieee.Scale.{grid, normal_of_fraction}

-- x is off n by at most half of u
abbrev pub Within : ℕ → ℕ → ℕ → Type 0
Within x n u = (x * 2 ≤ n * 2 + u) × (n * 2 ≤ x * 2 + u)

module _ (q u r : ℕ) (R : r < u) where
  down : r * 2 ≤ u → Within (q * u) (q * u + r) u
  down h = omega arith

  up : u ≤ r * 2 → Within (suc q * u) (q * u + r) u
  up h = let s : suc q * u ≡ q * u + u = suc-mul q u in omega arith

  even : (t : ℕ) → t < 2 → r * 2 ≡ u → Within ((q + t) * u) (q * u + r) u
  even zero l e = subst (λ (z : ℕ). Within (z * u) (q * u + r) u) (sym (add-zero q)) (down (le_of_eq e))
  even (suc zero) l e = subst (λ (z : ℕ). Within (z * u) (q * u + r) u) (sym (add-one q)) (up (le_of_eq (sym e)))
  even (suc (suc t)) l e = absurd (omega arith)

  nearest_within : (o : Ordering) → (T (is_le o) → r * 2 ≤ u) → (T (not (is_le o)) → u < r * 2) → (T (compare_is_eq o) → r * 2 ≡ u) → Within (nearest q o * u) (q * u + r) u
  nearest_within Ordering.lt h k e = down (h tt)
  nearest_within Ordering.eq h k e = even (q % 2) (omega arith) (e tt)
  nearest_within Ordering.gt h k e = up (le_trans (omega arith) (k tt))

-- the whole number nearest to n / u is off by at most a half
pub closest_within : (n u : ℕ) → 0 < u → Within (closest n u * u) n u
closest_within n u U =
    let r = n % u in
    subst (λ (z : ℕ). Within (closest n u * u) z u) (div-add-mod' n u)
    (nearest_within (n / u) u r (mod-lt n U) (compare (r * 2) u) (leb→le (r * 2) u) (nleb→lt (r * 2) u) (eqb→eq (r * 2) u))

-- g is n, off by at most one part in 2 ^ 53 of n
abbrev pub Near : ℕ → ℕ → Type 0
Near g n = (u : ℕ) × Within g n u × (2 ^ 52 * u ≤ n)

none : (x u : ℕ) → 0 < u → x * u * 2 ≤ u → x * u ≡ 0
none zero u U h = zero-mul u
none (suc x) u U h = let s : suc x * u ≡ x * u + u = suc-mul x u in absurd (omega arith)

near-zero : (x u n : ℕ) → 0 < u → n ≡ 0 → Within (x * u) n u → Near (x * u) n
near-zero x u n U z w = let e : x * u ≡ 0 = none x u U (omega arith) in (0, omega arith, omega arith)

-- the fraction a / b, above 0 and in units of the format's smallest value, has all the digits that the format keeps
enough : (a b l : ℕ) → 0 < a → b < 2 ^ 16 → 2 ^ 68 ≤ l → 2 ^ 52 * b ≤ a * l
enough a b l A B L = let h : l ≤ a * l = subst (λ (z : ℕ). l ≤ z) (mul_comm l a) (le-mul_of_pos_right l A) in omega arith

-- so the unit of the rounded value is at most one part in 2 ^ 52 of it
turn : (p b q : ℕ) → p * (b * q) ≡ p * q * b
turn p b q = ap (λ (z : ℕ). p * z) (mul_comm b q) ∙ sym (mul_assoc p q b)

unit_small : (n b : ℕ) → 0 < b → 53 ≤ size (n / b) → 2 ^ 52 * (b * 2 ^ drop 53 n b) ≤ n
unit_small n b B S =
    let k = drop 53 n b in
    let h : 2 ^ (52 + k) ≤ n / b = size_reaches (n / b) (52 + k) (omega arith) in
    le_trans (le_of_eq (turn (2 ^ 52) b (2 ^ k) ∙ ap (λ (z : ℕ). z * b) (sym (pow-add 2 52 k)))) ((le-div_iff_mul-le B).0 h)

near-at : (n b : ℕ) → 0 < b → (n ≡ 0) ⊎ (53 ≤ size (n / b)) → Near (kept 53 n b * 2 ^ drop 53 n b * b) n
near-at n b B s =
    let k = drop 53 n b in
    let u = b * 2 ^ k in
    let x = closest n u in
    let U : 0 < u = mul-pos B (pow_pos k) in
    subst (λ (z : ℕ). Near z n) (turn x b (2 ^ k))
    (elim s [
      | inl z ↦ near-zero x u n U z (closest_within n u U)
      | inr h ↦ (u, closest_within n u U, unit_small n b B h)
    ])

-- a / b rounded, in units of the smallest value, is near a / b
pub grid_near : (a b : ℕ) → 0 < b → b < 2 ^ 16 → Near (grid binary64 a b * b) (a * 2 ^ 1074)
grid_near a b B S = near-at (a * 2 ^ 1074) b B (go (eq-zero-or-pos a))
  where
    go : (a ≡ 0) ⊎ (0 < a) → (a * 2 ^ 1074 ≡ 0) ⊎ (53 ≤ size (a * 2 ^ 1074 / b))
    go (inl z) = inl (ap (λ (x : ℕ). x * 2 ^ 1074) z ∙ zero-mul (2 ^ 1074))
    go (inr A) = inr (normal_of_fraction binary64 a b B (enough a b (2 ^ 1074) A S (pow_mono {i = 68} {j = 1074} (lit≤ tt))))
