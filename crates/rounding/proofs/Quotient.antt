-- One product and one division of whole numbers, each rounded once: the product is exact, so the quotient is the exact fraction, rounded once.
use mathlib.Core.Path.{◌≡◌, sym, ap, ap₂, ◌∙◌, subst}
use mathlib.Core.Bool.{Bool, false, cond}
use Prim.Native.Nat.{ℕ, ◌*◌, ◌^◌, ◌≤◌, ◌<◌}
use native.Mathlib.Nat.{le_of_lt, mul-one, mul-mul-mul_comm, mul-pos, mul-le-mul, zero-lt-suc}
use native.Mathlib.Omega.{arith}
use borrow.Author.Tests.{ne_eqb}
use lib.Dec.{eqb, ltb→lt}
use lib.IntN.{pos}
use lib.Ieee.{Float, nan, inf, fin, Format, binary64, up, down, round, mul, div, eq, of_int}
use lib.Ieee.Fits.{up_pos, down_pos}
use lib.Ieee.Exact.{HasValue}
use lib.Ieee.Scale.{round_same}
use lib.Ieee.Back.{round_whole}
use lib.Ieee.Positive.{positive_of_value}
use Rattle.rounding.proofs.Values.{of_finite, eq-values}

-- x / y is a / c, and z / w is b / d, so their quotients are equal
across : (x y z w a c b d : ℕ) → x * c ≡ a * y → z * d ≡ b * w → x * w * (b * c) ≡ a * d * (z * y)
across x y z w a c b d p q =
    let h : x * c * (w * b) ≡ a * y * (w * b) = ap (λ (k : ℕ). k * (w * b)) p in
    let k : z * d * (a * y) ≡ b * w * (a * y) = ap (λ (k : ℕ). k * (a * y)) q in
    omega arith

module _ (f : Format) (x y : Float) (a c b d : ℕ) (C : 0 < c) (D : 0 < d) (p : HasValue x false a c) (q : HasValue y false b d) where
  -- the product of a / c and b / d
  mul_value : mul f x y ≡ round f false (a * b) (c * d)
  unfolding mul
  mul_value =
      of_finite (λ x y. mul f x y ≡ round f false (a * b) (c * d)) x y a c b d p q
      (λ m n e g p q.
      round_same f false (m * up e * (n * up g)) (down e * down g) (a * b) (c * d) (mul-pos (down_pos e) (down_pos g)) (mul-pos C D)
      (mul-mul-mul_comm (m * up e) (n * up g) c d ∙ ap₂ ◌*◌ p.1 q.1 ∙ mul-mul-mul_comm a (down e) b (down g)))

  -- the quotient of a / c by b / d
  div_value : 0 < b → div f x y ≡ round f false (a * d) (b * c)
  unfolding div
  div_value B =
      of_finite (λ x y. div f x y ≡ round f false (a * d) (b * c)) x y a c b d p q
      (λ m n e g p q.
      let N : 0 < n = ltb→lt 0 n (positive_of_value (fin false n g) b d q B) in
      ap (λ (t : Bool). cond t (cond (eqb m 0) nan (inf false)) (round f false (m * up e * down g) (n * up g * down e))) (ne_eqb n 0 (omega arith))
      ∙ round_same f false (m * up e * down g) (n * up g * down e) (a * d) (b * c) (mul-pos (mul-pos N (up_pos g)) (down_pos e)) (mul-pos B C)
      (across (m * up e) (down e) (n * up g) (down g) a c b d p.1 q.1))

-- ---- of whole numbers

-- a whole number that the format holds, as a float
pub whole : (n : ℕ) → n ≤ 2 ^ 53 → HasValue (of_int binary64 (pos n)) false n 1
unfolding of_int
whole n h = round_whole binary64 false n h

-- two whole numbers are equal as floats where they are equal
pub whole-eq : (m n : ℕ) → m ≤ 2 ^ 53 → n ≤ 2 ^ 53 → eq (of_int binary64 (pos m)) (of_int binary64 (pos n)) ≡ eqb m n
whole-eq m n M N = eq-values (of_int binary64 (pos m)) (of_int binary64 (pos n)) m n 1 (zero-lt-suc 0) (whole m M) (whole n N)

-- the product of two 16-bit numbers, as floats, is the float of their product, and is exact
pub whole_product : (l s : ℕ) → l < 2 ^ 16 → s < 2 ^ 16 → mul binary64 (of_int binary64 (pos l)) (of_int binary64 (pos s)) ≡ of_int binary64 (pos (l * s))
unfolding of_int
whole_product l s L S =
    mul_value binary64 (of_int binary64 (pos l)) (of_int binary64 (pos s)) l 1 s 1 (zero-lt-suc 0) (zero-lt-suc 0) (whole l (omega arith)) (whole s (omega arith))

-- within the range of the road lists it is below 2 to the 28
pub product_exact : (l s : ℕ) → l < 2 ^ 16 → s ≤ 3600
    → (l * s < 2 ^ 28) × HasValue (mul binary64 (of_int binary64 (pos l)) (of_int binary64 (pos s))) false (l * s) 1
product_exact l s L S =
    let k : l ≤ 65535 = omega arith in
    let h : l * s ≤ 65535 * 3600 = mul-le-mul k S in
    (omega arith, subst (λ (x : Float). HasValue x false (l * s) 1) (sym (whole_product l s L (omega arith))) (whole (l * s) (omega arith)))

-- the quotient is the fraction, rounded once
pub quotient : (l m s : ℕ) → l < 2 ^ 16 → m < 2 ^ 16 → s < 2 ^ 16 → 0 < m
    → div binary64 (mul binary64 (of_int binary64 (pos l)) (of_int binary64 (pos s))) (of_int binary64 (pos m)) ≡ round binary64 false (l * s) m
quotient l m s L M S P =
    let h : l * s ≤ 2 ^ 16 * 2 ^ 16 = mul-le-mul (le_of_lt L) (le_of_lt S) in
    ap (λ (x : Float). div binary64 x (of_int binary64 (pos m))) (whole_product l s L S)
    ∙ div_value binary64 (of_int binary64 (pos (l * s))) (of_int binary64 (pos m)) (l * s) 1 m 1 (zero-lt-suc 0) (zero-lt-suc 0) (whole (l * s) (omega arith)) (whole m (omega arith)) P
    ∙ ap₂ (round binary64 false) (mul-one (l * s)) (mul-one m)
