-- The order of two rounded quotients is the order of the exact fractions, over whole numbers.
use mathlib.Core.Path.{◌≡◌, sym, ap, ◌∙◌}
use mathlib.Core.Bool.{false}
use Prim.Native.Nat.{ℕ, suc, ◌+◌, ◌*◌, ◌^◌, ◌≤◌, ◌<◌}
use native.Mathlib.Nat.{le_refl, le_of_lt, lt_of_lt_of_le, mul-le-mul, mul-le-mul_right, lt_of_mul-lt-mul_right, le-mul_of_pos_right}
use native.Mathlib.Decide.{dec_lt}
use native.Mathlib.Omega.{arith}
use borrow.Author.Tests.{lt-ltb, le-ltb}
use lib.Dec.{ltb, lit≤}
use lib.Pow.{pow_pos}
use lib.Ieee.{Float, binary64, round, lt}
use lib.Ieee.Exact.{HasValue}
use lib.Ieee.Scale.{grid, overflow, round_val, round_same}
use Rattle.rounding.proofs.Error.{Near, grid_near}
use Rattle.rounding.proofs.Values.{lt-values}

-- ---- both quotients, in units of the format's smallest value

near_times : (g n d : ℕ) → Near g n → Near (g * d) (n * d)
near_times g n d (u, w, h) =
    let a : g * 2 * d ≤ (n * 2 + u) * d = mul-le-mul_right d w.0 in
    let b : n * 2 * d ≤ (g * 2 + u) * d = mul-le-mul_right d w.1 in
    let c : 2 ^ 52 * u * d ≤ n * d = mul-le-mul_right d h in
    (u * d, (omega arith, omega arith), omega arith)

-- below 2 ^ 48, two whole numbers are further apart than what rounding can move them
unit_below : (u n l : ℕ) → 2 ^ 52 * u ≤ n → n ≤ 2 ^ 48 * l → 16 * u ≤ l
unit_below u n l h k = omega arith

apart : (p q x y l : ℕ) → Near p x → Near q y → x + l ≤ y → y ≤ 2 ^ 48 * l → 0 < l → p < q
apart p q x y l s t h k L =
    let u : 16 * s.0 ≤ l = unit_below s.0 x l s.2 (omega arith) in
    let v : 16 * t.0 ≤ l = unit_below t.0 y l t.2 k in
    close s.0 t.0 s.1.0 t.1.1 u v
  where
    close : (u v : ℕ) → p * 2 ≤ x * 2 + u → y * 2 ≤ q * 2 + v → 16 * u ≤ l → 16 * v ≤ l → p < q
    close u v a b c d = omega arith

-- far below the overflow
under : (g b a l : ℕ) → 0 < b → Near (g * b) (a * l) → a < 2 ^ 32 → 0 < l → g < 2 ^ 34 * l
under g b a l B s A L =
    let h : g ≤ g * b = le-mul_of_pos_right g B in
    let k : a * l ≤ 2 ^ 32 * l = mul-le-mul_right l (le_of_lt A) in
    let u : s.0 ≤ a * l = small s.0 (a * l) s.2 in
    last (g * b) (a * l) s.0 h k u s.1.0
  where
    small : (u n : ℕ) → 2 ^ 52 * u ≤ n → u ≤ n
    small u n h = omega arith

    last : (p n u : ℕ) → g ≤ p → n ≤ 2 ^ 32 * l → u ≤ n → p * 2 ≤ n * 2 + u → g < 2 ^ 34 * l
    last p n u a b c d = omega arith

-- A fraction a / b in the range of these laws. Two 16-bit numbers multiply to an a in range, and a 16-bit b above 0 is in range.
abbrev pub Small : ℕ → ℕ → Type 0
Small a b = (0 < b) × (b < 2 ^ 16) × (a < 2 ^ 32)

value : (a b : ℕ) → Small a b → HasValue (round binary64 false a b) false (grid binary64 a b) (2 ^ 1074)
value a b s =
    round_val binary64 a b
    (lt_of_lt_of_le (under (grid binary64 a b) b a (2 ^ 1074) s.0 (grid_near a b s.0 s.1) s.2 (pow_pos 1074)) (lit≤ {m = 2 ^ 34 * 2 ^ 1074} {n = overflow binary64} tt))

lt_grid : (a b c d : ℕ) → Small a b → Small c d → lt (round binary64 false a b) (round binary64 false c d) ≡ ltb (grid binary64 a b) (grid binary64 c d)
lt_grid a b c d s t = lt-values (round binary64 false a b) (round binary64 false c d) (grid binary64 a b) (grid binary64 c d) (2 ^ 1074) (pow_pos 1074) (value a b s) (value c d t)

-- over any unit l: `omega` reads no number as long as 2 ^ 1074
strict : (g b a h d c l : ℕ) → Near (g * b) (a * l) → Near (h * d) (c * l) → a * d < c * b → c * b ≤ 2 ^ 48 → 0 < l → g < h
strict g b a h d c l s t k m L =
    let i : suc (a * d) * l ≤ c * b * l = mul-le-mul_right l k in
    let j : c * b * l ≤ 2 ^ 48 * l = mul-le-mul_right l m in
    let x : a * l * d + l ≤ c * l * b = omega arith in
    let y : c * l * b ≤ 2 ^ 48 * l = omega arith in
    let z : g * b * d < h * d * b = apart (g * b * d) (h * d * b) (a * l * d) (c * l * b) l (near_times (g * b) (a * l) d s) (near_times (h * d) (c * l) b t) x y L in
    lt_of_mul-lt-mul_right (b * d) (omega arith)

less : (a b c d : ℕ) → Small a b → Small c d → a * d < c * b → grid binary64 a b < grid binary64 c d
less a b c d s t h =
    strict (grid binary64 a b) b a (grid binary64 c d) d c (2 ^ 1074) (grid_near a b s.0 s.1) (grid_near c d t.0 t.1) h (mul-le-mul (le_of_lt t.2) (le_of_lt s.1)) (pow_pos 1074)

-- ---- the laws

-- equal fractions give equal floats
pub equal : (a b c d : ℕ) → Small a b → Small c d → a * d ≡ c * b → round binary64 false a b ≡ round binary64 false c d
equal a b c d s t e = round_same binary64 false a b c d s.0 t.0 e

-- the order of the floats is the order of the fractions: a smaller fraction gives a smaller float
pub order : (a b c d : ℕ) → Small a b → Small c d → lt (round binary64 false a b) (round binary64 false c d) ≡ ltb (a * d) (c * b)
order a b c d s t = go (dec_lt (a * d) (c * b)) (dec_lt (c * b) (a * d))
  where
    go : Dec (a * d < c * b) → Dec (c * b < a * d) → lt (round binary64 false a b) (round binary64 false c d) ≡ ltb (a * d) (c * b)
    go (yes h) k = lt_grid a b c d s t ∙ lt-ltb (grid binary64 a b) (grid binary64 c d) (less a b c d s t h) ∙ sym (lt-ltb (a * d) (c * b) h)
    go (no h) (yes k) =
        lt_grid a b c d s t ∙ le-ltb (grid binary64 a b) (grid binary64 c d) (le_of_lt (less c d a b t s k)) ∙ sym (le-ltb (a * d) (c * b) (le_of_lt k))
    go (no h) (no k) =
        ap (λ (x : Float). lt x (round binary64 false c d)) (equal a b c d s t (omega arith))
        ∙ lt_grid c d c d t t
        ∙ le-ltb (grid binary64 c d) (grid binary64 c d) (le_refl (grid binary64 c d))
        ∙ sym (le-ltb (a * d) (c * b) (omega arith))
