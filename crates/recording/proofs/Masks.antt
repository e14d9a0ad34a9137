-- Own bits by a mask: the bits that a mask of a round's own bits has, and what the bytes of a round that are and-ed with it say of the round.
use mathlib.Core.Path.{◌≡◌, refl, ap, ap₂, sym, ◌∙◌}
use mathlib.Core.Bool.{Bool, true, false, cond, not, ◌&&◌, ◌||◌, or-false}
use mathlib.Core.List.{List}
use Prim.Native.Nat.{ℕ, suc, ◌+◌, ◌*◌, ◌-◌, ◌/◌, ◌%◌, ◌^◌, ◌<◌}
use native.Mathlib.Nat.{mod-lt, zero-add, zero-div}
use native.Mathlib.Decide.{ℕ_discrete}
use native.Mathlib.Omega.{arith}
use borrow.Author.Tests.{eqb-true, eq-eqb, ne_eqb}
use lib.Bits.{bit_and, bit_or, and_le_l, and_le_r, or_add_and}
use lib.Dec.{eqb, lit<}
use lib.ListN.{length, get_or, set, replicate}
use lib.Seq.{get_or-set_same, get_or-set_other}
use Rattle.basics.specs.Bits.{digit, bit}
use Rattle.basics.specs.Lists.{all_below, some_below}
use Rattle.basics.proofs.Laws.{zeros, all_below-at, some_below-at, some_below_by, some-none, some_more, some_ext}
use Rattle.basics.proofs.Bits.{bit-and, bit-or}
use Rattle.bitreader.proofs.Digits.{digit_lt, num_at_is, bit_at_byte}
use Rattle.recording.specs.Packed.{bit_at, round_place}
use Rattle.recording.proofs.Searches.{number_tests}

-- ---- the mask
-- bit e of a byte, counted from the left, in which bit d alone is 1
all_single : all_below (λ d. all_below (λ e. eqb (digit (128 / 2 ^ d) (7 - e)) (cond (eqb e d) 1 0)) 8) 8 ≡ true
unfolding all_below
all_single = refl

single_bit : (d e : ℕ) → d < 8 → e < 8 → bit (128 / 2 ^ d) (7 - e) ≡ eqb e d
single_bit d e h l =
    ap (λ (x : ℕ). eqb x 1)
    (eqb-true (digit (128 / 2 ^ d) (7 - e)) (cond (eqb e d) 1 0)
    (all_below-at (λ e. eqb (digit (128 / 2 ^ d) (7 - e)) (cond (eqb e d) 1 0)) 8
    (all_below-at (λ d. all_below (λ e. eqb (digit (128 / 2 ^ d) (7 - e)) (cond (eqb e d) 1 0)) 8) 8 all_single d h) e l))
    ∙ go (eqb e d)
  where
    go : (b : Bool) → eqb (cond b 1 0) 1 ≡ b
    go true = refl
    go false = refl

-- a mask after the bit at place p was set in it
abbrev with : List ℕ → ℕ → List ℕ
with mask p = set mask (p / 8) (bit_or (get_or mask (p / 8) 0) (128 / 2 ^ (p % 8)))

bit-set : (mask : List ℕ) (p q : ℕ) → p / 8 < length mask → eqb (bit_at (with mask p) q) 1 ≡ (eqb (bit_at mask q) 1 || eqb q p)
unfolding bit_at
bit-set mask p q l = go (ℕ_discrete (q / 8) (p / 8))
  where
    same : q / 8 ≡ p / 8 → Dec (q % 8 ≡ p % 8) → eqb (q % 8) (p % 8) ≡ eqb q p
    same e (yes s) = eq-eqb (q % 8) (p % 8) s ∙ sym (eq-eqb q p (omega arith))
    same e (no s) = ne_eqb (q % 8) (p % 8) s ∙ sym (ne_eqb q p (λ z. s (ap (λ (x : ℕ). x % 8) z)))

    go : Dec (q / 8 ≡ p / 8) → eqb (bit_at (with mask p) q) 1 ≡ (eqb (bit_at mask q) 1 || eqb q p)
    go (yes e) =
        ap (λ (j : ℕ). bit (get_or (with mask p) j 0) (7 - q % 8)) e
        ∙ ap (λ (x : ℕ). bit x (7 - q % 8)) (get_or-set_same mask (p / 8) (bit_or (get_or mask (p / 8) 0) (128 / 2 ^ (p % 8))) 0 l)
        ∙ bit-or (get_or mask (p / 8) 0) (128 / 2 ^ (p % 8)) (7 - q % 8)
        ∙ ap₂ ◌||◌ (ap (λ (j : ℕ). bit (get_or mask j 0) (7 - q % 8)) (sym e))
        (single_bit (p % 8) (q % 8) (mod-lt p (lit< tt)) (mod-lt q (lit< tt)) ∙ same e (ℕ_discrete (q % 8) (p % 8)))
    go (no e) =
        ap (λ (x : ℕ). bit x (7 - q % 8)) (get_or-set_other mask (p / 8) (q / 8) (bit_or (get_or mask (p / 8) 0) (128 / 2 ^ (p % 8))) 0 e)
        ∙ sym (or-false (eqb (bit_at mask q) 1))
        ∙ ap (λ (b : Bool). eqb (bit_at mask q) 1 || b) (sym (ne_eqb q p (λ s. e (ap (λ (x : ℕ). x / 8) s))))

-- the bits of a mask are those of the first i trucks, of which the first stands at a place
abbrev pub OwnMask : List ℕ → ℕ → ℕ → ℕ → Type 0
OwnMask mask at n i = (q : ℕ) → eqb (bit_at mask q) 1 ≡ some_below (λ k. eqb q (at + k * (n + 1))) i

pub mask_begins : (m at n : ℕ) → OwnMask (replicate m 0) at n 0
unfolding bit_at
mask_begins m at n q =
    ap (λ (x : ℕ). bit x (7 - q % 8)) (zeros m (q / 8))
    ∙ ap (λ (x : ℕ). eqb (x % 2) 1) (zero-div (2 ^ (7 - q % 8)))
    ∙ sym (some-none (λ k. eqb q (at + k * (n + 1))))

pub mask_more : (mask : List ℕ) (at n i p : ℕ) → p / 8 < length mask → p ≡ at + i * (n + 1) → OwnMask mask at n i → OwnMask (with mask p) at n (i + 1)
mask_more mask at n i p l e h q =
    bit-set mask p q l
    ∙ ap₂ ◌||◌ (h q) (ap (eqb q) e)
    ∙ some_more (λ k. eqb q (at + k * (n + 1))) i

-- ---- the bytes of a round, and-ed with the mask
abbrev pub masked : List ℕ → List ℕ → ℕ → Bool
masked bytes mask j = not (eqb (bit_and (get_or bytes j 0) (get_or mask j 0)) 0)

-- a union is 0 exactly where both are
or_tests : (a b : ℕ) → not (eqb (bit_or a b) 0) ≡ (not (eqb a 0) || not (eqb b 0))
or_tests a b = go (ℕ_discrete a 0) (ℕ_discrete b 0)
  where
    go : Dec (a ≡ 0) → Dec (b ≡ 0) → not (eqb (bit_or a b) 0) ≡ (not (eqb a 0) || not (eqb b 0))
    go (yes x) (yes y) = rw (eq-eqb a 0 x, eq-eqb b 0 y, eq-eqb (bit_or a b) 0 (omega (arith, or_add_and a b)))
    go (yes x) (no y) = rw (eq-eqb a 0 x, ne_eqb b 0 y, ne_eqb (bit_or a b) 0 (λ z. y (omega (arith, or_add_and a b, and_le_l a b))))
    go (no x) y = rw (ne_eqb a 0 x, ne_eqb (bit_or a b) 0 (λ z. x (omega (arith, or_add_and a b, and_le_r a b))))

pub masked_more : (bytes mask : List ℕ) (j any : ℕ) → not (eqb any 0) ≡ some_below (masked bytes mask) j
    → not (eqb (bit_or any (bit_and (get_or bytes j 0) (get_or mask j 0))) 0) ≡ some_below (masked bytes mask) (j + 1)
masked_more bytes mask j any h =
    or_tests any (bit_and (get_or bytes j 0) (get_or mask j 0)) ∙ ap (λ (x : Bool). x || masked bytes mask j) h ∙ some_more (masked bytes mask) j

-- a byte is 0 exactly where each of its bits is
pub byte_tests : (v : ℕ) → v < 256 → not (eqb v 0) ≡ some_below (λ k. bit v (8 - suc k)) 8
byte_tests v h =
    number_tests (λ i. digit v (8 - suc i)) (λ i. digit_lt v (8 - suc i)) 0 8 v
    (sym (num_at_is (λ i. digit v (8 - suc i)) (λ i. digit_lt v (8 - suc i)) 0 8 v h (λ i l. ap (λ (k : ℕ). digit v (8 - suc k)) (zero-add i))))
    ∙ some_ext (λ k. bit v (8 - suc (0 + k))) (λ k. bit v (8 - suc k)) 8 (λ k l. ap (λ (x : ℕ). bit v (8 - suc x)) (zero-add k))

-- two tests of which each follows from the other are the same
pub tests_same : (x y : Bool) → (x ≡ true → y ≡ true) → (y ≡ true → x ≡ true) → x ≡ y
tests_same true y f g = sym (f refl)
tests_same false true f g = g refl
tests_same false false f g = refl

-- bit q is 1 in both
abbrev pub both : List ℕ → List ℕ → ℕ → Bool
both part mask q = eqb (bit_at part q) 1 && eqb (bit_at mask q) 1

-- bytes that have a bit of the mask, bit by bit
module _ (part mask : List ℕ) (m : ℕ) (bytes : (q : ℕ) → get_or part q 0 < 256) where
  shared : ℕ → ℕ
  shared j = bit_and (get_or part j 0) (get_or mask j 0)

  shared_bit : (j k : ℕ) → k < 8 → bit (shared j) (8 - suc k) ≡ both part mask (8 * j + k)
  unfolding shared
  shared_bit j k l =
      bit-and (get_or part j 0) (get_or mask j 0) (8 - suc k)
      ∙ ap₂ (λ (x y : ℕ). eqb x 1 && eqb y 1) (sym (bit_at_byte part j k l)) (sym (bit_at_byte mask j k l))

  shared_some : (j : ℕ) → masked part mask j ≡ some_below (λ k. bit (shared j) (8 - suc k)) 8
  unfolding shared
  shared_some j = byte_tests (shared j) (omega (arith, and_le_l (get_or part j 0) (get_or mask j 0), bytes j))

  to-bits : (j : ℕ) → j < m → masked part mask j ≡ true → some_below (both part mask) (8 * m) ≡ true
  to-bits j l h =
      let (k, u, e) = some_below-at (λ k. bit (shared j) (8 - suc k)) 8 (sym (shared_some j) ∙ h) in
      some_below_by (both part mask) (8 * m) (8 * j + k) (omega arith) (sym (shared_bit j k u) ∙ e)

  from-bits : (q : ℕ) → q < 8 * m → both part mask q ≡ true → some_below (masked part mask) m ≡ true
  from-bits q l h =
      let j : ℕ = q / 8 in
      let k : ℕ = q % 8 in
      let e : 8 * j + k ≡ q = omega arith in
      let u : k < 8 = mod-lt q (lit< tt) in
      some_below_by (masked part mask) m j (omega arith)
      (shared_some j ∙ some_below_by (λ k. bit (shared j) (8 - suc k)) 8 k u (shared_bit j k u ∙ ap (both part mask) e ∙ h))

  pub masked-bits : some_below (masked part mask) m ≡ some_below (both part mask) (8 * m)
  masked-bits =
      tests_same (some_below (masked part mask) m) (some_below (both part mask) (8 * m))
      (λ h. let t = some_below-at (masked part mask) m h in to-bits t.0 t.1 t.2)
      (λ h. let t = some_below-at (both part mask) (8 * m) h in from-bits t.0 t.1 t.2)

-- the place of round r's first own bit, where the bits of a round fill whole bytes
pub whole-bytes : (n r at b size : ℕ) → at ≡ round_place n 0 + 3 * n → 3 * n + n * n ≡ 8 * size → b ≡ at / 8 + r * size → 8 * b + at % 8 ≡ round_place n r + 3 * n
whole-bytes n r at b size e w h = omega (arith, ap (λ (x : ℕ). r * x) w)
