-- The bits of a word, a set bit of a word that is not 0, and how many bits are set.
use mathlib.Core.Path.{◌≡◌, refl, ap, ap₂, sym, ◌∙◌}
use mathlib.Core.Bool.{Bool, true, false, cond, not, ◌&&◌, and-false, true≢false, false≢true}
use mathlib.Core.List.{[], ◌∷◌}
use Prim.Native.Nat.{ℕ, zero, suc, ◌+◌, ◌*◌, ◌-◌, ◌/◌, ◌%◌, ◌^◌, ◌≤◌, ◌<◌, min}
use native.Mathlib.Nat.{mod-lt, mod-eq_of_lt, div-eq_of_lt, pow-suc, div-div-eq-div-mul, div_self, mul_comm, add_comm, div-lt_iff_lt-mul, div-one}
use native.Mathlib.Decide.{dec_lt, ℕ_discrete}
use native.Mathlib.Omega.{arith}
use borrow.Author.Tests.{eq-eqb, ne_eqb}
use lib.Dec.{eqb, lit<}
use lib.Bits.{bit_and, bit_xor, differ, and_step, xor_step, xor_add_and, and_le_r, and_comm, and_self, xor_zero_r}
use lib.Count.{ones, ones_cat, ones-ones, count_trailing_zeros, under}
use lib.Pow.{pow_pos, pow_mono, pow-lt, pow-add, shl-shr, shr-shr, split, high, low}
use lib.ListN.{length, length-append}
use Rattle.std.proofs.lemmas.Nat.{and_assoc, and-not}
use Rattle.basics.specs.Bits.{digit, bit}
use Rattle.basics.specs.Lists.{who}
use Rattle.basics.proofs.Bits.{digits, bit-and, one_of, bit-xor}
use Rattle.basics.proofs.Laws.{who_ext}
use Rattle.bitreader.proofs.Digits.{digit_lt, digit-mod, same_digits}
use Rattle.sets.specs.Sets.{without, rest_of}

pub positive : (n : ℕ) → (n ≡ 0 → ⊥) → 0 < n
positive zero h = absurd (h refl)
positive (suc n) h = omega arith

-- the members of a that b lacks
pub bit-without : (a b j : ℕ) → bit (bit_xor a (bit_and a b)) j ≡ (bit a j && not (bit b j))
bit-without a b j = bit-xor a (bit_and a b) j ∙ ap (one_of (bit a j)) (bit-and a b j) ∙ go (bit a j) (bit b j)
  where
    go : (x y : Bool) → one_of x (x && y) ≡ (x && not y)
    go true y = refl
    go false y = refl

-- no bit at or above the k-th
pub bit_high : (w k j : ℕ) → w < 2 ^ k → k ≤ j → bit w j ≡ false
bit_high w k j h l =
    ne_eqb (digit w j) 1 (λ e. omega (arith, ap (λ (d : ℕ). d % 2) (div-eq_of_lt (let s : w < 2 ^ j = omega (arith, pow_mono l) in s)), e))

-- the word of one truck
pub bit_power : (i j : ℕ) → bit (2 ^ i) j ≡ eqb i j
bit_power i j = go (dec_lt i j) (dec_lt j i)
  where
    go : Dec (i < j) → Dec (j < i) → bit (2 ^ i) j ≡ eqb i j
    go (yes l) e = bit_high (2 ^ i) j j (pow-lt l) (omega arith) ∙ sym (ne_eqb i j (λ s. omega arith))
    go (no l) (yes e) =
        let d : ℕ = i - j - 1 in
        let s : 2 ^ i ≡ 2 ^ (d + 1) * 2 ^ j + 0 = ap (λ (k : ℕ). 2 ^ k) (let z : i ≡ d + 1 + j = omega arith in z) ∙ pow-add 2 (d + 1) j ∙ omega arith in
        ne_eqb (digit (2 ^ i) j) 1
        (λ z. omega (arith, z, ap (λ (x : ℕ). x / 2 ^ j % 2) s, ap (λ (x : ℕ). x % 2) (high (2 ^ (d + 1)) j (pow_pos j)), pow-add 2 d 1))
        ∙ sym (ne_eqb i j (λ s. omega arith))
    go (no l) (no e) =
        let s : i ≡ j = omega arith in
        eq-eqb (digit (2 ^ i) j) 1 (ap (λ (x : ℕ). 2 ^ x / 2 ^ j % 2) s ∙ ap (λ (x : ℕ). x % 2) (div_self (pow_pos j))) ∙ sym (eq-eqb i j s)

eqb-digit : (x y : ℕ) → x < 2 → y < 2 → eqb x 1 ≡ eqb y 1 → x ≡ y
eqb-digit =
    digits (λ x y. eqb x 1 ≡ eqb y 1 → x ≡ y) (λ e. refl) (λ e. absurd (false≢true e)) (λ e. absurd (true≢false e)) (λ e. refl)

-- numbers below 2 to the k are their bits
pub same_bits : (v w k : ℕ) → v < 2 ^ k → w < 2 ^ k → ((j : ℕ) → j < k → bit v j ≡ bit w j) → v ≡ w
same_bits v w k p q h = same_digits v w k p q (λ j l. eqb-digit (digit v j) (digit w j) (digit_lt v j) (digit_lt w j) (h j l))

pub bit-zero : (j : ℕ) → bit 0 j ≡ false
bit-zero j = bit_high 0 0 j (lit< tt) (omega arith)

-- a word with no member is 0
pub no_bits : (w k : ℕ) → w < 2 ^ k → ((j : ℕ) → j < k → bit w j ≡ false) → w ≡ 0
no_bits w k p h = same_bits w 0 k p (pow_pos k) (λ j l. h j l ∙ sym (bit-zero j))

-- a word of 32 bits and the bits that another lacks
pub and_not : (a b : ℕ) → a < 2 ^ 32 → b < 2 ^ 32 → bit_and a (2 ^ 32 - 1 - b) ≡ without a b
and_not a b h l =
    omega
    (arith, and_comm a (2 ^ 32 - 1 - b), and-not 32 b a l h, and_comm b a, xor_add_and a (bit_and a b), sym (and_assoc b a a) ∙ ap (λ (x : ℕ). bit_and x b) (and_self a))

-- a word that is not 0 has a member, and this is one
pub trailing_bit : (k w : ℕ) → 0 < w → w < 2 ^ k → (count_trailing_zeros k w < k) × (bit w (count_trailing_zeros k w) ≡ true)
unfolding count_trailing_zeros
trailing_bit zero w p h = absurd (omega arith)
trailing_bit (suc k) w p h = go (w % 2) refl (trailing_bit k (w / 2))
  where
    go : (d : ℕ) → w % 2 ≡ d → (0 < w / 2 → w / 2 < 2 ^ k → (count_trailing_zeros k (w / 2) < k) × (bit (w / 2) (count_trailing_zeros k (w / 2)) ≡ true))
        → (under d (count_trailing_zeros k (w / 2)) < suc k) × (bit w (under d (count_trailing_zeros k (w / 2))) ≡ true)
    go zero e ih =
        let r = ih (omega arith) (omega (arith, pow-suc 2 k)) in
        let t : ℕ = count_trailing_zeros k (w / 2) in (
          omega (arith, r.0),
          ap (λ (x : ℕ). eqb (w / x % 2) 1) (pow-suc 2 t ∙ mul_comm (2 ^ t) 2)
              ∙ ap (λ (x : ℕ). eqb (x % 2) 1) (sym (div-div-eq-div-mul w 2 (2 ^ t)))
              ∙ r.1,
        )
    go (suc d) e ih =
        (omega arith, ap (λ (x : ℕ). eqb (x % 2) 1) (div-one w) ∙ eq-eqb (w % 2) 1 (omega (arith, mod-lt w (let z : 0 < 2 = lit< tt in z))))

-- the word without it
pub trailing_rest : (k w : ℕ) → 0 < w → w < 2 ^ k → bit_and w (w - 1) ≡ bit_xor w (2 ^ count_trailing_zeros k w)
unfolding count_trailing_zeros
trailing_rest zero w p h = absurd (omega arith)
trailing_rest (suc k) w p h = go (w % 2) refl (trailing_rest k (w / 2))
  where
    t : ℕ
    t = count_trailing_zeros k (w / 2)

    go : (d : ℕ) → w % 2 ≡ d → (0 < w / 2 → w / 2 < 2 ^ k → bit_and (w / 2) (w / 2 - 1) ≡ bit_xor (w / 2) (2 ^ t)) → bit_and w (w - 1) ≡ bit_xor w (2 ^ under d t)
    go zero e ih =
        and_step w (w - 1)
        ∙ ap₂ (λ (x y : ℕ). x * 2 + y)
        (ap (bit_and (w / 2)) (let s : (w - 1) / 2 ≡ w / 2 - 1 = omega arith in s) ∙ ih (omega arith) (omega (arith, pow-suc 2 k)))
        (let s : min (w % 2) ((w - 1) % 2) ≡ 0 = omega arith in s)
        ∙ sym (xor_step w (2 ^ suc t)
        ∙ ap₂ (λ (x y : ℕ). x * 2 + y)
        (ap (bit_xor (w / 2)) (let s : 2 ^ suc t / 2 ≡ 2 ^ t = omega (arith, pow-suc 2 t) in s))
        (ap₂ differ e (let s : 2 ^ suc t % 2 ≡ 0 = omega (arith, pow-suc 2 t) in s)))
    go (suc d) e ih =
        let one : w % 2 ≡ 1 = omega (arith, mod-lt w (let z : 0 < 2 = lit< tt in z)) in
        and_step w (w - 1)
        ∙ ap₂ (λ (x y : ℕ). x * 2 + y)
        (ap (bit_and (w / 2)) (let s : (w - 1) / 2 ≡ w / 2 = omega arith in s) ∙ and_self (w / 2))
        (let s : min (w % 2) ((w - 1) % 2) ≡ 0 = omega arith in s)
        ∙ sym (xor_step w 1 ∙ ap₂ (λ (x y : ℕ). x * 2 + y) (xor_zero_r (w / 2)) (ap₂ differ one refl))

-- the same where the number below it wraps at 0
pub rest_wrapped : (w : ℕ) → w < 2 ^ 32 → bit_and w ((w + (2 ^ 32 - 1)) % 2 ^ 32) ≡ rest_of w
unfolding rest_of
rest_wrapped zero h = refl
rest_wrapped (suc w) h =
    rw (ne_eqb (suc w) 0 (λ z. omega arith))
    (ap (bit_and (suc w)) (let e : (suc w + (2 ^ 32 - 1)) % 2 ^ 32 ≡ suc w - 1 = omega arith in e) ∙ trailing_rest 32 (suc w) (omega arith) h)

-- a member is taken out
pub bit-removed : (w i j : ℕ) → bit w i ≡ true → bit (bit_xor w (2 ^ i)) j ≡ (bit w j && not (eqb i j))
bit-removed w i j h = bit-xor w (2 ^ i) j ∙ ap (one_of (bit w j)) (bit_power i j) ∙ go (ℕ_discrete i j)
  where
    two : (x : Bool) → one_of x false ≡ (x && not false)
    two true = refl
    two false = refl

    one : (x : Bool) → x ≡ true → one_of x true ≡ (x && not true)
    one true e = refl
    one false e = absurd (false≢true e)

    go : Dec (i ≡ j) → one_of (bit w j) (eqb i j) ≡ (bit w j && not (eqb i j))
    go (yes e) = rw (eq-eqb i j e) (one (bit w j) (ap (bit w) (sym e) ∙ h))
    go (no e) = rw (ne_eqb i j e) (two (bit w j))

and_power : (w i : ℕ) → bit w i ≡ true → bit_and w (2 ^ i) ≡ 2 ^ i
and_power w i h =
    same_bits (bit_and w (2 ^ i)) (2 ^ i) (suc i) (omega (arith, and_le_r w (2 ^ i), pow-lt (let l : i < suc i = omega arith in l))) (pow-lt (omega arith))
    (λ j l. bit-and w (2 ^ i) j ∙ ap (λ (b : Bool). bit w j && b) (bit_power i j) ∙ go j (ℕ_discrete i j) ∙ sym (bit_power i j))
  where
    go : (j : ℕ) → Dec (i ≡ j) → (bit w j && eqb i j) ≡ eqb i j
    go j (yes e) = rw (eq-eqb i j e, ap (bit w) (sym e) ∙ h)
    go j (no e) = rw (ne_eqb i j e) (and-false (bit w j))

-- and the word falls
pub removed-lt : (w i : ℕ) → bit w i ≡ true → bit_xor w (2 ^ i) < w
removed-lt w i h = omega (arith, xor_add_and w (2 ^ i), and_power w i h, pow_pos i)

-- the bits below the k-th
pub bit-mod : (w k j : ℕ) → j < k → bit (w % 2 ^ k) j ≡ bit w j
bit-mod w k j h = ap (λ (d : ℕ). eqb d 1) (digit-mod w k j h)

-- the bits from the p-th on, counted from there
pub bit_shr : (w p j : ℕ) → bit (w / 2 ^ p) j ≡ bit w (p + j)
bit_shr w p j = ap (λ (x : ℕ). eqb (x % 2) 1) (shr-shr w p j)

-- a word moved up by k places holds each of its bits k places further
pub bit_shifted : (a k p : ℕ) → bit (a * 2 ^ k) (k + p) ≡ bit a p
bit_shifted a k p = sym (bit_shr (a * 2 ^ k) k p) ∙ ap (λ (x : ℕ). bit x p) (shl-shr a k)

-- and no bit below
pub bit_below : (a k p : ℕ) → p < k → bit (a * 2 ^ k) p ≡ false
bit_below a k p h =
    sym (bit-mod (a * 2 ^ k) k p h)
    ∙ ap (λ (x : ℕ). bit x p) (ap (λ (x : ℕ). x % 2 ^ k) (let e : a * 2 ^ k ≡ a * 2 ^ k + 0 = omega arith in e) ∙ low a k (pow_pos k))
    ∙ bit-zero p

-- the digit worth most, and the rest
low_digit : (w k : ℕ) → w < 2 ^ suc k → (w % 2 ^ k < 2 ^ k) × (w ≡ digit w k * 2 ^ k + w % 2 ^ k)
low_digit w k h =
    let q : w / 2 ^ k < 2 = (div-lt_iff_lt-mul (pow_pos k)).1 (let s : w < 2 * 2 ^ k = omega (arith, pow-suc 2 k) in s) in
    (mod-lt w (pow_pos k), sym (split w k) ∙ ap (λ (d : ℕ). d * 2 ^ k + w % 2 ^ k) (sym (mod-eq_of_lt q)))

-- how many members a word has
pub ones-count : (w k : ℕ) → w < 2 ^ k → ones w ≡ length (who (bit w) k)
unfolding who
ones-count w zero h = ap ones (let e : w ≡ 0 = omega arith in e) ∙ ones-ones 0
ones-count w (suc k) h =
    let d = low_digit w k h in
    ap ones d.1
    ∙ ones_cat k (digit w k) (w % 2 ^ k) d.0
    ∙ ap₂ (λ (x y : ℕ). x + y) (top (digit w k) (mod-lt (w / 2 ^ k) (lit< tt)))
    (ones-count (w % 2 ^ k) k d.0 ∙ ap length (who_ext (bit (w % 2 ^ k)) (bit w) k (bit-mod w k)))
    ∙ add_comm (length (cond (bit w k) (k ∷ []) [])) (length (who (bit w) k))
    ∙ sym (length-append (who (bit w) k) (cond (bit w k) (k ∷ []) []))
  where
    top : (x : ℕ) → x < 2 → ones x ≡ length (cond (eqb x 1) (k ∷ []) [])
    top zero l = ones-ones 0
    top (suc zero) l = ones-ones 1
    top (suc (suc x)) l = absurd (omega arith)

pub some-bit : (w k : ℕ) → w < 2 ^ k → (w ≡ 0 → ⊥) → (j : ℕ) × (j < k) × (bit w j ≡ true)
some-bit w k h z = let r = trailing_bit k w (omega arith) h in (count_trailing_zeros k w, r.0, r.1)
