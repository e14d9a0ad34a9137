-- What the words count: one more at the places of a set, for counts below 255; the words past the last that isn't 0 count nothing. And how a count is
-- read: it is below 2 to the number of its digits, and two digits are taken out of a word at once.
use mathlib.Core.Path.{◌≡◌, refl, ap, ap₂, sym, ◌∙◌}
use mathlib.Core.Bool.{Bool, true, false, cond, ◌&&◌}
use mathlib.Core.List.{List}
use Prim.Native.Nat.{ℕ, zero, suc, ◌+◌, ◌*◌, ◌/◌, ◌%◌, ◌^◌, ◌≤◌, ◌<◌}
use native.Mathlib.Nat.{mod-lt, mul-le-mul_right, pow-suc}
use native.Mathlib.Omega.{arith}
use native.Mathlib.Decide.{dec_lt}
use borrow.Author.Tests.{eqb-true, eq-eqb, ne_eqb}
use lib.Bits.{bit_and, bit_xor, and_zero_r, xor_zero_r, and_block, and_mask}
use lib.Dec.{eqb, lit<}
use lib.Pow.{pow_pos, split}
use lib.ListN.{length, get_or, set, replicate, length-set}
use lib.Seq.{get_or-set_same, get_or-set_other, set-get_or}
use Rattle.basics.specs.Bits.{digit, bit}
use Rattle.basics.proofs.Bits.{bit-and, bit-xor, one_of}
use Rattle.sets.proofs.Words.{bit-zero}
use Rattle.counters.specs.Counters.{digit_of, tally, carried, raised, counted_up, in_use}

module _ (words : List ℕ) (who : ℕ) where
  -- what is not raised yet
  pub raised_later : (i j : ℕ) → i ≤ j → get_or (raised words who i) j 0 ≡ get_or words j 0
  unfolding raised
  raised_later zero j l = refl
  raised_later (suc i) j l =
      get_or-set_other (raised words who i) i j (bit_xor (get_or words i 0) (carried words who i)) 0 (λ e. omega arith) ∙ raised_later i j (omega arith)

  pub raised-next : (i : ℕ) → raised words who (suc i) ≡ set (raised words who i) i (bit_xor (get_or (raised words who i) i 0) (carried words who i))
  unfolding raised
  raised-next i = ap (λ (x : ℕ). set (raised words who i) i (bit_xor x (carried words who i))) (sym (raised_later i i (omega arith)))

  pub carried-next : (i : ℕ) → carried words who (suc i) ≡ bit_and (get_or (raised words who i) i 0) (carried words who i)
  unfolding carried
  carried-next i = ap (λ (x : ℕ). bit_and x (carried words who i)) (sym (raised_later i i (omega arith)))

  -- nothing more changes where nothing is carried
  pub raised-done : (i d : ℕ) → carried words who i ≡ 0 → (carried words who (i + d) ≡ 0) × (raised words who (i + d) ≡ raised words who i)
  unfolding carried raised
  raised-done i zero e = let z : i + 0 ≡ i = omega arith in (ap (carried words who) z ∙ e, ap (raised words who) z)
  raised-done i (suc d) e =
      let z : i + suc d ≡ suc (i + d) = omega arith in
      let h = raised-done i d e in (
        ap (carried words who) z ∙ ap (bit_and (get_or words (i + d) 0)) h.0 ∙ and_zero_r (get_or words (i + d) 0),
        ap (raised words who) z
            ∙ raised-next (i + d)
            ∙ ap (λ (x : ℕ). set (raised words who (i + d)) (i + d) x) (ap (bit_xor (get_or (raised words who (i + d)) (i + d) 0)) h.0 ∙ xor_zero_r (get_or (raised words who (i + d)) (i + d) 0))
            ∙ set-get_or (raised words who (i + d)) (i + d) 0
            ∙ h.1,
      )

  length-raised : (i : ℕ) → length (raised words who i) ≡ length words
  unfolding raised
  length-raised zero = refl
  length-raised (suc i) = length-set (raised words who i) i (bit_xor (get_or words i 0) (carried words who i)) ∙ length-raised i

tally-same : (a b : List ℕ) (p m : ℕ) → ((k : ℕ) → k < m → get_or a k 0 ≡ get_or b k 0) → tally a m p ≡ tally b m p
unfolding tally
tally-same a b p zero h = refl
tally-same a b p (suc m) h = ap₂ (λ (x y : ℕ). x + digit_of (bit y p) * 2 ^ m) (tally-same a b p m (λ k l. h k (omega arith))) (h m (omega arith))

half_adder : (x y : Bool) (P : ℕ) → digit_of (one_of x y) * P + digit_of (x && y) * (P * 2) ≡ digit_of x * P + digit_of y * P
half_adder true true P = omega arith
half_adder true false P = omega arith
half_adder false true P = omega arith
half_adder false false P = omega arith

digit-most : (b : Bool) → digit_of b ≤ 1
digit-most true = omega arith
digit-most false = omega arith

-- a count of m digits
pub tally-lt : (words : List ℕ) (m p : ℕ) → tally words m p < 2 ^ m
unfolding tally
tally-lt words zero p = omega arith
tally-lt words (suc m) p =
    omega (arith, tally-lt words m p, mul-le-mul_right (2 ^ m) (digit-most (bit (get_or words m 0) p)), pow-suc 2 m)

module _ (words : List ℕ) (who p : ℕ) (long : length words ≡ 8) where
  -- the digits raised so far, and what is carried to the next
  raised_sum : (i : ℕ) → i ≤ 8 → tally (raised words who i) i p + digit_of (bit (carried words who i) p) * 2 ^ i ≡ tally words i p + digit_of (bit who p)
  unfolding tally carried raised
  raised_sum zero l = omega arith
  raised_sum (suc i) l =
      let x : Bool = bit (get_or words i 0) p in
      let y : Bool = bit (carried words who i) p in
      let a : digit_of (bit (get_or (raised words who (suc i)) i 0) p) ≡ digit_of (one_of x y) =
      ap digit_of (ap (λ (w : ℕ). bit w p) (get_or-set_same (raised words who i) i (bit_xor (get_or words i 0) (carried words who i)) 0 (omega (arith, long, length-raised words who i))) ∙ bit-xor (get_or words i 0) (carried words who i) p) in
      let b : digit_of (bit (carried words who (suc i)) p) ≡ digit_of (x && y) = ap digit_of (bit-and (get_or words i 0) (carried words who i) p) in
      let t : tally (raised words who (suc i)) i p ≡ tally (raised words who i) i p =
      tally-same (raised words who (suc i)) (raised words who i) p i (λ k lk. get_or-set_other (raised words who i) i k (bit_xor (get_or words i 0) (carried words who i)) 0 (λ e. omega arith)) in
      rw (t, a, b, pow-suc 2 i) (omega (arith, half_adder x y (2 ^ i), raised_sum i (omega arith)))

  -- one more at the places of a set; of 255, 0
  pub tally_up : tally (counted_up words who) 8 p ≡ (tally words 8 p + digit_of (bit who p)) % 256
  tally_up = omega (arith, raised_sum 8 (omega arith), tally-lt (counted_up words who) 8 p)

  pub tally_more : tally words 8 p < 255 → tally (counted_up words who) 8 p ≡ tally words 8 p + digit_of (bit who p)
  tally_more h = omega (arith, tally_up, h, digit-most (bit who p))

pub length_up : (words : List ℕ) (who : ℕ) → length words ≡ 8 → length (counted_up words who) ≡ 8
length_up words who long = length-raised words who 8 ∙ long

-- a word that is 0 counts nothing
no_digit : (w p P : ℕ) → w ≡ 0 → digit_of (bit w p) * P ≡ 0
no_digit w p P e = ap (λ (b : Bool). digit_of b * P) (ap (λ (x : ℕ). bit x p) e ∙ bit-zero p) ∙ let z : 0 * P ≡ 0 = omega arith in z

pub tally-none : (words : List ℕ) (m p : ℕ) → ((k : ℕ) → get_or words k 0 ≡ 0) → tally words m p ≡ 0
unfolding tally
tally-none words zero p h = refl
tally-none words (suc m) p h = omega (arith, tally-none words m p h, no_digit (get_or words m 0) p (2 ^ m) (h m))

-- the words in use hold every digit
pub tally_used : (words : List ℕ) (m p : ℕ) → tally words (in_use words m) p ≡ tally words m p
unfolding tally in_use
tally_used words zero p = refl
tally_used words (suc m) p = go (eqb (get_or words m 0) 0) refl (tally_used words m p)
  where
    go : (b : Bool) → eqb (get_or words m 0) 0 ≡ b → tally words (in_use words m) p ≡ tally words m p
        → tally words (cond b (in_use words m) (suc m)) p ≡ tally words m p + digit_of (bit (get_or words m 0) p) * 2 ^ m
    go true e h = omega (arith, h, no_digit (get_or words m 0) p (2 ^ m) (eqb-true (get_or words m 0) 0 e))
    go false e h = refl

pub in_use_most : (words : List ℕ) (m : ℕ) → in_use words m ≤ m
unfolding in_use
in_use_most words zero = omega arith
in_use_most words (suc m) = go (eqb (get_or words m 0) 0) (in_use_most words m)
  where
    go : (b : Bool) → in_use words m ≤ m → cond b (in_use words m) (suc m) ≤ suc m
    go true h = omega arith
    go false h = omega arith

-- a bit as a number is the digit
pub digit_of_lem : (w j : ℕ) → digit_of (bit w j) ≡ digit w j
digit_of_lem w j = go (digit w j) (mod-lt (w / 2 ^ j) (lit< tt))
  where
    go : (d : ℕ) → d < 2 → digit_of (eqb d 1) ≡ d
    go zero l = refl
    go (suc zero) l = refl
    go (suc (suc d)) l = absurd (omega arith)

-- the bits at place 0 and at place 32, taken out of a word at once
pub and_pair : (x : ℕ) → bit_and x 4294967297 ≡ digit_of (bit x 0) + digit_of (bit x 32) * 4294967296
and_pair x =
    ap (λ (y : ℕ). bit_and y 4294967297) (sym (split x 32))
    ∙ and_block 32 (x / 2 ^ 32) 1 (x % 2 ^ 32) 1 (mod-lt x (pow_pos 32)) (lit< tt)
    ∙ omega (arith, and_mask (x / 2 ^ 32) 1, and_mask (x % 2 ^ 32) 1, digit_of_lem x 0, digit_of_lem x 32)

-- computed: places 0 and 1, then 0 alone, then 0 and 63
abbrev three : List ℕ
three = counted_up (counted_up (counted_up (replicate 8 0) 3) 1) 9223372036854775809

pub count_cases : (tally three 8 0 ≡ 3) × (tally three 8 1 ≡ 1) × (tally three 8 2 ≡ 0) × (tally three 8 63 ≡ 1) × (in_use three 8 ≡ 2)
unfolding tally carried raised in_use
count_cases = (refl, refl, refl, refl, refl)

-- ---- the last word that isn't 0
pub in_use-none : (words : List ℕ) (m : ℕ) → ((k : ℕ) → k < m → get_or words k 0 ≡ 0) → in_use words m ≡ 0
unfolding in_use
in_use-none words zero h = refl
in_use-none words (suc m) h =
    ap (λ (b : Bool). cond b (in_use words m) (suc m)) (eq-eqb (get_or words m 0) 0 (h m (omega arith))) ∙ in_use-none words m (λ k l. h k (omega arith))

pub in_use-last : (words : List ℕ) (i m : ℕ) → i < m → (get_or words i 0 ≡ 0 → ⊥) → ((k : ℕ) → i < k → k < m → get_or words k 0 ≡ 0) → in_use words m ≡ suc i
unfolding in_use
in_use-last words i zero l some none = absurd (omega arith)
in_use-last words i (suc m) l some none = go (dec_lt i m) (λ b. in_use-last words i m b some (λ k a c. none k a (omega arith)))
  where
    go : Dec (i < m) → (i < m → in_use words m ≡ suc i) → in_use words (suc m) ≡ suc i
    go (yes b) below = ap (λ (x : Bool). cond x (in_use words m) (suc m)) (eq-eqb (get_or words m 0) 0 (none m b (omega arith))) ∙ below b
    go (no b) below =
        let e : m ≡ i = omega arith in
        ap (λ (x : Bool). cond x (in_use words m) (suc m)) (ne_eqb (get_or words m 0) 0 (λ z. some (ap (λ (k : ℕ). get_or words k 0) (sym e) ∙ z))) ∙ ap suc e
