-- Sets in packed order, truck j at the bit worth 2 to the 31 - j: they are the sets of plain order in reverse.
use mathlib.Core.Path.{◌≡◌, ap, sym, ◌∙◌}
use mathlib.Core.Bool.{Bool, true, false, cond}
use mathlib.Core.List.{List}
use Prim.Native.Nat.{ℕ, zero, suc, ◌+◌, ◌*◌, ◌-◌, ◌/◌, ◌%◌, ◌^◌, ◌≤◌, ◌<◌}
use native.Mathlib.Nat.{pow-suc, mod-lt}
use native.Mathlib.Decide.{dec_lt}
use native.Mathlib.Omega.{arith}
use borrow.Author.Tests.{eqb-true}
use lib.Bits.{bit_xor}
use lib.Dec.{eqb, lit<}
use lib.Pow.{pow_pos, ones_lt, shl_lt, shl_exact, split, shl-shr, shr-shr, low}
use lib.ListN.{length, get_or, set, length-set}
use Rattle.basics.specs.Bits.{bit}
use Rattle.basics.specs.Lists.{filled}
use Rattle.sets.proofs.Words.{bit_high, bit-mod, bit-zero, same_bits}
use Rattle.sets.proofs.Mirror.{mirror_bit, mirror_xor, mirror_power, mirror_zero}
use Rattle.bitreader.specs.Bits.{bit_at, row_at, mirrored}
use Rattle.bitreader.proofs.Digits.{digit-zero, digit-suc, bit_at_lt, one_shifted, num_at-digit, row_at-digit, mirrored-lt}
use Rattle.sets.specs.Sets.{Members}
use Rattle.playback.specs.Standing.{holds, word_from, noted, all_of}
use Rattle.sets.proofs.Members.{replaced, replaced-all, replaced-none, replaced_more, within-removed}

pub turn-back : (p : ℕ) → p < 32 → 31 - (31 - p) ≡ p
turn-back p l = omega arith

pub plain-bit : (w j : ℕ) → j < 32 → bit (mirrored 32 w) j ≡ holds w j
plain-bit w j l = mirror_bit 32 w j l ∙ ap (bit w) (let e : 32 - suc j ≡ 31 - j = omega arith in e)

pub plain-none : mirrored 32 0 ≡ 0
plain-none = eqb-true (mirrored 32 0) 0 (mirror_zero 32 0 (pow_pos 32))

pub plain_power : (p : ℕ) → p < 32 → mirrored 32 (2 ^ p) ≡ 2 ^ (31 - p)
plain_power p l = mirror_power 32 p l ∙ ap (λ (x : ℕ). 2 ^ x) (let e : 32 - suc p ≡ 31 - p = omega arith in e)

-- a word whose bits at or above the n-th are clear
pub few_bits : (w n m : ℕ) → w < 2 ^ m → ((j : ℕ) → n ≤ j → j < m → bit w j ≡ false) → w < 2 ^ n
few_bits w n m p h =
    let e : w ≡ w % 2 ^ n = same_bits w (w % 2 ^ n) m p (omega (arith, split w n)) (λ j l. go j l (dec_lt j n)) in
    omega (arith, e, mod-lt w (pow_pos n))
  where
    go : (j : ℕ) → j < m → Dec (j < n) → bit w j ≡ bit (w % 2 ^ n) j
    go j l (yes o) = sym (bit-mod w n j o)
    go j l (no o) = h j (omega arith) l ∙ sym (bit_high (w % 2 ^ n) n j (mod-lt w (pow_pos n)) (omega arith))

-- a set in packed order that holds those below n that have p
pub placed : (w n : ℕ) (p : ℕ → Bool) → n ≤ 32 → ((j : ℕ) → j < n → holds w j ≡ p j) → ((j : ℕ) → n ≤ j → j < 32 → holds w j ≡ false) → Members (mirrored 32 w) n p
placed w n p m each none =
    record {
      below = few_bits (mirrored 32 w) n 32 (mirrored-lt 32 w) (λ j o l. plain-bit w j l ∙ none j o l);
      each = λ j l. plain-bit w j (omega arith) ∙ each j l;
    }

-- a word as it was read, beside the same word in plain form
pub read-bit : (s : List ℕ) (p n j : ℕ) → n ≤ 32 → j < n → holds (word_from s p) j ≡ bit (row_at (bit_at s) p n) j
read-bit s p n j m l =
    ap (λ (d : ℕ). eqb d 1)
    (num_at-digit (bit_at s) (bit_at_lt s) p 32 (31 - j) (omega arith)
    ∙ ap (λ (x : ℕ). bit_at s (p + x)) (let e : 32 - suc (31 - j) ≡ j = omega arith in e)
    ∙ sym (row_at-digit (bit_at s) (bit_at_lt s) p n j l))

-- all of the first n trucks
ones-suc : (n : ℕ) → 2 ^ suc n - 1 ≡ (2 ^ n - 1) * 2 + 1
ones-suc n = omega (arith, pow-suc 2 n, pow_pos n)

pub ones_below : (n j : ℕ) → j < n → bit (2 ^ n - 1) j ≡ true
ones_below zero j l = absurd (omega arith)
ones_below (suc n) zero l = ap (λ (x : ℕ). bit x 0) (ones-suc n) ∙ ap (λ (d : ℕ). eqb d 1) (digit-zero (2 ^ n - 1) (lit< tt))
ones_below (suc n) (suc j) l =
    ap (λ (x : ℕ). bit x (suc j)) (ones-suc n) ∙ ap (λ (d : ℕ). eqb d 1) (digit-suc (2 ^ n - 1) j (lit< tt)) ∙ ones_below n j (omega arith)

pub everyone_lt : (n : ℕ) → n ≤ 32 → all_of n < 2 ^ 32
everyone_lt n m = omega (arith, shl_lt n (32 - n) (ones_lt n), ap (λ (x : ℕ). 2 ^ x) (let e : n + (32 - n) ≡ 32 = omega arith in e))

pub everyone_in : (n j : ℕ) → n ≤ 32 → j < n → holds (all_of n) j ≡ true
everyone_in n j m l =
    ap (bit (all_of n)) (let e : 31 - j ≡ (32 - n) + (n - suc j) = omega arith in e)
    ∙ ap (λ (x : ℕ). eqb (x % 2) 1) (sym (shr-shr (all_of n) (32 - n) (n - suc j)) ∙ ap (λ (x : ℕ). x / 2 ^ (n - suc j)) (shl-shr (2 ^ n - 1) (32 - n)))
    ∙ ones_below n (n - suc j) (omega arith)

pub everyone_out : (n j : ℕ) → n ≤ j → j < 32 → holds (all_of n) j ≡ false
everyone_out n j o l =
    sym (bit-mod (all_of n) (32 - n) (31 - j) (omega arith))
    ∙ ap (λ (x : ℕ). bit x (31 - j)) (ap (λ (x : ℕ). x % 2 ^ (32 - n)) (let e : all_of n ≡ (2 ^ n - 1) * 2 ^ (32 - n) + 0 = omega arith in e) ∙ low (2 ^ n - 1) (32 - n) (pow_pos (32 - n)))
    ∙ bit-zero (31 - j)

pub everyone_is : (n : ℕ) → n ≤ 32 → (1 * 2 ^ n % 2 ^ 64 - 1) * 2 ^ (32 - n) % 2 ^ 64 ≡ all_of n
everyone_is n m = ap (λ (x : ℕ). (x - 1) * 2 ^ (32 - n) % 2 ^ 64) (one_shifted n (omega arith)) ∙ shl_exact n (32 - n) 64 (ones_lt n) (omega arith)

-- ---- the ends of those of a set are noted one by one
pub record Noting (ends₀ : List ℕ) (who k : ℕ) (ends : List ℕ) (left : ℕ) : Type 0 where
  pub list : ends ≡ replaced 0 ends₀ (noted ends₀ who k) 32 (mirrored 32 left)
  pub within : (p : ℕ) → bit left p ≡ true → bit who p ≡ true
  pub long : length ends ≡ 32

module _ (ends₀ : List ℕ) (who k : ℕ) (long : length ends₀ ≡ 32) where
  abbrev new : ℕ → ℕ
  new = noted ends₀ who k

  pub noting-starts : Noting ends₀ who k ends₀ who
  noting-starts =
      record {
        list = sym (replaced-none 0 ends₀ new 32 (omega arith) (mirrored 32 who) (λ j l h. ap (λ (b : Bool). cond b k (get_or ends₀ j 0)) (sym (plain-bit who j l) ∙ h)));
        within = λ p h. h;
        long = long;
      }

  pub noting_more : {ends : List ℕ} {left : ℕ} → Noting ends₀ who k ends left → (p : ℕ) → p < 32 → bit left p ≡ true → (left' : ℕ) → left' ≡ bit_xor left (2 ^ p)
      → Noting ends₀ who k (set ends (31 - p) k) left'
  noting_more {ends} {left} g p l h left' el =
      let at : bit (mirrored 32 left) (31 - p) ≡ true = plain-bit left (31 - p) (omega arith) ∙ ap (bit left) (turn-back p l) ∙ h in
      let is : k ≡ new (31 - p) = sym (ap (λ (b : Bool). cond b k (get_or ends₀ (31 - p) 0)) (ap (bit who) (turn-back p l) ∙ g.within p h)) in
      rw el (record {
        list = ap (λ (d : List ℕ). set d (31 - p) k) g.list
            ∙ replaced_more 0 ends₀ new 32 (omega arith) (mirrored 32 left) (31 - p) k (omega arith) at is
            ∙ ap (replaced 0 ends₀ new 32) (ap (bit_xor (mirrored 32 left)) (sym (plain_power p l)) ∙ sym (mirror_xor 32 left (2 ^ p)));
        within = λ q o. g.within q (within-removed left p h q o);
        long = length-set ends (31 - p) k ∙ g.long;
      })

  pub noting-done : {ends : List ℕ} {left : ℕ} → Noting ends₀ who k ends left → left ≡ 0 → ends ≡ filled new 32 ends₀
  noting-done g z = g.list ∙ ap (replaced 0 ends₀ new 32) (ap (mirrored 32) z ∙ plain-none) ∙ replaced-all 0 ends₀ new 32
