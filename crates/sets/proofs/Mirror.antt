-- Words whose bits stand in reverse: each operation on words may be done before or after the reversal, and the members stay as many.
use mathlib.Core.Path.{◌≡◌, ap, ap₂, sym, ◌∙◌}
use mathlib.Core.Bool.{Bool, ◌&&◌, ◌||◌}
use Prim.Native.Nat.{ℕ, zero, suc, ◌+◌, ◌*◌, ◌-◌, ◌/◌, ◌%◌, ◌^◌, ◌<◌}
use native.Mathlib.Nat.{add_comm, pow-suc}
use native.Mathlib.Decide.{ℕ_discrete}
use native.Mathlib.Omega.{arith}
use borrow.Author.Tests.{eq-eqb, ne_eqb}
use lib.Dec.{eqb}
use lib.Bits.{bit_and, bit_or, bit_xor, and_lt, or_lt, xor_lt}
use lib.Count.{ones, ones_cat}
use lib.Pow.{pow_pos, pow-lt}
use Rattle.basics.specs.Bits.{digit, bit}
use Rattle.basics.proofs.Bits.{bit-and, bit-or, bit-xor, one_of}
use Rattle.bitreader.specs.Bits.{mirrored}
use Rattle.bitreader.proofs.Digits.{mirrored-lt, mirrored-digit, mirrored-add, same_digits, mirrored_one}
use Rattle.sets.proofs.Words.{bit_power, bit-zero, same_bits, no_bits}

pub mirror_bit : (k v j : ℕ) → j < k → bit (mirrored k v) j ≡ bit v (k - suc j)
mirror_bit k v j h = ap (λ (d : ℕ). eqb d 1) (mirrored-digit k v j h)

-- an operation that works bit by bit
module _ (op : ℕ → ℕ → ℕ) (g : Bool → Bool → Bool)
    (each : (a b j : ℕ) → bit (op a b) j ≡ g (bit a j) (bit b j))
    (below : (k a b : ℕ) → a < 2 ^ k → b < 2 ^ k → op a b < 2 ^ k) where
  mirror_op : (k a b : ℕ) → mirrored k (op a b) ≡ op (mirrored k a) (mirrored k b)
  mirror_op k a b =
      same_bits (mirrored k (op a b)) (op (mirrored k a) (mirrored k b)) k (mirrored-lt k (op a b))
      (below k (mirrored k a) (mirrored k b) (mirrored-lt k a) (mirrored-lt k b))
      (λ j l.
      mirror_bit k (op a b) j l
      ∙ each a b (k - suc j)
      ∙ ap₂ g (sym (mirror_bit k a j l)) (sym (mirror_bit k b j l))
      ∙ sym (each (mirrored k a) (mirrored k b) j))

pub mirror_and : (k a b : ℕ) → mirrored k (bit_and a b) ≡ bit_and (mirrored k a) (mirrored k b)
mirror_and = mirror_op bit_and ◌&&◌ bit-and and_lt

pub mirror_or : (k a b : ℕ) → mirrored k (bit_or a b) ≡ bit_or (mirrored k a) (mirrored k b)
mirror_or = mirror_op bit_or ◌||◌ bit-or or_lt

pub mirror_xor : (k a b : ℕ) → mirrored k (bit_xor a b) ≡ bit_xor (mirrored k a) (mirrored k b)
mirror_xor = mirror_op bit_xor one_of bit-xor xor_lt

-- the word of one truck
pub mirror_power : (k i : ℕ) → i < k → mirrored k (2 ^ i) ≡ 2 ^ (k - suc i)
mirror_power k i h =
    same_bits (mirrored k (2 ^ i)) (2 ^ (k - suc i)) k (mirrored-lt k (2 ^ i)) (pow-lt (omega arith))
    (λ j l. mirror_bit k (2 ^ i) j l ∙ bit_power i (k - suc j) ∙ go j l (ℕ_discrete i (k - suc j)) ∙ sym (bit_power (k - suc i) j))
  where
    go : (j : ℕ) → j < k → Dec (i ≡ k - suc j) → eqb i (k - suc j) ≡ eqb (k - suc i) j
    go j l (yes e) = eq-eqb i (k - suc j) e ∙ sym (eq-eqb (k - suc i) j (omega arith))
    go j l (no e) = ne_eqb i (k - suc j) e ∙ sym (ne_eqb (k - suc i) j (λ s. e (omega arith)))

pub mirror_twice : (k v : ℕ) → v < 2 ^ k → mirrored k (mirrored k v) ≡ v
mirror_twice k v h =
    same_digits (mirrored k (mirrored k v)) v k (mirrored-lt k (mirrored k v)) h
    (λ j l. mirrored-digit k (mirrored k v) j l ∙ mirrored-digit k v (k - suc j) (omega arith) ∙ ap (digit v) (omega arith))

pub mirror_eq : (k a b : ℕ) → a < 2 ^ k → b < 2 ^ k → eqb (mirrored k a) (mirrored k b) ≡ eqb a b
mirror_eq k a b p q = go (ℕ_discrete a b)
  where
    go : Dec (a ≡ b) → eqb (mirrored k a) (mirrored k b) ≡ eqb a b
    go (yes e) = eq-eqb (mirrored k a) (mirrored k b) (ap (mirrored k) e) ∙ sym (eq-eqb a b e)
    go (no e) =
        ne_eqb (mirrored k a) (mirrored k b) (λ s. e (sym (mirror_twice k a p) ∙ ap (mirrored k) s ∙ mirror_twice k b q)) ∙ sym (ne_eqb a b e)

pub mirror_zero : (k v : ℕ) → v < 2 ^ k → eqb (mirrored k v) 0 ≡ eqb v 0
mirror_zero k v h = ap (eqb (mirrored k v)) (sym none) ∙ mirror_eq k v 0 h (pow_pos k)
  where
    none : mirrored k 0 ≡ 0
    none = no_bits (mirrored k 0) k (mirrored-lt k 0) (λ j l. mirror_bit k 0 j l ∙ bit-zero (k - suc j))

-- the lowest bit becomes the highest, and is counted with the rest
pub mirror_ones : (k v : ℕ) → v < 2 ^ k → ones (mirrored k v) ≡ ones v
mirror_ones zero v h = ap ones (let e : mirrored 0 v ≡ v = omega (arith, mirrored-lt 0 v) in e)
mirror_ones (suc k) v h =
    ap (λ (n : ℕ). ones (mirrored n v)) (let e : suc k ≡ k + 1 = omega arith in e)
    ∙ ap ones (mirrored-add k 1 v ∙ add_comm (mirrored k (v / 2)) (mirrored 1 (v % 2) * 2 ^ k))
    ∙ ones_cat k (mirrored 1 (v % 2)) (mirrored k (v / 2)) (mirrored-lt k (v / 2))
    ∙ ap₂ (λ (a b : ℕ). ones a + b) (mirrored_one (v % 2)) (mirror_ones k (v / 2) (omega (arith, pow-suc 2 k)))
    ∙ add_comm (ones (v % 2 % 2)) (ones (v / 2))
    ∙ sym (ones_cat 1 (v / 2) (v % 2 % 2) (omega arith))
    ∙ ap ones (let e : v / 2 * 2 + v % 2 % 2 ≡ v = omega arith in e)
