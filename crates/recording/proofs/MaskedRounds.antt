-- The bytes of a round and-ed with the mask where they stand in a recording: one is not 0 exactly where an own bit of the round is 1.
use mathlib.Core.Path.{◌≡◌, refl, ap, ap₂, sym, ◌∙◌}
use mathlib.Core.Bool.{Bool, true, not, ◌&&◌}
use mathlib.Core.List.{List}
use Prim.Native.Nat.{ℕ, suc, ◌+◌, ◌*◌, ◌-◌, ◌/◌, ◌%◌, ◌≤◌, ◌<◌}
use native.Mathlib.Nat.{mod-lt}
use native.Mathlib.Decide.{dec_lt}
use native.Mathlib.Omega.{arith}
use borrow.Author.Tests.{eqb-true, eq-eqb}
use lib.Bits.{bit_and, and_le_l}
use lib.Dec.{eqb, lit<}
use lib.ListN.{length, get_or, take, drop, length-take}
use Rattle.basics.specs.Bits.{bit}
use Rattle.basics.specs.Lists.{some_below}
use Rattle.std.proofs.lemmas.List.{get_or-take, get_or_past}
use Rattle.std.proofs.Common.{get_or-drop}
use Rattle.basics.proofs.Laws.{and_left, and_right, and_both, some_below-at, some_below_by, some_ext}
use Rattle.basics.proofs.Bits.{bit-and}
use Rattle.bitreader.proofs.Digits.{bit_at_byte}
use Rattle.recording.specs.Packed.{bit_at}
use Rattle.recording.proofs.Searches.{own_packed, within_rows}
use Rattle.recording.proofs.Masks.{OwnMask, masked, both, masked-bits, byte_tests, tests_same}

abbrev pub masked_at : List ℕ → ℕ → List ℕ → ℕ → Bool
masked_at s b mask j = not (eqb (bit_and (get_or s (b + j) 0) (get_or mask j 0)) 0)

-- m bytes from byte b on, whose first own bit is bit d of them
module _ (s mask : List ℕ) (b m d n : ℕ) (bytes : (q : ℕ) → get_or s q 0 < 256) (marked : OwnMask mask d n n) (covers : d + n * n ≤ 8 * m) where
  shared : ℕ → ℕ
  shared j = bit_and (get_or s (b + j) 0) (get_or mask j 0)

  shared_bit : (j k : ℕ) → k < 8 → bit (shared j) (8 - suc k) ≡ (eqb (bit_at s (8 * b + (8 * j + k))) 1 && eqb (bit_at mask (8 * j + k)) 1)
  unfolding shared
  shared_bit j k l =
      bit-and (get_or s (b + j) 0) (get_or mask j 0) (8 - suc k)
      ∙ ap₂ (λ (x y : ℕ). eqb x 1 && eqb y 1) (sym (bit_at_byte s (b + j) k l) ∙ ap (bit_at s) (omega arith)) (sym (bit_at_byte mask j k l))

  shared_some : (j : ℕ) → masked_at s b mask j ≡ some_below (λ k. bit (shared j) (8 - suc k)) 8
  unfolding shared
  shared_some j = byte_tests (shared j) (omega (arith, and_le_l (get_or s (b + j) 0) (get_or mask j 0), bytes (b + j)))

  to-own : (j : ℕ) → masked_at s b mask j ≡ true → some_below (own_packed s (8 * b + d) n) n ≡ true
  to-own j h =
      let (k, l, e) = some_below-at (λ k. bit (shared j) (8 - suc k)) 8 (sym (shared_some j) ∙ h) in
      let q : ℕ = 8 * j + k in
      let f = sym (shared_bit j k l) ∙ e in
      let (i, u, g) = some_below-at (λ i. eqb q (d + i * (n + 1))) n (sym (marked q) ∙ and_right (eqb (bit_at s (8 * b + q)) 1) (eqb (bit_at mask q) 1) f) in
      some_below_by (own_packed s (8 * b + d) n) n i u
      (ap (λ (x : ℕ). eqb (bit_at s x) 1) (omega (arith, eqb-true q (d + i * (n + 1)) g)) ∙ and_left (eqb (bit_at s (8 * b + q)) 1) (eqb (bit_at mask q) 1) f)

  from-own : (i : ℕ) → i < n → own_packed s (8 * b + d) n i ≡ true → some_below (masked_at s b mask) m ≡ true
  from-own i l h =
      let q : ℕ = d + i * (n + 1) in
      let j : ℕ = q / 8 in
      let k : ℕ = q % 8 in
      let e : 8 * j + k ≡ q = omega arith in
      let u : k < 8 = mod-lt q (lit< tt) in
      some_below_by (masked_at s b mask) m j (let o : q / 8 < m = omega (arith, within_rows n i l) in o)
      (shared_some j
      ∙ some_below_by (λ k. bit (shared j) (8 - suc k)) 8 k u
      (shared_bit j k u
      ∙ and_both (eqb (bit_at s (8 * b + (8 * j + k))) 1) (eqb (bit_at mask (8 * j + k)) 1)
      (ap (λ (x : ℕ). eqb (bit_at s x) 1) (omega arith) ∙ h)
      (ap (λ (x : ℕ). eqb (bit_at mask x) 1) e ∙ marked q ∙ some_below_by (λ k. eqb q (d + k * (n + 1))) n i l (eq-eqb q q refl))))

  pub masked-own : some_below (masked_at s b mask) m ≡ some_below (own_packed s (8 * b + d) n) n
  masked-own =
      tests_same (some_below (masked_at s b mask) m) (some_below (own_packed s (8 * b + d) n) n)
      (λ h. let t = some_below-at (masked_at s b mask) m h in to-own t.0 t.2)
      (λ h. let t = some_below-at (own_packed s (8 * b + d) n) n h in from-own t.0 t.1 t.2)

-- what is cut out, where it stood
cut_at : (s : List ℕ) (b m j : ℕ) → j < m → get_or (take m (drop b s)) j 0 ≡ get_or s (b + j) 0
cut_at s b m j l = rw (get_or-take, get_or-drop)

-- bytes that are cut out are bytes
cut_bytes : (s : List ℕ) (b m : ℕ) → ((q : ℕ) → get_or s q 0 < 256) → (q : ℕ) → get_or (take m (drop b s)) q 0 < 256
cut_bytes s b m bytes q = go (dec_lt q (length (take m (drop b s))))
  where
    go : Dec (q < length (take m (drop b s))) → get_or (take m (drop b s)) q 0 < 256
    go (yes l) =
        let h : q < m = omega (arith, length-take m (drop b s)) in
        rw (cut_at s b m q h) (bytes (b + q))
    go (no h) = rw (get_or_past (take m (drop b s)) q 0 (omega (arith, h))) (lit< tt)

-- such bytes, cut out of a recording, have a bit of the mask exactly where an own bit of the round is 1
pub slice-own : (s mask : List ℕ) (b m d n : ℕ) → ((q : ℕ) → get_or s q 0 < 256) → OwnMask mask d n n → d + n * n ≤ 8 * length (take m (drop b s))
    → some_below (both (take m (drop b s)) mask) (8 * length (take m (drop b s))) ≡ some_below (own_packed s (8 * b + d) n) n
slice-own s mask b m d n bytes marked covers =
    sym (masked-bits (take m (drop b s)) mask (length (take m (drop b s))) (cut_bytes s b m bytes))
    ∙ some_ext (masked (take m (drop b s)) mask) (masked_at s b mask) (length (take m (drop b s)))
    (λ j l. ap (λ (x : ℕ). not (eqb (bit_and x (get_or mask j 0)) 0)) (cut_at s b m j (omega (arith, l, length-take m (drop b s)))))
    ∙ masked-own s mask b (length (take m (drop b s))) d n bytes marked covers
