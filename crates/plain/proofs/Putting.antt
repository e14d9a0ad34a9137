-- Bits put out four bytes at a time fill the buffer with the bytes of those bits.
use mathlib.Core.Path.{◌≡◌, refl, ap, ap₂, sym, ◌∙◌}
use mathlib.Core.List.{List, [], ◌∷◌, ◌++◌, append_assoc}
use Prim.Native.Nat.{ℕ, zero, suc, ◌+◌, ◌*◌, ◌-◌, ◌/◌, ◌%◌, ◌^◌, ◌≤◌, ◌<◌}
use native.Mathlib.Nat.{add-zero, div-one, mod-lt, mod-eq_of_lt}
use native.Mathlib.Numerals.{add-one}
use native.Mathlib.Omega.{arith}
use lib.Arith.{digits_lt}
use borrow.Rule.Slice.PartMut.{put_mid}
use lib.ListN.{length, set, take, drop}
use lib.Seq.{drop-drop}
use lib.Pow.{pow_pos, pow-add, mod-pow-add, mod-mod-pow, field, high, low, shl-shr, shr-shr}
use Rattle.std.specs.Int.{w32, to_be_bytes}
use Rattle.std.proofs.lemmas.List.Edits.{sets-eq}
use Rattle.basics.specs.Lists.{filled}
use Rattle.basics.proofs.Laws.{filled_none, filled_more, length-filled}
use Rattle.bitreader.proofs.Digits.{num_at-add, num_at-part, num_at-lt}
use Rattle.recording.specs.Packed.{num_at}
use Rattle.plain.specs.Steps.{over, byte_of, added, BitsPut}

-- ---- the buffer
module _ (g : ℕ → ℕ) (i : ℕ) where
  pub over_none : (d : List ℕ) → d ≡ over g i 0 d
  unfolding over
  over_none d = refl

  pub over_step : (m : ℕ) (d l : List ℕ) → l ≡ over g i m d → set l (i + m) (g m) ≡ over g i (m + 1) d
  unfolding over
  over_step m d l e = ap (λ (x : List ℕ). set x (i + m) (g m)) e ∙ ap (λ (k : ℕ). over g i k d) (sym (add-one m))

  -- bytes that agree
  pub over_ext : (g' : ℕ → ℕ) (m : ℕ) (d : List ℕ) → ((j : ℕ) → j < m → g j ≡ g' j) → over g i m d ≡ over g' i m d
  unfolding over
  over_ext g' zero d e = refl
  over_ext g' (suc m) d e = ap₂ (λ (l : List ℕ) (x : ℕ). set l (i + m) x) (over_ext g' m d (λ j l. e j (omega arith))) (e m (omega arith))

  -- bytes put behind a part that is filled
  over-filled : (G : ℕ → ℕ) (d : List ℕ) (m : ℕ) → i + m ≤ length d → ((j : ℕ) → j < m → g j ≡ G (i + j)) → over g i m (filled G i d) ≡ filled G (i + m) d
  unfolding over
  over-filled G d zero h e = ap (λ (k : ℕ). filled G k d) (sym (add-zero i))
  over-filled G d (suc m) h e =
      ap (λ (l : List ℕ). set l (i + m) (g m)) (over-filled G d m (omega arith) (λ j l. e j (omega arith)))
      ∙ filled_more G (i + m) d (g m) (omega arith) (e m (omega arith))
      ∙ ap (λ (k : ℕ). filled G k d) (let o : suc (i + m) ≡ i + suc m = omega arith in o)

-- four bytes put at once
module _ (at : ℕ) (d : List ℕ) (room : at + 4 ≤ length d) where
  over-four : (g : ℕ → ℕ) → take at d ++ ((g 0 ∷ g 1 ∷ g 2 ∷ g 3 ∷ []) ++ drop (at + 4) d) ≡ over g at 4 d
  unfolding over
  over-four g =
      let stored : ℕ → ℕ → ℕ → ℕ → List ℕ = λ i j k l. set (set (set (set d i (g 0)) j (g 1)) k (g 2)) l (g 3) in
      sym (append_assoc (take at d) (g 0 ∷ g 1 ∷ g 2 ∷ g 3 ∷ []) (drop (at + 4) d))
      ∙ sym (sets-eq (g 0 ∷ g 1 ∷ g 2 ∷ g 3 ∷ []) d at room)
      ∙ ap₂ (λ (i j : ℕ). stored i j (suc (suc at)) (suc (suc (suc at)))) (sym (add-zero at)) (let o : suc at ≡ at + 1 = omega arith in o)
      ∙ ap₂ (λ (k l : ℕ). stored (at + 0) (at + 1) k l) (let o : suc (suc at) ≡ at + 2 = omega arith in o) (let o : suc (suc (suc at)) ≡ at + 3 = omega arith in o)

  pub four_put : (v k : ℕ) (bytes : List ℕ) → k ≡ 4 → bytes ≡ to_be_bytes w32 v → put_mid at k d bytes ≡ over (byte_of v 32) at 4 d
  four_put v k bytes e h =
      ap₂ (λ (n : ℕ) (l : List ℕ). take at d ++ (l ++ drop n (drop at d))) e h
      ∙ ap₂ (λ (x : ℕ) (l : List ℕ). take at d ++ ((v / 2 ^ 24 % 256 ∷ v / 2 ^ 16 % 256 ∷ v / 2 ^ 8 % 256 ∷ x % 256 ∷ []) ++ l)) (sym (div-one v))
      (drop-drop 4 at d)
      ∙ over-four (byte_of v 32)

-- ---- the numbers
-- a shift loses the highest digits
shifted : (acc k : ℕ) → k ≤ 64 → acc * 2 ^ k % 2 ^ 64 ≡ acc % 2 ^ (64 - k) * 2 ^ k
shifted acc k h =
    ap (λ (j : ℕ). acc * 2 ^ k % 2 ^ j) (let o : 64 ≡ 64 - k + k = omega arith in o)
    ∙ mod-pow-add (acc * 2 ^ k) (64 - k) k
    ∙ ap₂ (λ (a b : ℕ). a % 2 ^ (64 - k) * 2 ^ k + b) (shl-shr acc k)
    (ap (λ (x : ℕ). x % 2 ^ k) (sym (add-zero (acc * 2 ^ k))) ∙ low acc k (pow_pos k))
    ∙ add-zero (acc % 2 ^ (64 - k) * 2 ^ k)

pub added-fits : (acc v k : ℕ) → k ≤ 64 → v < 2 ^ k → added acc v k < 2 ^ 64
added-fits acc v k h l =
    let e : 2 ^ (64 - k) * 2 ^ k ≡ 2 ^ 64 = sym (pow-add 2 (64 - k) k) ∙ ap (λ (j : ℕ). 2 ^ j) (let o : 64 - k + k ≡ 64 = omega arith in o) in
    omega (arith, shifted acc k h, digits_lt (mod-lt acc (pow_pos (64 - k))) l, e)

-- the digits that count
added_low : (acc have v k : ℕ) → have + k ≤ 64 → v < 2 ^ k → added acc v k % 2 ^ (have + k) ≡ acc % 2 ^ have * 2 ^ k + v
added_low acc have v k h l =
    let top : ℕ = acc % 2 ^ (64 - k) in
    ap (λ (x : ℕ). (x + v) % 2 ^ (have + k)) (shifted acc k (omega arith))
    ∙ mod-pow-add (top * 2 ^ k + v) have k
    ∙ ap₂ (λ (a b : ℕ). a % 2 ^ have * 2 ^ k + b) (high top k l) (low top k l)
    ∙ ap (λ (a : ℕ). a * 2 ^ k + v)
    (ap (λ (j : ℕ). acc % 2 ^ j % 2 ^ have) (let o : 64 - k ≡ 64 - k - have + have = omega arith in o) ∙ mod-mod-pow acc (64 - k - have) have)

-- a byte of the first h digits does not see what stands above
byte_low : (x h j : ℕ) → j < h / 8 → byte_of (x % 2 ^ h) h j ≡ byte_of x h j
byte_low x h j l =
    let past : ℕ = h - 8 * (j + 1) in
    ap (λ (k : ℕ). x % 2 ^ k / 2 ^ past % 256) (let o : h ≡ 8 * j + 8 + past = omega arith in o)
    ∙ ap (λ (y : ℕ). y % 256) (field x (8 * j + 8) past)
    ∙ mod-mod-pow (x / 2 ^ past) (8 * j) 8

-- the first four bytes, as a number of 32 digits
pub four_bytes : (x h j : ℕ) → 32 ≤ h → j < 4 → byte_of (x / 2 ^ (h - 32) % 2 ^ 32) 32 j ≡ byte_of x h j
four_bytes x h j g l =
    byte_low (x / 2 ^ (h - 32)) 32 j (omega arith)
    ∙ ap (λ (y : ℕ). y % 256) (shr-shr x (h - 32) (32 - 8 * (j + 1)) ∙ ap (λ (k : ℕ). x / 2 ^ k) (omega arith))

-- ---- digits that are bits of f, from byte `at` on
module _ (f : ℕ → ℕ) (bits : (i : ℕ) → f i < 2) (at h x : ℕ) (digits : x % 2 ^ h ≡ num_at f (8 * at) h) where
  byte_bits : (j : ℕ) → j < h / 8 → byte_of x h j ≡ num_at f (8 * (at + j)) 8
  byte_bits j l =
      let past : ℕ = h - 8 * (j + 1) in
      sym (byte_low x h j l)
      ∙ ap (λ (y : ℕ). y / 2 ^ past % 256) (digits ∙ ap (num_at f (8 * at)) (let o : h ≡ 8 * j + 8 + past = omega arith in o))
      ∙ num_at-part f bits (8 * at) (8 * j) 8 past
      ∙ ap (λ (p : ℕ). num_at f p 8) (omega arith)

  -- the bytes that are put out
  bytes_bits : (m : ℕ) (d buf buf' : List ℕ) → m ≤ h / 8 → at + m ≤ length d → buf ≡ filled (λ q. num_at f (8 * q) 8) at d → buf' ≡ over (byte_of x h) at m buf
      → buf' ≡ filled (λ q. num_at f (8 * q) 8) (at + m) d
  bytes_bits m d buf buf' l room b e =
      e
      ∙ ap (over (byte_of x h) at m) b
      ∙ over-filled (byte_of x h) at (λ q. num_at f (8 * q) 8) d m room (λ j o. byte_bits j (omega arith))

  -- and what is left
  rest-bits : x % 2 ^ (h % 32) ≡ num_at f (8 * (at + 4 * (h / 32))) (h % 32)
  rest-bits =
      let full : ℕ = 32 * (h / 32) in
      let rest : ℕ = h % 32 in
      let o : h ≡ full + rest = omega arith in
      sym (mod-mod-pow x full rest)
      ∙ ap (λ (k : ℕ). x % 2 ^ k % 2 ^ rest) (sym o)
      ∙ ap (λ (y : ℕ). y % 2 ^ rest) (digits ∙ ap (num_at f (8 * at)) o ∙ num_at-add f (8 * at) full rest)
      ∙ low (num_at f (8 * at) full) rest (num_at-lt f bits (8 * at + full) rest)
      ∙ ap (λ (p : ℕ). num_at f p rest) (omega arith)

-- ---- the bits put out so far
pub bits-put-first : (f : ℕ → ℕ) → ((i : ℕ) → f i < 2) → (k v : ℕ) (d : List ℕ) → k < 32 → v ≡ num_at f 0 k → BitsPut f k 0 k v d d
bits-put-first f bits k v d h e =
    record {
      bytes = omega arith;
      left = omega arith;
      number = mod-eq_of_lt (let o : v < 2 ^ k = omega (arith, num_at-lt f bits 0 k) in o) ∙ e;
      buffer = sym (filled_none (λ q. num_at f (8 * q) 8) d);
    }

-- the place under another name
pub bits-put-at : (f : ℕ → ℕ) (a b at have acc : ℕ) (d buf : List ℕ) → a ≡ b → BitsPut f a at have acc d buf → BitsPut f b at have acc d buf
bits-put-at f a b at have acc d buf e p = rw e at p

module _ (f : ℕ → ℕ) (place at have acc : ℕ) (d buf : List ℕ) (sofar : BitsPut f place at have acc d buf) where
  pub bits-put-length : place ≤ 8 * length d → length buf ≡ length d
  bits-put-length h = ap length sofar.buffer ∙ length-filled (λ q. num_at f (8 * q) 8) at d (omega (arith, sofar.bytes))

  module _ (bits : (i : ℕ) → f i < 2) (v k : ℕ) (next : v ≡ num_at f place k) where
    digits-added : k ≤ 32 → added acc v k % 2 ^ (have + k) ≡ num_at f (8 * at) (have + k)
    digits-added h =
        let e : place ≡ 8 * at + have = omega (arith, sofar.bytes, sofar.left) in
        added_low acc have v k (omega (arith, sofar.left)) (omega (arith, num_at-lt f bits place k))
        ∙ ap₂ (λ (a b : ℕ). a * 2 ^ k + b) sofar.number (next ∙ ap (λ (p : ℕ). num_at f p k) e)
        ∙ sym (num_at-add f (8 * at) have k)

    -- the rest, up to the end of its last byte
    pub bits-put_end : k ≤ 32 → at + (have + k) / 8 ≤ length d → (buf' : List ℕ) → buf' ≡ over (byte_of (added acc v k) (have + k)) at ((have + k) / 8) buf
        → buf' ≡ filled (λ q. num_at f (8 * q) 8) (at + (have + k) / 8) d
    bits-put_end h room buf' e = bytes_bits f bits at (have + k) (added acc v k) (digits-added h) ((have + k) / 8) d buf buf' (omega arith) room sofar.buffer e

    module _ (room : place + k ≤ 8 * length d) (few : k ≤ 32) where
      -- what the next step asks
      pub bits-put-asks : (have < 32) × ((k ≤ 32) × ((v < 2 ^ k) × (at + 4 * ((have + k) / 32) ≤ length buf)))
      bits-put-asks =
          (omega (arith, sofar.left), (few, (omega (arith, num_at-lt f bits place k), omega (arith, sofar.bytes, sofar.left, bits-put-length (omega arith)))))

      -- and what it makes
      pub bits-put_more : (at' have' acc' : ℕ) (buf' : List ℕ) → buf' ≡ over (byte_of (added acc v k) (have + k)) at (4 * ((have + k) / 32)) buf
          → acc' ≡ added acc v k → have' ≡ (have + k) % 32 → at' ≡ at + 4 * ((have + k) / 32) → BitsPut f (place + k) at' have' acc' d buf'
      bits-put_more at' have' acc' buf' b a h t =
          let x : ℕ = added acc v k in
          let m : ℕ = 4 * ((have + k) / 32) in
          record {
            bytes = omega (arith, sofar.bytes, sofar.left);
            left = omega (arith, sofar.bytes, sofar.left);
            number = ap₂ (λ (y q : ℕ). y % 2 ^ q) a h ∙ rest-bits f bits at (have + k) x (digits-added few) ∙ ap₂ (λ (p q : ℕ). num_at f (8 * p) q) (sym t) (sym h);
            buffer = bytes_bits f bits at (have + k) x (digits-added few) m d buf buf' (omega arith) (omega (arith, sofar.bytes, sofar.left)) sofar.buffer b
                ∙ ap (λ (p : ℕ). filled (λ q. num_at f (8 * q) 8) p d) (sym t);
          }
