-- A packed bit is read where it was put, and bytes are what their bits pack to; the bits of the packed form, region by region.
use mathlib.Core.Path.{◌≡◌, ap, ap₂, sym, ◌∙◌}
use mathlib.Core.Bool.{Bool, true, false, cond}
use mathlib.Core.List.{List}
use Prim.Native.Nat.{ℕ, suc, ◌+◌, ◌*◌, ◌-◌, ◌/◌, ◌%◌, ◌≤◌, ◌<◌}
use native.Mathlib.Omega.{arith}
use borrow.Author.Tests.{lt-ltb, le-ltb}
use lib.Arith.{digits_lt, digits_div, digits_mod}
use lib.Dec.{lit<, ltb}
use lib.ListN.{length, get_or}
use lib.Seq.{ext_get_or}
use Rattle.basics.specs.Bits.{digit}
use Rattle.basics.specs.Lists.{tab}
use Rattle.basics.proofs.Laws.{length-tab, get_or-tab, tab_ext}
use Rattle.recording.specs.Packed.{bit_at, num_at, header_bits, opening_place, word_place, round_place, bits_for, bytes_for, pack, pack_bit, opening_bit, round_bit}
use Rattle.bitreader.proofs.Digits.{digit_lt, num_at-digit, num_at_ext, byte_is}

pub length-pack : (f : ℕ → ℕ) (m : ℕ) → length (pack f m) ≡ m
unfolding pack
length-pack f m = length-tab (λ q. num_at f (8 * q) 8) m

pub pack_ext : (f g : ℕ → ℕ) (m : ℕ) → ((p : ℕ) → p < 8 * m → f p ≡ g p) → pack f m ≡ pack g m
unfolding pack
pack_ext f g m h =
    tab_ext (λ q. num_at f (8 * q) 8) (λ q. num_at g (8 * q) 8) m (λ q l. num_at_ext f g (8 * q) (8 * q) 8 (λ i o. h (8 * q + i) (omega arith)))

-- a packed bit is read where it was put
pub bit_at-pack : (f : ℕ → ℕ) → ((i : ℕ) → f i < 2) → (m p : ℕ) → p < 8 * m → bit_at (pack f m) p ≡ f p
unfolding bit_at pack
bit_at-pack f bits m p h =
    ap (λ (b : ℕ). digit b (7 - p % 8)) (get_or-tab (λ q. num_at f (8 * q) 8) m (p / 8) 0 (omega arith))
    ∙ num_at-digit f bits (8 * (p / 8)) 8 (7 - p % 8) (omega arith)
    ∙ ap f (omega arith)

-- bytes are what their bits pack to
pub pack-bit_at : (s : List ℕ) (m : ℕ) → length s ≡ m → ((q : ℕ) → q < m → get_or s q 0 < 256) → pack (bit_at s) m ≡ s
unfolding pack
pack-bit_at s m e h =
    let g : ℕ → ℕ = λ q. num_at (bit_at s) (8 * q) 8 in
    ext_get_or 0 (tab g m) s (length-tab g m ∙ sym e)
    (λ q l.
    let o : q < m = omega (arith, length-tab g m) in
    get_or-tab g m q 0 o ∙ byte_is s q (h q o))

-- ---- sizes
pub bits_flat : (n R : ℕ) → bits_for n R ≡ round_place n R
unfolding bits_for
bits_flat n R = omega arith

pub bytes_enough : (n R : ℕ) → (bits_for n R ≤ 8 * bytes_for n R) × (8 * bytes_for n R < bits_for n R + 8)
unfolding bytes_for
bytes_enough n R = omega arith

-- the last bit of word w stands before the end
pub word_ends : (n R w i : ℕ) → w < R * (3 + n) → i < n → word_place n w + i < bits_for n R
word_ends n R w i h l =
    let m : w * n + i < R * (3 + n) * n = digits_lt h l in
    omega (arith, bits_flat n R)

module _ (n R : ℕ) (openings words : List ℕ) where
  -- ---- the regions
  pub bit-trucks : (p : ℕ) → p < 6 → pack_bit n R openings words p ≡ digit n (5 - p)
  unfolding pack_bit
  bit-trucks p h = rw (lt-ltb p 6 h)

  pub bit_rounds : (p : ℕ) → 6 ≤ p → p < header_bits → pack_bit n R openings words p ≡ digit R (15 - p)
  unfolding pack_bit
  bit_rounds p l h = rw (le-ltb p 6 l, lt-ltb p header_bits h)

  pub bit-openings : (p : ℕ) → header_bits ≤ p → p < opening_place n → pack_bit n R openings words p ≡ opening_bit openings (p - header_bits)
  unfolding pack_bit
  bit-openings p l h =
      rw (le-ltb p 6 (let o : 6 ≤ p = omega arith in o), le-ltb p header_bits l, lt-ltb p (opening_place n) h)

  pub bit-words : (p : ℕ) → opening_place n ≤ p → p < bits_for n R → pack_bit n R openings words p ≡ round_bit n words (p - opening_place n)
  unfolding pack_bit
  bit-words p l h =
      rw (le-ltb p 6 (let o : 6 ≤ p = omega arith in o), le-ltb p header_bits (let o : header_bits ≤ p = omega arith in o), le-ltb p (opening_place n) l, lt-ltb p (bits_for n R) h)

  pub bit_end : (p : ℕ) → bits_for n R ≤ p → pack_bit n R openings words p ≡ 0
  unfolding pack_bit
  bit_end p h =
      let l : opening_place n ≤ p = omega (arith, bits_flat n R) in
      rw (le-ltb p 6 (let o : 6 ≤ p = omega arith in o), le-ltb p header_bits (let o : header_bits ≤ p = omega arith in o), le-ltb p (opening_place n) l, le-ltb p (bits_for n R) h)

  -- bit i of opening j, and of word w
  pub bit-opening : (j i : ℕ) → j < n → i < 4 → pack_bit n R openings words (opening_place j + i) ≡ digit (get_or openings j 0) (4 - suc i)
  unfolding opening_bit
  bit-opening j i h l =
      bit-openings (opening_place j + i) (omega arith) (omega arith) ∙ ap₂ (λ (a b : ℕ). digit (get_or openings a 0) b) (omega arith) (omega arith)

  pub bit_word : (w i : ℕ) → w < R * (3 + n) → i < n → pack_bit n R openings words (word_place n w + i) ≡ digit (get_or words w 0) i
  unfolding round_bit
  bit_word w i h l =
      let p : ℕ = word_place n w + i in
      let q : p - opening_place n ≡ w * n + i = omega arith in
      bit-words p (omega arith) (word_ends n R w i h l)
      ∙ ap (λ (a : ℕ). digit (get_or words (a / n) 0) (a % n)) q
      ∙ ap₂ (λ (a b : ℕ). digit (get_or words a 0) b) (digits_div w l) (digits_mod w l)

  cond-lt : (b : Bool) (x y : ℕ) → x < 2 → y < 2 → cond b x y < 2
  cond-lt true x y p q = p
  cond-lt false x y p q = q

  pub pack_bit-lt : (p : ℕ) → pack_bit n R openings words p < 2
  unfolding pack_bit opening_bit round_bit
  pack_bit-lt p =
      let o : ℕ = p - header_bits in
      let q : ℕ = p - opening_place n in
      let w : ℕ = cond (ltb p (bits_for n R)) (round_bit n words q) 0 in
      let v : ℕ = cond (ltb p (opening_place n)) (opening_bit openings o) w in
      let u : ℕ = cond (ltb p header_bits) (digit R (15 - p)) v in
      let dw : w < 2 = cond-lt (ltb p (bits_for n R)) (round_bit n words q) 0 (digit_lt (get_or words (q / n) 0) (q % n)) (lit< tt) in
      let dv : v < 2 = cond-lt (ltb p (opening_place n)) (opening_bit openings o) w (digit_lt (get_or openings (o / 4) 0) (3 - o % 4)) dw in
      let du : u < 2 = cond-lt (ltb p header_bits) (digit R (15 - p)) v (digit_lt R (15 - p)) dv in
      cond-lt (ltb p 6) (digit n (5 - p)) u (digit_lt n (5 - p)) du
