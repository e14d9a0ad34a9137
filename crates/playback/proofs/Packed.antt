-- Rows and senders in the order in which a recording packs them, truck j at the bit worth 2 to the n - 1 - j, say what plain words say.
use mathlib.Core.Path.{◌≡◌, ap, ap₂, sym, fun_ext, ◌∙◌}
use mathlib.Core.Bool.{not, ◌&&◌}
use mathlib.Core.List.{List, map}
use Prim.Native.Nat.{ℕ, suc, ◌-◌, ◌^◌, ◌<◌}
use native.Mathlib.Omega.{arith}
use borrow.Author.Tests.{eqb-true}
use lib.Bits.{bit_and, bit_or, bit_xor, and_le_l, xor_lt}
use lib.Dec.{eqb}
use lib.ListN.{get_or, get_or-map}
use lib.Pow.{pow_pos}
use Rattle.basics.specs.Bits.{bit}
use Rattle.basics.specs.Lists.{first}
use Rattle.bitreader.specs.Bits.{mirrored}
use Rattle.bitreader.proofs.Digits.{mirrored-lt}
use Rattle.basics.proofs.Bits.{bit-and}
use Rattle.sets.proofs.Words.{same_bits}
use Rattle.sets.proofs.Mirror.{mirror_bit, mirror_and, mirror_or, mirror_xor, mirror_power, mirror_zero}
use Rattle.playback.specs.Sets.{heard_set, sent_here, was_heard, values_of}

-- words in plain order
abbrev pub plain_rows : ℕ → List ℕ → List ℕ
plain_rows n rows = map (mirrored n) rows

pub row_plain : (n : ℕ) (rows : List ℕ) (i : ℕ) → get_or (plain_rows n rows) i 0 ≡ mirrored n (get_or rows i 0)
row_plain n rows i =
    ap (get_or (plain_rows n rows) i) (sym (eqb-true (mirrored n 0) 0 (mirror_zero n 0 (pow_pos n)))) ∙ get_or-map (mirrored n) rows i 0

module _ (n : ℕ) where
  and-packed : (a x : ℕ) → bit_and (mirrored n a) x ≡ mirrored n (bit_and a (mirrored n x))
  and-packed a x =
      same_bits (bit_and (mirrored n a) x) (mirrored n (bit_and a (mirrored n x))) n (omega (arith, and_le_l (mirrored n a) x, mirrored-lt n a)) (mirrored-lt n (bit_and a (mirrored n x)))
      (λ j l.
      bit-and (mirrored n a) x j
      ∙ ap₂ ◌&&◌ (mirror_bit n a j l) (sym (mirror_bit n x (n - suc j) (omega arith) ∙ ap (bit x) (let e : n - suc (n - suc j) ≡ j = omega arith in e)))
      ∙ sym (mirror_bit n (bit_and a (mirrored n x)) j l ∙ bit-and a (mirrored n x) (n - suc j)))

  pub heard-packed : (senders row i : ℕ) → i < n → heard_set (mirrored n senders) row (n - suc i) ≡ mirrored n (heard_set senders (mirrored n row) i)
  unfolding heard_set
  heard-packed senders row i l =
      ap₂ (λ (x y : ℕ). bit_or (bit_xor (mirrored n senders) x) y) (and-packed senders row)
      (ap (bit_and (mirrored n senders)) (sym (mirror_power n i l)) ∙ sym (mirror_and n senders (2 ^ i)))
      ∙ ap (λ (x : ℕ). bit_or x (mirrored n (bit_and senders (2 ^ i)))) (sym (mirror_xor n senders (bit_and senders (mirrored n row))))
      ∙ sym (mirror_or n (bit_xor senders (bit_and senders (mirrored n row))) (bit_and senders (2 ^ i)))

  module _ (values : List ℕ) (heard e : ℕ) (below : heard < 2 ^ n) where
    abbrev plain : List ℕ
    plain = plain_rows n values

    here-packed : (c : ℕ) → sent_here values (mirrored n heard) c ≡ mirrored n (sent_here plain heard c)
    here-packed c = and-packed heard (get_or values c 0) ∙ ap (λ (x : ℕ). mirrored n (bit_and heard x)) (sym (row_plain n values c))

    here-below : (c : ℕ) → sent_here plain heard c < 2 ^ n
    here-below c = omega (arith, and_le_l heard (get_or plain c 0), below)

    was_packed : was_heard values (mirrored n heard) ≡ was_heard plain heard
    was_packed = fun_ext (λ c. ap (λ (x : ℕ). not (eqb x 0)) (here-packed c) ∙ ap not (mirror_zero n (sent_here plain heard c) (here-below c)))

    rest-packed : (c : ℕ) → eqb (bit_xor (mirrored n heard) (sent_here values (mirrored n heard) c)) 0 ≡ eqb (bit_xor heard (sent_here plain heard c)) 0
    rest-packed c =
        ap (λ (x : ℕ). eqb x 0) (ap (bit_xor (mirrored n heard)) (here-packed c) ∙ sym (mirror_xor n heard (sent_here plain heard c)))
        ∙ mirror_zero n (bit_xor heard (sent_here plain heard c)) (xor_lt n heard (sent_here plain heard c) below (here-below c))

    pub values-packed : values_of values (mirrored n heard) e ≡ values_of plain heard e
    unfolding values_of
    values-packed = rw (was_packed, rest-packed (first (was_heard plain heard) 16))
