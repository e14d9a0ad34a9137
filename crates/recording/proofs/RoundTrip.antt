-- Reading gives back what was written, and writing what was read.
use mathlib.Core.Path.{◌≡◌, ap, ap₂, sym, ◌∙◌}
use mathlib.Core.Bool.{false}
use mathlib.Core.List.{List}
use Prim.Native.Nat.{ℕ, ◌+◌, ◌*◌, ◌-◌, ◌/◌, ◌%◌, ◌^◌, ◌≤◌, ◌<◌}
use native.Mathlib.Nat.{div-lt_iff_lt-mul, div-add-mod', mod-lt}
use native.Mathlib.Decide.{dec_lt}
use native.Mathlib.Omega.{arith}
use lib.ListN.{length, get_or}
use Rattle.std.specs.Prelude.{Ok}
use Rattle.basics.specs.Bits.{digit}
use Rattle.basics.specs.Lists.{tab}
use Rattle.basics.proofs.Laws.{length-tab, get_or-tab, tab_ext, tab-get_or}
use Rattle.recording.specs.Packed.{bit_at, num_at, row_at, trucks_of, rounds_of, header_bits, opening_place, opening_at, openings_of, word_place, word_at, words_of, bits_for, bytes_for, pack_bit, packed, opening_bit, round_bit}
use Rattle.recording.specs.Checks.{own_bit, check_of, plain_check}
use Rattle.bitreader.proofs.Digits.{bit_at_lt, num_at_is, num_at-lt, num_at-digit, row_at_is, row_at-lt, row_at-digit}
use Rattle.recording.proofs.Accepted.{GoodOpenings, GoodRounds, GoodPlain, GoodFrame, GoodBytes, plain-good, good-plain, bytes_good, good-bytes}
use Rattle.recording.proofs.OwnLoss.{own_ext}
use Rattle.recording.proofs.Packing.{length-pack, pack_ext, bit_at-pack, pack-bit_at, bits_flat, bytes_enough, word_ends, bit-trucks, bit_rounds, bit-openings, bit-words, bit_end, bit-opening, bit_word, pack_bit-lt}

-- ---- reading what was written
module _ (n R : ℕ) (openings words : List ℕ) (good : GoodPlain n R openings words) where
  written : List ℕ
  written = packed n R openings words

  bit-back : (p : ℕ) → p < 8 * bytes_for n R → bit_at written p ≡ pack_bit n R openings words p
  unfolding written packed
  bit-back p h = bit_at-pack (pack_bit n R openings words) (pack_bit-lt n R openings words) (bytes_for n R) p h

  fits : (p : ℕ) → p < bits_for n R → p < 8 * bytes_for n R
  fits p h = omega (arith, (bytes_enough n R).0)

  pub trucks-back : trucks_of (packed n R openings words) ≡ n
  unfolding trucks_of written
  trucks-back =
      num_at_is (bit_at written) (bit_at_lt written) 0 6 n (omega (arith, good.most))
      (λ i l.
      bit-back (0 + i) (fits (0 + i) (omega (arith, bits_flat n R)))
      ∙ bit-trucks n R openings words (0 + i) (omega arith)
      ∙ ap (digit n) (omega arith))

  pub rounds_back : rounds_of (packed n R openings words) ≡ R
  unfolding rounds_of written
  rounds_back =
      num_at_is (bit_at written) (bit_at_lt written) 6 10 R (omega (arith, good.rounds))
      (λ i l.
      bit-back (6 + i) (fits (6 + i) (omega (arith, bits_flat n R)))
      ∙ bit_rounds n R openings words (6 + i) (omega arith) (omega arith)
      ∙ ap (digit R) (omega arith))

  pub opening-back : (i : ℕ) → i < n → opening_at (packed n R openings words) i ≡ get_or openings i 0
  unfolding opening_at written
  opening-back i h =
      num_at_is (bit_at written) (bit_at_lt written) (opening_place i) 4 (get_or openings i 0)
      (omega (arith, good.openings-good.opening i h))
      (λ j l.
      bit-back (opening_place i + j) (fits (opening_place i + j) (omega (arith, bits_flat n R)))
      ∙ bit-opening n R openings words i j h l)

  pub openings-back : openings_of (packed n R openings words) ≡ openings
  unfolding openings_of written
  openings-back =
      ap (tab (opening_at written)) trucks-back
      ∙ tab_ext (opening_at written) (λ k. get_or openings k 0) n opening-back
      ∙ tab-get_or 0 openings n good.openings-good.count

  pub word_back : (w : ℕ) → w < R * (3 + n) → word_at (packed n R openings words) w ≡ get_or words w 0
  unfolding word_at written
  word_back w h =
      ap (λ (k : ℕ). row_at (bit_at written) (word_place k w) k) trucks-back
      ∙ row_at_is (bit_at written) (bit_at_lt written) (word_place n w) n (get_or words w 0) (good.rounds_good.word w h)
      (λ i l. bit-back (word_place n w + i) (fits (word_place n w + i) (word_ends n R w i h l)) ∙ bit_word n R openings words w i h l)

  pub words_back : words_of (packed n R openings words) ≡ words
  unfolding words_of written
  words_back =
      ap₂ (λ (r k : ℕ). tab (word_at written) (r * (3 + k))) rounds_back trucks-back
      ∙ tab_ext (word_at written) (λ k. get_or words k 0) (R * (3 + n)) word_back
      ∙ tab-get_or 0 words (R * (3 + n)) good.rounds_good.count

  size_back : length written ≡ bytes_for n R
  unfolding written packed
  size_back = length-pack (pack_bit n R openings words) (bytes_for n R)

  pub good-back : GoodBytes (packed n R openings words)
  unfolding written
  good-back =
      record {
        frame = record {
          long = omega (arith, size_back, (bytes_enough n R).0, bits_flat n R);
          some = rw trucks-back good.some;
          most = rw trucks-back good.most;
          rounds = rw rounds_back good.rounds;
          size = size_back ∙ sym (ap₂ bytes_for trucks-back rounds_back);
          ends = λ p l h.
              let o : p < 8 * bytes_for n R = omega (arith, size_back) in
              bit-back p o ∙ bit_end n R openings words p (omega (arith, ap₂ bits_for trucks-back rounds_back));
        };
        own = λ r i l u.
            let o : r < R = omega (arith, rounds_back) in
            let v : i < n = omega (arith, trucks-back) in
            ap (λ (a : ℕ). own_bit (word_at written) a r i) trucks-back
            ∙ own_ext (word_at written) (λ w. get_or words w 0) n R word_back r i o v
            ∙ good.rounds_good.own r i o v;
      }

-- what is written for accepted openings and words is accepted, and reads as them
pub read_back : (n R : ℕ) (openings words : List ℕ) → plain_check n R openings words ≡ Ok tt
    → (check_of (packed n R openings words) ≡ Ok tt)
    × (trucks_of (packed n R openings words) ≡ n)
    × (rounds_of (packed n R openings words) ≡ R)
    × (openings_of (packed n R openings words) ≡ openings)
    × (words_of (packed n R openings words) ≡ words)
read_back n R openings words h =
    let g : GoodPlain n R openings words = plain-good n R openings words h in
    (good-bytes (packed n R openings words) (good-back n R openings words g), trucks-back n R openings words g, rounds_back n R openings words g, openings-back n R openings words g, words_back n R openings words g)

-- ---- writing what was read
-- every recording's openings are n crushers
pub openings-read : (s : List ℕ) → GoodOpenings (trucks_of s) (openings_of s)
unfolding openings_of opening_at
openings-read s =
    record {
      count = length-tab (opening_at s) (trucks_of s);
      opening = λ i h.
          rw (get_or-tab (opening_at s) (trucks_of s) i 0 h)
          (let l : num_at (bit_at s) (opening_place i) 4 < 16 = num_at-lt (bit_at s) (bit_at_lt s) (opening_place i) 4 in omega arith);
    }

module _ (s : List ℕ) where
  n : ℕ
  n = trucks_of s

  R : ℕ
  R = rounds_of s

  pub word_lt : (w : ℕ) → word_at s w < 2 ^ trucks_of s
  unfolding word_at
  word_lt w = row_at-lt (bit_at s) (bit_at_lt s) (word_place (trucks_of s) w) (trucks_of s)

  pub word_read : (w : ℕ) → w < rounds_of s * (3 + trucks_of s) → get_or (words_of s) w 0 ≡ word_at s w
  unfolding words_of
  word_read w h = get_or-tab (word_at s) (rounds_of s * (3 + trucks_of s)) w 0 h

  words-read : ((r i : ℕ) → r < rounds_of s → i < trucks_of s → own_bit (word_at s) (trucks_of s) r i ≡ false) → GoodRounds (trucks_of s) (rounds_of s) (words_of s)
  unfolding words_of
  words-read own =
      record {
        count = length-tab (word_at s) (rounds_of s * (3 + trucks_of s));
        word = λ w h. rw (word_read w h) (word_lt w);
        own = λ r i l u. own_ext (λ w. get_or (words_of s) w 0) (word_at s) (trucks_of s) (rounds_of s) word_read r i l u ∙ own r i l u;
      }

  pub plain-read : GoodBytes s → GoodPlain (trucks_of s) (rounds_of s) (openings_of s) (words_of s)
  plain-read b =
      record {
        some = b.frame.some;
        most = b.frame.most;
        rounds = b.frame.rounds;
        openings-good = openings-read s;
        rounds_good = words-read b.own;
      }

  -- each bit of the packed form is the bit that was read
  digit-trucks : (p : ℕ) → p < 6 → digit (trucks_of s) (5 - p) ≡ bit_at s p
  unfolding trucks_of
  digit-trucks p h = num_at-digit (bit_at s) (bit_at_lt s) 0 6 (5 - p) (omega arith) ∙ ap (bit_at s) (omega arith)

  digit_rounds : (p : ℕ) → 6 ≤ p → p < header_bits → digit (rounds_of s) (15 - p) ≡ bit_at s p
  unfolding rounds_of
  digit_rounds p l h = num_at-digit (bit_at s) (bit_at_lt s) 6 10 (15 - p) (omega arith) ∙ ap (bit_at s) (omega arith)

  digit-openings : (p : ℕ) → header_bits ≤ p → p < opening_place (trucks_of s) → opening_bit (openings_of s) (p - header_bits) ≡ bit_at s p
  unfolding opening_bit openings_of opening_at
  digit-openings p l h =
      let o : ℕ = (p - header_bits) / 4 in
      ap (λ (a : ℕ). digit a (3 - (p - header_bits) % 4)) (get_or-tab (opening_at s) (trucks_of s) o 0 (omega arith))
      ∙ num_at-digit (bit_at s) (bit_at_lt s) (opening_place o) 4 (3 - (p - header_bits) % 4) (omega arith)
      ∙ ap (bit_at s) (omega arith)

  digit-words : 0 < trucks_of s → (p : ℕ) → opening_place (trucks_of s) ≤ p → p < bits_for (trucks_of s) (rounds_of s)
      → round_bit (trucks_of s) (words_of s) (p - opening_place (trucks_of s)) ≡ bit_at s p
  unfolding round_bit word_at n R
  digit-words z p l h =
      let q : ℕ = p - opening_place n in
      let e : q < R * (3 + n) * n = omega (arith, bits_flat n R) in
      let d : q / n * n + q % n ≡ q = div-add-mod' q n in
      ap (λ (a : ℕ). digit a (q % n)) (word_read (q / n) ((div-lt_iff_lt-mul z).1 e))
      ∙ row_at-digit (bit_at s) (bit_at_lt s) (word_place n (q / n)) n (q % n) (mod-lt q z)
      ∙ ap (bit_at s) (omega arith)

  bit-same : GoodFrame s → (p : ℕ) → p < 8 * bytes_for (trucks_of s) (rounds_of s)
      → pack_bit (trucks_of s) (rounds_of s) (openings_of s) (words_of s) p ≡ bit_at s p
  unfolding n R
  bit-same b p h = go (dec_lt p 6) (dec_lt p header_bits) (dec_lt p (opening_place n)) (dec_lt p (bits_for n R))
    where
      os : List ℕ
      os = openings_of s

      ws : List ℕ
      ws = words_of s

      go : Dec (p < 6) → Dec (p < header_bits) → Dec (p < opening_place n) → Dec (p < bits_for n R) → pack_bit n R os ws p ≡ bit_at s p
      go (yes a) d₂ d₃ d₄ = bit-trucks n R os ws p a ∙ digit-trucks p a
      go (no a) (yes c) d₃ d₄ = bit_rounds n R os ws p (omega arith) c ∙ digit_rounds p (omega arith) c
      go (no a) (no c) (yes d) d₄ = bit-openings n R os ws p (omega arith) d ∙ digit-openings p (omega arith) d
      go (no a) (no c) (no d) (yes e) = bit-words n R os ws p (omega arith) e ∙ digit-words b.some p (omega arith) e
      go (no a) (no c) (no d) (no e) = bit_end n R os ws p (omega arith) ∙ sym (b.ends p (omega arith) (omega (arith, b.size)))

  pub packed-same : GoodFrame s → ((q : ℕ) → q < length s → get_or s q 0 < 256) → packed (trucks_of s) (rounds_of s) (openings_of s) (words_of s) ≡ s
  unfolding packed n R
  packed-same b h =
      pack_ext (pack_bit n R (openings_of s) (words_of s)) (bit_at s) (bytes_for n R) (bit-same b)
      ∙ pack-bit_at s (bytes_for n R) b.size (λ q l. h q (omega (arith, b.size)))

-- what is read of an accepted recording is accepted for writing, and is written as the same bytes
pub write_back : (s : List ℕ) → ((q : ℕ) → q < length s → get_or s q 0 < 256) → check_of s ≡ Ok tt
    → (plain_check (trucks_of s) (rounds_of s) (openings_of s) (words_of s) ≡ Ok tt)
    × (packed (trucks_of s) (rounds_of s) (openings_of s) (words_of s) ≡ s)
write_back s bytes h =
    let b : GoodBytes s = bytes_good s h in
    (good-plain (trucks_of s) (rounds_of s) (openings_of s) (words_of s) (plain-read s b), packed-same s b.frame bytes)
