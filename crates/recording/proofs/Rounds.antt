-- Each round of a recording is read as its words; a recording made of accepted rounds is accepted, and gives each of them back.
use mathlib.Core.Path.{◌≡◌, ap, ap₂, sym, ◌∙◌}
use mathlib.Core.Bool.{false}
use mathlib.Core.List.{List, [], ◌∷◌, ◌++◌}
use Prim.Native.Nat.{ℕ, zero, suc, ◌+◌, ◌*◌, ◌/◌, ◌%◌, ◌^◌, ◌≤◌, ◌<◌, min}
use native.Mathlib.Nat.{min-eq_left, div-lt_iff_lt-mul, div-add-mod', mod-lt}
use native.Mathlib.Omega.{arith}
use lib.Arith.{digits_lt}
use lib.ListN.{length, get_or, length-append, get_or-append}
use lib.Seq.{ext_get_or, get_or-append-add}
use Rattle.std.specs.Prelude.{Ok}
use Rattle.basics.specs.Bits.{bit}
use Rattle.basics.proofs.Laws.{length-tab, get_or-tab}
use Rattle.recording.specs.Packed.{bit_at, row_at, trucks_of, rounds_of, word_place, word_at, words_of, round_at, packed, joined}
use Rattle.recording.specs.Checks.{own_bit, bad_openings, round_check, plain_check}
use Rattle.recording.proofs.Accepted.{GoodRounds, GoodPlain, good-plain, rounds_good, openings_in}
use Rattle.recording.proofs.RoundTrip.{word_read, trucks-back, rounds_back, words_back}

-- ---- one round
pub record GoodRound (n : ℕ) (words : List ℕ) : Type 0 where
  pub count : length words ≡ 3 + n
  pub word : (w : ℕ) → w < 3 + n → get_or words w 0 < 2 ^ n
  pub own : (i : ℕ) → i < n → bit (get_or words (3 + i) 0) i ≡ false

pub round-good : (n k : ℕ) (words : List ℕ) → round_check n k words ≡ Ok tt → GoodRound n words
unfolding round_check own_bit
round-good n k words h =
    let g : GoodRounds n 1 words = rounds_good n k 1 words h in
    record {
      count = omega (arith, g.count);
      word = λ w l. g.word w (omega arith);
      own = λ i l.
          ap (λ (w : ℕ). bit (get_or words w 0) i) (let e : 3 + i ≡ 0 * (3 + n) + (3 + i) = omega arith in e)
          ∙ g.own 0 i (omega arith) l;
    }

module _ (s : List ℕ) where
  pub length-round : (k : ℕ) → length (round_at s k) ≡ 3 + trucks_of s
  unfolding round_at
  length-round k = length-tab (λ w. word_at s (k * (3 + trucks_of s) + w)) (3 + trucks_of s)

  pub word_round : (k w : ℕ) → w < 3 + trucks_of s → get_or (round_at s k) w 0 ≡ word_at s (k * (3 + trucks_of s) + w)
  unfolding round_at
  word_round k w h = get_or-tab (λ i. word_at s (k * (3 + trucks_of s) + i)) (3 + trucks_of s) w 0 h

-- ---- words by their places
-- what is read at the place of word w is word w
pub word_there : (s : List ℕ) (n w at v : ℕ) → n ≡ trucks_of s → n ≤ 32 → at ≡ word_place n w → v ≡ row_at (bit_at s) at (min n 32) → v ≡ word_at s w
unfolding word_at
word_there s n w at v e h p r =
    r
    ∙ ap₂ (λ (q k : ℕ). row_at (bit_at s) q k) p (min-eq_left h)
    ∙ ap (λ (k : ℕ). row_at (bit_at s) (word_place k w) k) e

-- ---- rounds one after the other
pub length-joined : (m : ℕ) (rs : List (List ℕ)) → ((k : ℕ) → k < length rs → length (get_or rs k []) ≡ m) → length (joined rs) ≡ length rs * m
unfolding joined
length-joined m [] h = omega arith
length-joined m (r ∷ rs) h =
    length-append r (joined rs) ∙ omega (arith, h 0 (omega arith), length-joined m rs (λ k l. h (suc k) (omega arith)))

pub get_or-joined : (m : ℕ) (rs : List (List ℕ)) → ((k : ℕ) → k < length rs → length (get_or rs k []) ≡ m) → (k w : ℕ) → k < length rs → w < m
    → get_or (joined rs) (k * m + w) 0 ≡ get_or (get_or rs k []) w 0
unfolding joined
get_or-joined m [] h k w l u = absurd (omega arith)
get_or-joined m (r ∷ rs) h zero w l u =
    ap (λ (i : ℕ). get_or (r ++ joined rs) i 0) (let e : 0 * m + w ≡ w = omega arith in e)
    ∙ get_or-append r (joined rs) 0 w (omega (arith, h 0 (omega arith)))
get_or-joined m (r ∷ rs) h (suc k) w l u =
    ap (λ (i : ℕ). get_or (r ++ joined rs) i 0) (let e : suc k * m + w ≡ length r + (k * m + w) = omega (arith, h 0 (omega arith)) in e)
    ∙ get_or-append-add r (joined rs) (k * m + w) 0
    ∙ get_or-joined m rs (λ i o. h (suc i) (omega arith)) k w (omega arith) u

-- ---- a recording of accepted rounds
module _ (n : ℕ) (rs : List (List ℕ)) (good : (k : ℕ) → k < length rs → GoodRound n (get_or rs k [])) where
  long : (k : ℕ) → k < length rs → length (get_or rs k []) ≡ 3 + n
  long k l = (good k l).count

  pub joined-good : GoodRounds n (length rs) (joined rs)
  unfolding own_bit
  joined-good =
      let m : ℕ = 3 + n in
      record {
        count = length-joined m rs long;
        word = λ w l.
            let z : 0 < m = omega arith in
            let q : w / m < length rs = (div-lt_iff_lt-mul z).1 l in
            let i : w % m < m = mod-lt w z in
            let e : get_or (joined rs) w 0 ≡ get_or (get_or rs (w / m) []) (w % m) 0
            = ap (λ (j : ℕ). get_or (joined rs) j 0) (sym (div-add-mod' w m)) ∙ get_or-joined m rs long (w / m) (w % m) q i in
            rw e ((good (w / m) q).word (w % m) i);
        own = λ r i l u.
            ap (λ (w : ℕ). bit w i) (get_or-joined m rs long r (3 + i) l (omega arith)) ∙ (good r l).own i u;
      }

  module _ (openings : List ℕ) (some : 0 < n) (most : n ≤ 32) (fewer : length rs ≤ 400) (crushers : bad_openings n openings ≡ false) where
    all-good : GoodPlain n (length rs) openings (joined rs)
    all-good = record { some = some; most = most; rounds = fewer; openings-good = openings_in n openings crushers; rounds_good = joined-good }

    -- openings and accepted rounds are accepted for writing
    pub joined-accepted : plain_check n (length rs) openings (joined rs) ≡ Ok tt
    joined-accepted = good-plain n (length rs) openings (joined rs) all-good

    -- and each round is read back as it was
    pub round-back : (k : ℕ) → k < length rs → round_at (packed n (length rs) openings (joined rs)) k ≡ get_or rs k []
    round-back k l =
        let m : ℕ = 3 + n in
        let s : List ℕ = packed n (length rs) openings (joined rs) in
        let t : trucks_of s ≡ n = trucks-back n (length rs) openings (joined rs) all-good in
        let r : rounds_of s ≡ length rs = rounds_back n (length rs) openings (joined rs) all-good in
        let ws : words_of s ≡ joined rs = words_back n (length rs) openings (joined rs) all-good in
        let e : length (round_at s k) ≡ m = length-round s k ∙ ap (λ (a : ℕ). 3 + a) t in
        ext_get_or 0 (round_at s k) (get_or rs k []) (e ∙ sym (long k l))
        (λ w u.
        let i : w < m = omega arith in
        let j : k * m + w < rounds_of s * (3 + trucks_of s) = rw (r, t) (digits_lt l i) in
        word_round s k w (omega (arith, t))
        ∙ ap (λ (a : ℕ). word_at s (k * (3 + a) + w)) t
        ∙ sym (word_read s (k * m + w) j)
        ∙ ap (λ (a : List ℕ). get_or a (k * m + w) 0) ws
        ∙ get_or-joined m rs long k w l i)
