-- An input is accepted exactly where each condition of a refusal fails: openings, rounds, plain form, and the bytes of a recording.
use mathlib.Core.Path.{◌≡◌, refl, ap, sym, ◌∙◌}
use mathlib.Core.Bool.{Bool, true, false, not}
use mathlib.Core.List.{List}
use Prim.Native.Nat.{ℕ, ◌+◌, ◌*◌, ◌-◌, ◌^◌, ◌≤◌, ◌<◌}
use native.Mathlib.Omega.{arith}
use borrow.Author.Tests.{ltb-false, leb-false, eqb-true, eqb-false, le-ltb, lt-leb, eq-eqb, ne_eqb, not-false}
use lib.Dec.{ltb, leb, eqb}
use lib.ListN.{length, get_or}
use Rattle.std.specs.Prelude.{Ok}
use Rattle.refusals.specs.declared.Refusal.TheVariants.{ShortRecording, TruckCount, RoundCount, RecordingLength, EndBit, OwnLoss, Record, PlainRound}
use Rattle.refusals.specs.Outcomes.{Outcome, refuse, and_then}
use Rattle.refusals.specs.Numbers.{outcome_number}
use Rattle.refusals.proofs.Outcomes.{refuse-false, refuse-rest, refuse-on, then-first, then_second, then-both}
use Rattle.basics.specs.Lists.{some_below}
use Rattle.basics.proofs.Laws.{or_left, or_right, or-none, some_below-none, none-some_below}
use Rattle.recording.specs.Packed.{bit_at, trucks_of, rounds_of, word_at, bits_for, bytes_for}
use Rattle.recording.specs.Checks.{too_short, bad_trucks, bad_rounds, bad_length, end_bit, own_bit, own_loss, own_round, own_truck, own_loss_check, bad_openings, bad_words, high_bit, frame_check, own_check, check_of, rounds_check, plain_check}
use Rattle.bitreader.proofs.Digits.{bit_at_lt}
use Rattle.recording.proofs.OwnLoss.{own-accepted, accepted-own}

-- ---- the conditions, one by one
pub trucks_in_lem : (n : ℕ) → bad_trucks n ≡ false → (0 < n) × (n ≤ 32)
unfolding bad_trucks
trucks_in_lem n h =
    let z : n ≡ 0 → ⊥ = eqb-false n 0 (or_left (eqb n 0) (ltb 32 n) h) in
    (omega arith, ltb-false 32 n (or_right (eqb n 0) (ltb 32 n) h))

pub in_trucks : (n : ℕ) → 0 < n → n ≤ 32 → bad_trucks n ≡ false
unfolding bad_trucks
in_trucks n a b = or-none (eqb n 0) (ltb 32 n) (ne_eqb n 0 (λ e. omega arith)) (le-ltb 32 n b)

pub rounds_in : (R : ℕ) → bad_rounds R ≡ false → R ≤ 400
unfolding bad_rounds
rounds_in R h = ltb-false 400 R h

pub in_rounds : (R : ℕ) → R ≤ 400 → bad_rounds R ≡ false
unfolding bad_rounds
in_rounds R h = le-ltb 400 R h

pub record GoodOpenings (n : ℕ) (openings : List ℕ) : Type 0 where
  pub count : length openings ≡ n
  pub opening : (i : ℕ) → i < n → get_or openings i 0 ≤ 15

module _ (n : ℕ) (openings : List ℕ) where
  wrong : Bool
  wrong = not (eqb (length openings) n)

  above : Bool
  above = some_below (λ i. ltb 15 (get_or openings i 0)) (length openings)

  pub openings_in : bad_openings n openings ≡ false → GoodOpenings n openings
  unfolding bad_openings wrong above
  openings_in h =
      let e : length openings ≡ n = eqb-true (length openings) n (not-false (eqb (length openings) n) (or_left wrong above h)) in
      record {
        count = e;
        opening = λ i l.
            ltb-false 15 (get_or openings i 0)
            (some_below-none (λ k. ltb 15 (get_or openings k 0)) (length openings) (or_right wrong above h) i (omega arith));
      }

  pub in_openings : GoodOpenings n openings → bad_openings n openings ≡ false
  unfolding bad_openings wrong above
  in_openings g =
      or-none wrong above (ap not (eq-eqb (length openings) n g.count))
      (none-some_below (λ k. ltb 15 (get_or openings k 0)) (length openings)
      (λ i l. le-ltb 15 (get_or openings i 0) (g.opening i (omega (arith, g.count)))))

pub record GoodRounds (n R : ℕ) (words : List ℕ) : Type 0 where
  pub count : length words ≡ R * (3 + n)
  pub word : (w : ℕ) → w < R * (3 + n) → get_or words w 0 < 2 ^ n
  pub own : (r i : ℕ) → r < R → i < n → own_bit (λ w. get_or words w 0) n r i ≡ false

module _ (n k R : ℕ) (words : List ℕ) where
  miscount : Bool
  miscount = not (eqb (length words) (R * (3 + n)))

  high : Bool
  high = some_below (λ w. high_bit n (get_or words w 0)) (length words)

  owned : Outcome
  owned = own_loss_check (λ w. get_or words w 0) n k R

  pub rounds_good : rounds_check n k R words ≡ Ok tt → GoodRounds n R words
  unfolding rounds_check bad_words high_bit miscount high owned
  rounds_good h =
      let b : bad_words n R words ≡ false = refuse-false (bad_words n R words) PlainRound owned h in
      let e : length words ≡ R * (3 + n) = eqb-true (length words) (R * (3 + n)) (not-false (eqb (length words) (R * (3 + n))) (or_left miscount high b)) in
      record {
        count = e;
        word = λ w l.
            leb-false (2 ^ n) (get_or words w 0)
            (some_below-none (λ k. leb (2 ^ n) (get_or words k 0)) (length words) (or_right miscount high b) w (omega arith));
        own = own-accepted (λ w. get_or words w 0) n k R (refuse-rest (bad_words n R words) PlainRound owned h);
      }

  pub good_rounds : GoodRounds n R words → rounds_check n k R words ≡ Ok tt
  unfolding rounds_check bad_words high_bit miscount high owned
  good_rounds g =
      refuse-on (bad_words n R words) PlainRound owned
      (or-none miscount high (ap not (eq-eqb (length words) (R * (3 + n)) g.count))
      (none-some_below (λ k. leb (2 ^ n) (get_or words k 0)) (length words)
      (λ w l. lt-leb (2 ^ n) (get_or words w 0) (g.word w (omega (arith, g.count))))))
      (accepted-own (λ w. get_or words w 0) n k R g.own)

pub record GoodPlain (n R : ℕ) (openings words : List ℕ) : Type 0 where
  pub some : 0 < n
  pub most : n ≤ 32
  pub rounds : R ≤ 400
  pub openings-good : GoodOpenings n openings
  pub rounds_good : GoodRounds n R words

module _ (n R : ℕ) (openings words : List ℕ) where
  after_2 : Outcome
  after_2 = refuse (bad_rounds R) RoundCount (refuse (bad_openings n openings) Record (rounds_check n 1 R words))

  after_3 : Outcome
  after_3 = refuse (bad_openings n openings) Record (rounds_check n 1 R words)

  pub plain-good : plain_check n R openings words ≡ Ok tt → GoodPlain n R openings words
  unfolding plain_check after_2 after_3
  plain-good h =
      let t : (0 < n) × (n ≤ 32) = trucks_in_lem n (refuse-false (bad_trucks n) TruckCount after_2 h) in
      let h₂ : after_2 ≡ Ok tt = refuse-rest (bad_trucks n) TruckCount after_2 h in
      let h₃ : after_3 ≡ Ok tt = refuse-rest (bad_rounds R) RoundCount after_3 h₂ in
      record {
        some = t.0;
        most = t.1;
        rounds = rounds_in R (refuse-false (bad_rounds R) RoundCount after_3 h₂);
        openings-good = openings_in n openings (refuse-false (bad_openings n openings) Record (rounds_check n 1 R words) h₃);
        rounds_good = rounds_good n 1 R words (refuse-rest (bad_openings n openings) Record (rounds_check n 1 R words) h₃);
      }

  pub good-plain : GoodPlain n R openings words → plain_check n R openings words ≡ Ok tt
  unfolding plain_check after_2 after_3
  good-plain g =
      refuse-on (bad_trucks n) TruckCount after_2 (in_trucks n g.some g.most)
      (refuse-on (bad_rounds R) RoundCount after_3 (in_rounds R g.rounds)
      (refuse-on (bad_openings n openings) Record (rounds_check n 1 R words) (in_openings n openings g.openings-good)
      (good_rounds n 1 R words g.rounds_good)))

-- ---- a recording
pub record GoodFrame (s : List ℕ) : Type 0 where
  pub long : 2 ≤ length s
  pub some : 0 < trucks_of s
  pub most : trucks_of s ≤ 32
  pub rounds : rounds_of s ≤ 400
  pub size : length s ≡ bytes_for (trucks_of s) (rounds_of s)
  pub ends : (p : ℕ) → bits_for (trucks_of s) (rounds_of s) ≤ p → p < 8 * length s → bit_at s p ≡ 0

module _ (s : List ℕ) where
  n : ℕ
  n = trucks_of s

  R : ℕ
  R = rounds_of s

  r_5 : Outcome
  r_5 = refuse (end_bit (bit_at s) (length s) n R) EndBit (Ok tt)

  r_4 : Outcome
  r_4 = refuse (bad_length (length s) n R) RecordingLength r_5

  r_3 : Outcome
  r_3 = refuse (bad_rounds R) RoundCount r_4

  r_2 : Outcome
  r_2 = refuse (bad_trucks n) TruckCount r_3

  ends-zero : end_bit (bit_at s) (length s) n R ≡ false → (p : ℕ) → bits_for n R ≤ p → p < 8 * length s → bit_at s p ≡ 0
  unfolding end_bit n R
  ends-zero h p l u =
      let total : ℕ = bits_for n R in
      let e : total + (p - total) ≡ p = omega arith in
      let z : eqb (bit_at s (total + (p - total))) 1 ≡ false
      = some_below-none (λ j. eqb (bit_at s (total + j)) 1) (8 * length s - total) h (p - total) (omega arith) in
      let d : bit_at s p ≡ 1 → ⊥ = eqb-false (bit_at s p) 1 (ap (λ (q : ℕ). eqb (bit_at s q) 1) (sym e) ∙ z) in
      omega (arith, bit_at_lt s p)

  zero-ends : ((p : ℕ) → bits_for n R ≤ p → p < 8 * length s → bit_at s p ≡ 0) → end_bit (bit_at s) (length s) n R ≡ false
  unfolding end_bit n R
  zero-ends h =
      none-some_below (λ j. eqb (bit_at s (bits_for n R + j)) 1) (8 * length s - bits_for n R)
      (λ j l. ap (λ (b : ℕ). eqb b 1) (h (bits_for n R + j) (omega arith) (omega arith)))

  pub frame_good : frame_check s ≡ Ok tt → GoodFrame s
  unfolding frame_check too_short bad_length n R r_2 r_3 r_4 r_5
  frame_good h =
      let h₁ : r_2 ≡ Ok tt = refuse-rest (too_short s) ShortRecording r_2 h in
      let h₂ : r_3 ≡ Ok tt = refuse-rest (bad_trucks n) TruckCount r_3 h₁ in
      let h₃ : r_4 ≡ Ok tt = refuse-rest (bad_rounds R) RoundCount r_4 h₂ in
      let h₄ : r_5 ≡ Ok tt = refuse-rest (bad_length (length s) n R) RecordingLength r_5 h₃ in
      let t : (0 < n) × (n ≤ 32) = trucks_in_lem n (refuse-false (bad_trucks n) TruckCount r_3 h₁) in
      record {
        long = ltb-false (length s) 2 (refuse-false (too_short s) ShortRecording r_2 h);
        some = t.0;
        most = t.1;
        rounds = rounds_in R (refuse-false (bad_rounds R) RoundCount r_4 h₂);
        size = eqb-true (length s) (bytes_for n R)
            (not-false (eqb (length s) (bytes_for n R)) (refuse-false (bad_length (length s) n R) RecordingLength r_5 h₃));
        ends = ends-zero (refuse-false (end_bit (bit_at s) (length s) n R) EndBit (Ok tt) h₄);
      }

  pub good_frame : GoodFrame s → frame_check s ≡ Ok tt
  unfolding frame_check too_short bad_length n R r_2 r_3 r_4 r_5
  good_frame g =
      refuse-on (too_short s) ShortRecording r_2 (le-ltb (length s) 2 g.long)
      (refuse-on (bad_trucks n) TruckCount r_3 (in_trucks n g.some g.most)
      (refuse-on (bad_rounds R) RoundCount r_4 (in_rounds R g.rounds)
      (refuse-on (bad_length (length s) n R) RecordingLength r_5 (ap not (eq-eqb (length s) (bytes_for n R) g.size))
      (refuse-on (end_bit (bit_at s) (length s) n R) EndBit (Ok tt) (zero-ends g.ends) refl))))

pub record GoodBytes (s : List ℕ) : Type 0 where
  pub frame : GoodFrame s
  pub own : (r i : ℕ) → r < rounds_of s → i < trucks_of s → own_bit (word_at s) (trucks_of s) r i ≡ false

pub bytes_good : (s : List ℕ) → check_of s ≡ Ok tt → GoodBytes s
unfolding check_of own_check
bytes_good s h =
    record {
      frame = frame_good s (then-first (frame_check s) (own_check s) h);
      own = own-accepted (word_at s) (trucks_of s) 1 (rounds_of s) (then_second (frame_check s) (own_check s) h);
    }

pub good-bytes : (s : List ℕ) → GoodBytes s → check_of s ≡ Ok tt
unfolding check_of own_check
good-bytes s g =
    then-both (frame_check s) (own_check s) (good_frame s g.frame) (accepted-own (word_at s) (trucks_of s) 1 (rounds_of s) g.own)

-- a recording is refused for 1 to 6 and nothing else
pub check_number : (s : List ℕ) → outcome_number (check_of s) ≤ 6
unfolding check_of frame_check own_check own_loss_check
check_number s =
    go (too_short s) (bad_trucks (trucks_of s)) (bad_rounds (rounds_of s)) (bad_length (length s) (trucks_of s) (rounds_of s))
    (end_bit (bit_at s) (length s) (trucks_of s) (rounds_of s)) (own_loss (word_at s) (trucks_of s) (rounds_of s))
  where
    round : ℕ
    round = own_round (word_at s) (trucks_of s) (rounds_of s)

    go : (a b c d e f : Bool)
        → outcome_number (and_then (refuse a ShortRecording (refuse b TruckCount (refuse c RoundCount (refuse d RecordingLength (refuse e EndBit (Ok tt))))))
        (refuse f (OwnLoss (1 + round) (own_truck (word_at s) (trucks_of s) round)) (Ok tt))) ≤ 6
    go true b c d e f = omega arith
    go false true c d e f = omega arith
    go false false true d e f = omega arith
    go false false false true e f = omega arith
    go false false false false true f = omega arith
    go false false false false false true = omega arith
    go false false false false false false = omega arith
