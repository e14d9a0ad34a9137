-- A round by sets in packed order, for trucks of any kind and the rules of any cycle: what depends only on stops and hearing.
use mathlib.Core.Path.{◌≡◌, refl, ap, ap₂, sym, ◌∙◌}
use mathlib.Core.Bool.{Bool, true, false, not, ◌&&◌}
use mathlib.Core.List.{List}
use Prim.Native.Nat.{ℕ, suc, ◌+◌, ◌*◌, ◌-◌, ◌^◌, ◌≤◌, ◌<◌}
use native.Mathlib.Nat.{add-mul}
use native.Mathlib.Omega.{arith}
use borrow.Author.Tests.{eqb-true}
use lib.Bits.{bit_and, and_le_l, xor_lt}
use lib.Dec.{eqb, ltb}
use lib.Pow.{pow_mono}
use lib.ListN.{get_or}
use Rattle.basics.specs.Bits.{bit}
use Rattle.basics.proofs.Bits.{bit-and}
use Rattle.radio.specs.Round.{stop_bit, active_bit, mark_bit, loss_bit}
use Rattle.radio.specs.Radio.{Radio, hears, heard, heard_by}
use Rattle.sets.specs.Sets.{Members, without}
use Rattle.sets.proofs.Words.{bit-without}
use Rattle.sets.proofs.Mirror.{mirror_twice, mirror_zero}
use Rattle.bitreader.specs.Bits.{mirrored}
use Rattle.protocol.specs.Cycles.{Kind, Rules, truck_in, runs_in, radio_in}
use Rattle.playback.specs.Sets.{heard_set}
use Rattle.playback.specs.Listens.{row_from}
use Rattle.playback.specs.Standing.{ReadsAs, holds, word_from, going_on}
use Rattle.playback.specs.Grading.{RadioSets}
use Rattle.playback.proofs.Radios.{some-members, heard-fits, heard_silent, heard-others, hearers}
use Rattle.playback.proofs.Packed.{heard-packed}
use Rattle.playback.proofs.Places.{turn-back, plain-bit, placed}

-- the next round on the radio
abbrev pub next_radio : {T : Type 0} {K : Kind T} → Rules K → ℕ → ℕ → List ℕ → List T → Radio
next_radio c n k w ts = radio_in c n (active_bit w) (suc k) w ts

-- a set holds those of n trucks that run
pub record RunningSet {T : Type 0} (K : Kind T) (n : ℕ) (ts : List T) (running : ℕ) : Type 0 where
  pub each : (j : ℕ) → j < n → runs_in K (truck_in K ts j) ≡ holds running j
  pub none : (j : ℕ) → n ≤ j → j < 32 → holds running j ≡ false
  pub fits : running < 2 ^ 32

-- a set holds those of n trucks that send
pub record SendingSet (a : Radio) (n senders : ℕ) : Type 0 where
  pub each : (j : ℕ) → j < n → holds senders j ≡ a.sends j
  pub none : (j : ℕ) → n ≤ j → j < 32 → holds senders j ≡ false
  pub fits : senders < 2 ^ 32

-- the words of a round at its place
module _ (n : ℕ) (s : List ℕ) (at : ℕ) (w : List ℕ) (reads : ReadsAs s at n w) where
  word_bit : (i p j : ℕ) → (i ≡ 1 → ⊥) → i < 3 + n → p ≡ at + i * n → j < n → holds (word_from s p) j ≡ bit (get_or w i 0) j
  word_bit i p j ne li e l = ap (λ (x : ℕ). holds (word_from s x) j) e ∙ reads i j ne li l

  pub mark-bit : (j : ℕ) → j < n → holds (word_from s (at + 2 * n)) j ≡ mark_bit w j
  mark-bit j l = word_bit 2 (at + 2 * n) j (λ z. omega arith) (omega arith) refl l

  row-bit : n ≤ 32 → (i j : ℕ) → i < n → j < n → holds (row_from s (at + 3 * n) n (31 - i)) j ≡ loss_bit w i j
  row-bit few i j li l =
      ap (λ (x : ℕ). holds (word_from s (at + 3 * n + x * n)) j) (turn-back i (omega (arith, few)))
      ∙ word_bit (3 + i) (at + 3 * n + i * n) j (λ z. omega arith) (omega arith) (omega (arith, add-mul 3 i n)) l

  -- those that run and don't stop go on
  pub going-bit : (running j : ℕ) → j < n → holds (going_on s at running) j ≡ (holds running j && not (stop_bit w j))
  going-bit running j l =
      bit-without running (word_from s at) (31 - j)
      ∙ ap (λ (b : Bool). holds running j && not b) (word_bit 0 at j (λ z. omega arith) (omega arith) (omega arith) l)

module _ {T : Type 0} {K : Kind T} {n running : ℕ} {ts : List T} (runs : RunningSet K n ts running) (s : List ℕ) (at : ℕ) where
  pub going-none : (j : ℕ) → n ≤ j → j < 32 → holds (going_on s at running) j ≡ false
  going-none j o l = bit-without running (word_from s at) (31 - j) ∙ ap (λ (b : Bool). b && not (holds (word_from s at) j)) (runs.none j o l)

  pub going-lt : going_on s at running < 2 ^ 32
  going-lt = xor_lt 32 running (bit_and running (word_from s at)) runs.fits (omega (arith, and_le_l running (word_from s at), runs.fits))

module _ {T : Type 0} {K : Kind T} (rules : Rules K) (k : ℕ) {n running : ℕ} {ts : List T} (few : n ≤ 32) (runs : RunningSet K n ts running)
    (s : List ℕ) (at : ℕ) (w : List ℕ) (reads : ReadsAs s at n w) where
  -- those of a set that go on are the senders, where by the rules a running truck sends exactly if it is in the set
  module _ (those : ℕ) (says : (j : ℕ) → j < n → holds running j ≡ true → rules.sends (suc k) (active_bit w j) (truck_in K ts j) ≡ holds those j) where
    sends-bit : (j : ℕ) → j < n → holds (bit_and (going_on s at running) those) j ≡ (next_radio rules n k w ts).sends j
    unfolding radio_in
    sends-bit j l =
        bit-and (going_on s at running) those (31 - j) ∙ ap (λ (b : Bool). b && holds those j) (going-bit n s at w reads running j l)
        ∙ go (holds running j) (not (stop_bit w j)) (holds those j) (rules.sends (suc k) (active_bit w j) (truck_in K ts j)) (says j l)
        ∙ sym (ap (λ (x : Bool). (x && not (stop_bit w j)) && rules.sends (suc k) (active_bit w j) (truck_in K ts j)) (runs.each j l))
      where
        go : (x y b c : Bool) → (x ≡ true → c ≡ b) → ((x && y) && b) ≡ ((x && y) && c)
        go true true b c e = sym (e refl)
        go true false b c e = refl
        go false y b c e = refl

    pub sending-set : SendingSet (next_radio rules n k w ts) n (bit_and (going_on s at running) those)
    sending-set =
        record {
          each = sends-bit;
          none = λ j h l. bit-and (going_on s at running) those (31 - j) ∙ ap (λ (b : Bool). b && holds those j) (going-none runs s at j h l);
          fits = omega (arith, and_le_l (going_on s at running) those, going-lt runs s at);
        }

  module _ {senders : ℕ} (sending : SendingSet (next_radio rules n k w ts) n senders) where
    senders_are : Members (mirrored 32 senders) n (next_radio rules n k w ts).sends
    senders_are = placed senders n (next_radio rules n k w ts).sends few sending.each sending.none

    -- whom truck i hears
    module _ (i : ℕ) (l : i < n) where
      abbrev row : ℕ
      row = row_from s (at + 3 * n) n (31 - i)

      abbrev plain : ℕ
      plain = heard_set (mirrored 32 senders) (mirrored 32 row) i

      heard-members : Members plain n (hears (next_radio rules n k w ts) i)
      unfolding radio_in
      heard-members =
          hearers (next_radio rules n k w ts) i (mirrored 32 senders) (mirrored 32 row) senders_are
          (λ j lj h. sym (plain-bit row j (omega (arith, few)) ∙ row-bit n s at w reads few i j l lj))

      heard-turned : heard_set senders row (31 - i) ≡ mirrored 32 plain
      heard-turned =
          ap₂ (λ (x p : ℕ). heard_set x row p) (sym (mirror_twice 32 senders sending.fits)) (let e : 31 - i ≡ 32 - suc i = omega (arith, few) in e)
          ∙ heard-packed 32 (mirrored 32 senders) row i (omega (arith, few))

      pub heard-plain : Members (mirrored 32 (heard_set senders (row_from s (at + 3 * n) n (31 - i)) (31 - i))) n (hears (next_radio rules n k w ts) i)
      heard-plain = rw (heard-turned, mirror_twice 32 plain (omega (arith, heard-members.below, pow_mono few))) heard-members

      any_heard : ltb 0 (heard (next_radio rules n k w ts) i) ≡ not (eqb (heard_set senders row (31 - i)) 0)
      unfolding heard heard_by radio_in
      any_heard = some-members heard-plain ∙ ap not (mirror_zero 32 (heard_set senders row (31 - i)) (heard-fits senders row (31 - i) sending.fits))

      pub none-heard : eqb senders 0 ≡ true → ltb 0 (heard (next_radio rules n k w ts) i) ≡ false
      none-heard e = any_heard ∙ ap (λ (x : ℕ). not (eqb x 0)) (heard_silent senders row (31 - i) (eqb-true senders 0 e))

      -- one that doesn't send itself hears a message if its row leaves some of the senders
      pub others-heard : holds senders i ≡ false → ltb 0 (heard (next_radio rules n k w ts) i) ≡ not (eqb (without senders (row_from s (at + 3 * n) n (31 - i))) 0)
      others-heard e = any_heard ∙ ap (λ (x : ℕ). not (eqb x 0)) (heard-others senders row (31 - i) sending.fits e)

    -- the round on the radio
    pub radio_sets : RadioSets (next_radio rules n k w ts) s (at + 3 * n) n (going_on s at running) senders (word_from s (at + 2 * n))
    unfolding radio_in
    radio_sets =
        record {
          few = few;
          fits = sending.fits;
          goes = going-lt runs s at;
          running = λ j l. ap (λ (b : Bool). b && not (stop_bit w j)) (runs.each j l) ∙ sym (going-bit n s at w reads running j l);
          none = going-none runs s at;
          sends = senders_are;
          marked = λ j l. sym (mark-bit n s at w reads j l);
          heard = heard-plain;
        }
