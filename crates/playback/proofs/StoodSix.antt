-- The sets after a round of the six-round cycle stand for the trucks after it.
use mathlib.Core.Path.{◌≡◌, refl, ap, ap₂, sym, subst, ◌∙◌}
use mathlib.Core.Bool.{Bool, true, false, cond, not, ◌&&◌, ◌||◌, and-true, and-false, or-false, true≢false}
use mathlib.Core.List.{List}
use Prim.Native.Nat.{ℕ, suc, ◌+◌, ◌*◌, ◌-◌, ◌%◌, ◌^◌, ◌≤◌, ◌<◌}
use native.Mathlib.Decide.{ℕ_discrete}
use native.Mathlib.Omega.{arith}
use borrow.Author.Tests.{eq-eqb, ne_eqb, lt-ltb}
use lib.Bits.{bit_and, bit_or, bit_xor, and_le_l, or_zero_r, xor_lt}
use lib.Dec.{eqb, ltb}
use lib.ListN.{length, get_or}
use Rattle.basics.specs.Bits.{bit}
use Rattle.basics.specs.Lists.{filled, some_below}
use Rattle.basics.proofs.Laws.{and_left, some_ext, some_below_by, none-some_below}
use Rattle.basics.proofs.Bits.{bit-and, bit-or}
use Rattle.radio.specs.Round.{stop_bit, active_bit, mark_bit}
use Rattle.radio.specs.Radio.{Radio, heard}
use Rattle.sets.specs.Sets.{without}
use Rattle.sets.proofs.Words.{bit-without, bit-zero}
use Rattle.sets.proofs.Members.{members_ext, members-rest}
use Rattle.protocol.specs.declared.Heard.{Heard}
use Rattle.protocol.specs.declared.Heard.TheVariants.{Nothing}
use Rattle.protocol.specs.declared.Sent.{Sent}
use Rattle.protocol.specs.declared.State.TheVariants.{Decided}
use Rattle.protocol.specs.declared.Truck.{Truck}
use Rattle.protocol.specs.Cycles.{radio_in, plays_in}
use Rattle.protocol.specs.Rules.{truck, is_one, is_several, different, least_or, values_heard}
use Rattle.protocol.specs.Six.{six_rules, estimate_bit, stops_six, after_prepare, after_bit, accepts, after_accept}
use Rattle.protocol.specs.Parts.{memory_part}
use Rattle.protocol.proofs.SixRound.{sends-prepare, sends-bit, sends-accept, plays-prepare, plays-bit, plays-accept}
use Rattle.protocol.proofs.HandsOn.{six-kept}
use Rattle.playback.specs.declared.six.Played.{Played}
use Rattle.playback.specs.declared.replay.Vetoed.{Vetoed}
use Rattle.playback.specs.Sets.{estimates}
use Rattle.playback.specs.Listens.{row_from, heard_from, some_value}
use Rattle.playback.specs.Standing.{ReadsAs, Active, next_trucks, holds, word_from, memory_of, standing, sent_by, Stands, going_on, proposers_of, may_of, Vetoes, noted, unmarked_of, Prepares, quiet_of, Listens, willing_of, Accepts}
use Rattle.playback.specs.Grading.{RadioSets}
use Rattle.playback.proofs.AnyStood.{next_radio, SendingSet, mark-bit, going-bit, going-lt, going-none, sending-set, none-heard, others-heard, radio_sets}
use Rattle.playback.proofs.Stood.{truck-same, none_in, memory_back, running-set, opening_is, running_is, state_is, mark_is, unwilling_is, estimate-after, sorted-kept, stands-next, proposing, wanted-none, listens, now-sorted, crushers-kept}
use Rattle.playback.proofs.Stood.{done-bit, on_bit, on_none, on-lt, done-goes, veto-radio}

module _ {n last k : ℕ} {opening : ℕ → ℕ} {ts : List Truck} {by ends sent : List ℕ} {running decided unwilling : ℕ} (st : Stands n last k opening ts by ends sent running decided 0 0 0 unwilling)
    (few : n ≤ 32) (small : (j : ℕ) → j < n → estimates ts j < 16) (s : List ℕ) (at : ℕ) (w : List ℕ) (reads : ReadsAs s at n w) where
  abbrev radio : Radio
  radio = next_radio six_rules n k w ts

  abbrev now : ℕ → Truck
  now j = truck (next_trucks six_rules n k w ts) j

  abbrev goes : ℕ → Bool
  goes j = holds running j && not (stop_bit w j)

  runs-now : (j : ℕ) → goes j ≡ true → holds running j ≡ true
  runs-now j g = and_left (holds running j) (not (stop_bit w j)) g

  -- nobody remembers a mark, a value or a count
  unmarked : (j : ℕ) → j < n → (truck ts j).mark ≡ false
  unmarked j l = mark_is st j l ∙ none_in (holds running j) j

  heard-bits : (j : ℕ) → j < n → holds running j ≡ true → (is_one (truck ts j).heard ≡ holds 0 j) × (is_several (truck ts j).heard ≡ holds 0 j)
  heard-bits j l r = st.heard j l r (λ x. absurd (true≢false (sym x ∙ bit-zero (31 - j))))

  no_value : (j : ℕ) → j < n → holds running j ≡ true → (truck ts j).heard ≡ Nothing
  no_value j l r =
      let m = heard-bits j l r in
      sym (memory_back (truck ts j).heard) ∙ ap₂ memory_of (m.0 ∙ bit-zero (31 - j)) (m.1 ∙ bit-zero (31 - j))

  kept : (j : ℕ) → memory_part (now j) ≡ memory_part (truck ts j)
  kept j = six-kept n (active_bit w) (suc k) w ts j

  counts : (j : ℕ) → j < n → (now j).sent ≡ sent_by sent 8 (31 - j)
  counts j l = ap (λ (x : Bool × Heard × Sent). x.2) (kept j) ∙ st.counts j l

  memory : (j : ℕ) → j < n → holds running j ≡ true → (is_one (now j).heard ≡ holds 0 j) × (is_several (now j).heard ≡ holds 0 j)
  memory j l r =
      let e : (now j).heard ≡ (truck ts j).heard = ap (λ (x : Bool × Heard × Sent). x.1) (kept j) in
      let m = heard-bits j l r in
      (ap is_one e ∙ m.0, ap is_several e ∙ m.1)

  stop_six : (u : Bool) (j : ℕ) → j < n → holds running j ≡ true
      → stops_six (suc k) (truck ts j) ≡ standing (opening j) (truck ts j).estimate (truck ts j).heard false false (holds 0 j) u (suc k) (truck ts j).sent
  stop_six u j l r = truck-same (truck ts j).estimate (truck ts j).sent (opening_is st j l) (unmarked j l) (no_value j l r) refl refl

  -- a truck that plays and runs on, with an estimate and willing or not
  plays-on : (e : ℕ) (u : Bool) (j : ℕ) → j < n → goes j ≡ true → (x : ℕ) → u ≡ holds x j
      → ◌≡◌ {A = Truck}
      (record { opening = (truck ts j).opening; estimate = e; mark = (truck ts j).mark; heard = (truck ts j).heard; unwilling = u; state = (truck ts j).state; sent = (truck ts j).sent })
      (standing (opening j) e (truck ts j).heard true false (holds 0 j) (holds x j) (get_or ends j 0) (truck ts j).sent)
  plays-on e u j l g x eu =
      truck-same e (truck ts j).sent (opening_is st j l) (unmarked j l ∙ sym (bit-zero (31 - j))) refl eu (running_is st j l (runs-now j g))

  -- the sets after a round in which nobody decides
  stands_on : (unwilling' : ℕ) (by' : List ℕ)
      → ((j : ℕ) → j < n → goes j ≡ true
      → plays_in six_rules radio (suc k) w ts j
      ≡ standing (opening j) (plays_in six_rules radio (suc k) w ts j).estimate (plays_in six_rules radio (suc k) w ts j).heard true false (holds 0 j) (holds unwilling' j) (get_or ends j 0) (plays_in six_rules radio (suc k) w ts j).sent)
      → length by' ≡ 16 → ((c : ℕ) → c < 16 → (j : ℕ) → j < 32 → holds (get_or by' c 0) j ≡ (ltb j n && eqb (now j).estimate c))
      → Stands n last (suc k) opening (next_trucks six_rules n k w ts) by' (filled (noted ends (without running (going_on s at running)) (suc k)) 32 ends) sent (going_on s at running) (bit_or decided 0) 0 0 0 unwilling'
  stands_on unwilling' by' plays crushers sorted =
      stands-next st six_rules few small s at w reads (going_on s at running) (bit_or decided 0) 0 0 0 unwilling' by' sent (λ j. false)
      (λ j l. going-bit n s at w reads running j l ∙ sym (and-true (goes j)))
      (λ j l. ap (λ (x : ℕ). holds x j) (or_zero_r decided) ∙ sym (or-false (holds decided j)))
      (going-lt (running-set st) s at) (going-none (running-set st) s at) (λ j l d. absurd (true≢false (sym d)))
      (λ j l r b. stop_six (holds unwilling' j) j l r) plays crushers st.digits counts
      (λ j l h m. memory j l (runs-now j (sym (going-bit n s at w reads running j l) ∙ h)))
      sorted

  -- ---- prepare
  module _ (o : suc k % 6 ≡ 1) where
    asks : (b : Bool) (t : Truck) → six_rules.sends (suc k) b t ≡ b
    asks b t = sends-prepare (suc k) b t o

    abbrev values : ℕ → List ℕ
    values j = values_heard radio ts j

    prepare-plays : (j : ℕ) → plays_in six_rules radio (suc k) w ts j ≡ after_prepare (mark_bit w j) (least_or (truck ts j).estimate (values j)) (truck ts j)
    unfolding radio_in
    prepare-plays j = plays-prepare n (active_bit w) (suc k) w ts j o

    takes : (j : ℕ) → j < n → (now j).estimate ≡ cond (goes j) (cond (mark_bit w j) (truck ts j).estimate (least_or (truck ts j).estimate (values j))) (truck ts j).estimate
    takes j l =
        estimate-after st six_rules few small s at w reads (λ t. refl) j l
        ∙ ap (λ (t : Truck). cond (goes j) t.estimate (truck ts j).estimate) (prepare-plays j)

    pub prepare-radio : Active n running w (word_from s (at + n)) → RadioSets (next_radio six_rules n k w ts) s (at + 3 * n) n (going_on s at running) (proposers_of s at n running) (word_from s (at + 2 * n))
    prepare-radio actives = radio_sets six_rules k few (running-set st) s at w reads (proposing st six_rules few small s at w reads (word_from s (at + n)) actives asks)

    module _ (actives : Active n running w (word_from s (at + n))) {by' : List ℕ} {r : Played} (p : Prepares s at n running by by' r) where
      abbrev unread : ℕ
      unread = word_from s (at + 2 * n)

      changes : (j : ℕ) → j < n → holds p.changed j ≡ (goes j && not (mark_bit w j) && some_value (different (values j)))
      changes j l =
          p.heard.each (31 - j) (omega arith) ∙ listens st six_rules few small s at w reads (word_from s (at + n)) actives asks unread some_value refl j l
          ∙ ap (λ (b : Bool). (goes j && not b) && some_value (different (values j))) (mark-bit n s at w reads j l)

      none : (j : ℕ) → n ≤ j → j < 32 → holds p.changed j ≡ false
      none j h l =
          p.heard.each (31 - j) (omega arith)
          ∙ ap (λ (b : Bool). b && some_value (heard_from s (at + 3 * n) n (proposers_of s at n running) by (31 - j)).heard) (wanted-none st six_rules few small s at w reads (word_from s (at + n)) actives asks unread j h l)

      taken : (j : ℕ) → j < n → holds p.changed j ≡ true → (c : ℕ) → c < 16
          → holds (get_or p.taking c 0) j ≡ eqb (heard_from s (at + 3 * n) n (proposers_of s at n running) by (31 - j)).least c
      taken j l h c lc =
          (p.sorted c lc).each (31 - j) (omega arith)
          ∙ ap (λ (b : Bool). b && eqb (heard_from s (at + 3 * n) n (proposers_of s at n running) by (31 - j)).least c)
          (and_left (holds (unmarked_of s at n running) j) (some_value (heard_from s (at + 3 * n) n (proposers_of s at n running) by (31 - j)).heard) (sym (p.heard.each (31 - j) (omega arith)) ∙ h))

      pub prepare-stands : Stands n last (suc k) opening (next_trucks six_rules n k w ts) by' (filled (noted ends (without running (going_on s at running)) (suc k)) 32 ends) sent (going_on s at running) (bit_or decided 0) 0 0 0 0
      prepare-stands =
          stands_on 0 by'
          (λ j l g.
          subst (λ (x : Truck). x ≡ standing (opening j) x.estimate x.heard true false (holds 0 j) (holds 0 j) (get_or ends j 0) x.sent) (sym (prepare-plays j))
          (plays-on (cond (mark_bit w j) (truck ts j).estimate (least_or (truck ts j).estimate (values j))) false j l g 0 (sym (bit-zero (31 - j)))))
          (crushers-kept st six_rules few small s at w reads (word_from s (at + n)) actives asks takes p.changed p.taking by' p.took changes none taken)
          (now-sorted st six_rules few small s at w reads (word_from s (at + n)) actives asks takes p.changed p.taking by' p.took changes none taken)

  -- ---- a bit round
  module _ (o₁ : suc k % 6 ≡ 1 → ⊥) (o₀ : suc k % 6 ≡ 0 → ⊥) {b : ℕ} (eb : b ≡ 5 - suc k % 6) {r : Played} (p : Listens s at n b running unwilling by r) where
    abbrev shown : ℕ
    shown = p.shown

    abbrev senders : ℕ
    senders = bit_and (going_on s at running) shown

    -- the truck's bit
    abbrev own : ℕ → Bool
    own j = estimate_bit (suc k) (truck ts j)

    shown-bit : (j : ℕ) → j < n → holds shown j ≡ own j
    shown-bit j l =
        p.bits (31 - j) (omega arith)
        ∙ some_ext (λ c. bit c b && holds (get_or by c 0) j) (λ c. bit c b && eqb (truck ts j).estimate c) 16
        (λ c lc. ap (λ (x : Bool). bit c b && x) (st.sorted c lc j (omega (arith, few)) ∙ ap (λ (x : Bool). x && eqb (truck ts j).estimate c) (lt-ltb j n l)))
        ∙ go (bit (truck ts j).estimate b) refl
        ∙ ap (bit (truck ts j).estimate) eb
      where
        go : (x : Bool) → bit (truck ts j).estimate b ≡ x → some_below (λ c. bit c b && eqb (truck ts j).estimate c) 16 ≡ bit (truck ts j).estimate b
        go true e =
            some_below_by (λ c. bit c b && eqb (truck ts j).estimate c) 16 (truck ts j).estimate (small j l)
            (ap₂ ◌&&◌ e (eq-eqb (truck ts j).estimate (truck ts j).estimate refl))
            ∙ sym e
        go false e = none-some_below (λ c. bit c b && eqb (truck ts j).estimate c) 16 (λ c lc. other c (ℕ_discrete (truck ts j).estimate c)) ∙ sym e
          where
            other : (c : ℕ) → Dec ((truck ts j).estimate ≡ c) → (bit c b && eqb (truck ts j).estimate c) ≡ false
            other c (yes q) = ap (λ (x : Bool). x && eqb (truck ts j).estimate c) (ap (λ (x : ℕ). bit x b) (sym q) ∙ e)
            other c (no q) = ap (λ (x : Bool). bit c b && x) (ne_eqb (truck ts j).estimate c q) ∙ and-false (bit c b)

    senders-bit : (j : ℕ) → j < n → holds senders j ≡ (goes j && own j)
    senders-bit j l = bit-and (going_on s at running) shown (31 - j) ∙ ap₂ ◌&&◌ (going-bit n s at w reads running j l) (shown-bit j l)

    showing : SendingSet radio n senders
    showing = sending-set six_rules k few (running-set st) s at w reads shown (λ j l r. sends-bit (suc k) (active_bit w j) (truck ts j) o₁ o₀ ∙ sym (shown-bit j l))

    pub bit-radio : RadioSets (next_radio six_rules n k w ts) s (at + 3 * n) n (going_on s at running) (bit_and (going_on s at running) p.shown) (word_from s (at + 2 * n))
    bit-radio = radio_sets six_rules k few (running-set st) s at w reads showing

    -- it notices a message or a mark
    abbrev notices : ℕ → Bool
    notices j = mark_bit w j || ltb 0 (heard radio j)

    bit-plays : (j : ℕ) → plays_in six_rules radio (suc k) w ts j ≡ after_bit (own j) (notices j) (truck ts j)
    unfolding radio_in
    bit-plays j = plays-bit n (active_bit w) (suc k) w ts j o₁ o₀

    abbrev unwilling' : ℕ
    unwilling' = bit_or (bit_or (bit_and (going_on s at running) unwilling) (bit_and (quiet_of s at running shown) (word_from s (at + 2 * n)))) p.some

    abbrev unheard : ℕ → Bool
    unheard j = eqb (without senders (row_from s (at + 3 * n) n (31 - j))) 0

    quiet-bit : (j : ℕ) → j < n → goes j ≡ true → holds (quiet_of s at running shown) j ≡ not (own j)
    quiet-bit j l g =
        bit-without (going_on s at running) senders (31 - j)
        ∙ ap₂ (λ (x y : Bool). x && not y) (going-bit n s at w reads running j l ∙ g) (senders-bit j l ∙ ap (λ (x : Bool). x && own j) g)

    -- who of those that listen hears a message
    some-bit : (j : ℕ) → j < n → goes j ≡ true → holds p.some j ≡ ((not (own j) && not (mark_bit w j || holds unwilling j)) && ltb 0 (heard radio j))
    some-bit j l g =
        p.heard.each (31 - j) (omega arith) ∙ go (eqb senders 0) refl
      where
        listener : (x : Bool) → own j ≡ x
            → ((not x && not (mark_bit w j || holds unwilling j)) && not (unheard j)) ≡ ((not x && not (mark_bit w j || holds unwilling j)) && ltb 0 (heard radio j))
        listener true e = refl
        listener false e =
            ap (λ (x : Bool). not (mark_bit w j || holds unwilling j) && x)
            (sym (others-heard six_rules k few (running-set st) s at w reads showing j l (senders-bit j l ∙ ap₂ ◌&&◌ g e)))

        go : (z : Bool) → eqb senders 0 ≡ z
            → (holds (cond z 0 (without (quiet_of s at running shown) (bit_or (word_from s (at + 2 * n)) unwilling))) j && not (unheard j))
            ≡ ((not (own j) && not (mark_bit w j || holds unwilling j)) && ltb 0 (heard radio j))
        go true e =
            ap (λ (x : Bool). x && not (unheard j)) (bit-zero (31 - j))
            ∙ sym (ap (λ (x : Bool). (not (own j) && not (mark_bit w j || holds unwilling j)) && x)
            (none-heard six_rules k few (running-set st) s at w reads showing j l e)
            ∙ and-false (not (own j) && not (mark_bit w j || holds unwilling j)))
        go false e =
            ap (λ (x : Bool). x && not (unheard j))
            (bit-without (quiet_of s at running shown) (bit_or (word_from s (at + 2 * n)) unwilling) (31 - j)
            ∙ ap₂ (λ (x y : Bool). x && not y) (quiet-bit j l g)
            (bit-or (word_from s (at + 2 * n)) unwilling (31 - j) ∙ ap (λ (x : Bool). x || holds unwilling j) (mark-bit n s at w reads j l)))
            ∙ listener (own j) refl

    unwilling_now : (j : ℕ) → j < n → goes j ≡ true → ((truck ts j).unwilling || (not (own j) && notices j)) ≡ holds unwilling' j
    unwilling_now j l g =
        ap (λ (x : Bool). x || (not (own j) && notices j)) (unwilling_is st j l ∙ ap (λ (x : Bool). x && holds unwilling j) (runs-now j g))
        ∙ go (holds unwilling j) (own j) (mark_bit w j) (ltb 0 (heard radio j))
        ∙ sym (bit-or (bit_or (bit_and (going_on s at running) unwilling) (bit_and (quiet_of s at running shown) (word_from s (at + 2 * n)))) p.some (31 - j)
        ∙ ap₂ ◌||◌
        (bit-or (bit_and (going_on s at running) unwilling) (bit_and (quiet_of s at running shown) (word_from s (at + 2 * n))) (31 - j)
        ∙ ap₂ ◌||◌ (bit-and (going_on s at running) unwilling (31 - j) ∙ ap (λ (x : Bool). x && holds unwilling j) (going-bit n s at w reads running j l ∙ g))
        (bit-and (quiet_of s at running shown) (word_from s (at + 2 * n)) (31 - j) ∙ ap₂ ◌&&◌ (quiet-bit j l g) (mark-bit n s at w reads j l)))
        (some-bit j l g))
      where
        go : (u x m h : Bool) → (u || (not x && (m || h))) ≡ (((true && u) || (not x && m)) || ((not x && not (m || u)) && h))
        go true x m h = refl
        go false true m h = refl
        go false false true h = refl
        go false false false h = refl

    pub bit-stands : Stands n last (suc k) opening (next_trucks six_rules n k w ts) by (filled (noted ends (without running (going_on s at running)) (suc k)) 32 ends) sent (going_on s at running) (bit_or decided 0) 0 0 0
        (bit_or (bit_or (bit_and (going_on s at running) unwilling) (bit_and (quiet_of s at running p.shown) (word_from s (at + 2 * n)))) p.some)
    bit-stands =
        stands_on unwilling' by
        (λ j l g.
        subst (λ (x : Truck). x ≡ standing (opening j) x.estimate x.heard true false (holds 0 j) (holds unwilling' j) (get_or ends j 0) x.sent) (sym (bit-plays j))
        (plays-on (truck ts j).estimate ((truck ts j).unwilling || (not (own j) && notices j)) j l g unwilling' (unwilling_now j l g)))
        st.crushers
        (sorted-kept st six_rules few small s at w reads (λ t. refl) (λ j. ap (λ (t : Truck). t.estimate) (bit-plays j)))

  -- ---- accept
  module _ (o : suc k % 6 ≡ 0) where
    vetoes_is : (j : ℕ) → j < n → holds running j ≡ true → (b : Bool) → six_rules.sends (suc k) b (truck ts j) ≡ (holds unwilling j || holds 0 j)
    vetoes_is j l r b =
        sends-accept (suc k) b (truck ts j) o ∙ unwilling_is st j l ∙ ap (λ (x : Bool). x && holds unwilling j) r
        ∙ sym (ap (λ (x : Bool). holds unwilling j || x) (bit-zero (31 - j)) ∙ or-false (holds unwilling j))

    silent : (j : ℕ) → j < n → holds running j ≡ true → holds running j ≡ true → holds unwilling j ≡ false → holds 0 j ≡ false
    silent j l r h e = bit-zero (31 - j)

    abbrev noticed : ℕ → Bool
    noticed j = mark_bit w j || ltb 0 (heard radio j)

    accept-plays : (j : ℕ) → plays_in six_rules radio (suc k) w ts j ≡ after_accept (suc k) (noticed j) (truck ts j)
    unfolding radio_in
    accept-plays j = plays-accept n (active_bit w) (suc k) w ts j o

    module _ {r : Played} (p : Accepts s at n running unwilling r) where
      abbrev may : ℕ
      may = willing_of s at n running unwilling

      -- as a veto round, in which the unwilling send and all others heard one value
      abbrev as_veto : Vetoed
      as_veto =
          record {
            going = going_on s at running;
            senders = bit_and (going_on s at running) unwilling;
            mark = word_from s (at + 2 * n);
            on = bit_xor (going_on s at running) (bit_xor may p.some);
            done = bit_xor may p.some;
          }

      vetoed_as : Vetoes s at n running unwilling running 0 as_veto
      vetoed_as =
          record {
            going = refl;
            senders = ap (bit_and (going_on s at running)) (sym (or_zero_r unwilling));
            mark = refl;
            done = members_ext
                (members-rest may 32 (λ q. eqb (without (bit_and (going_on s at running) unwilling) (row_from s (at + 3 * n) n q)) 0) may-lt p.heard)
                (λ q. bit (may_of s at n running unwilling running) q && eqb (without (bit_and (going_on s at running) (bit_or unwilling 0)) (row_from s (at + 3 * n) n q)) 0)
                (λ q l. ap₂ (λ (x : Bool) (y : ℕ). x && eqb (without (bit_and (going_on s at running) y) (row_from s (at + 3 * n) n q)) 0) (same q) (sym (or_zero_r unwilling)));
            on = refl;
          }
        where
          may-lt : may < 2 ^ 32
          may-lt = xor_lt 32 (going_on s at running) (bit_and (going_on s at running) (bit_or (word_from s (at + 2 * n)) unwilling)) (going-lt (running-set st) s at)
              (omega (arith, and_le_l (going_on s at running) (bit_or (word_from s (at + 2 * n)) unwilling), going-lt (running-set st) s at))

          twice : (x y : Bool) → (x && not y) ≡ ((x && not y) && x)
          twice true true = refl
          twice true false = refl
          twice false y = refl

          -- those that go on run
          same : (q : ℕ) → bit may q ≡ bit (may_of s at n running unwilling running) q
          same q =
              bit-without (going_on s at running) (bit_or (word_from s (at + 2 * n)) unwilling) q
              ∙ ap (λ (x : Bool). x && not (bit (bit_or (word_from s (at + 2 * n)) unwilling) q))
              (bit-without running (word_from s at) q ∙ twice (bit running q) (bit (word_from s at) q)
              ∙ sym (bit-and (going_on s at running) running q ∙ ap (λ (x : Bool). x && bit running q) (bit-without running (word_from s at) q)))
              ∙ sym (bit-without (bit_and (going_on s at running) running) (bit_or (word_from s (at + 2 * n)) unwilling) q)

      abbrev done : ℕ
      done = bit_xor may p.some

      abbrev on : ℕ
      on = bit_xor (going_on s at running) done

      done_is : (j : ℕ) → j < n → goes j ≡ true → holds done j ≡ accepts (noticed j) (truck ts j)
      done_is j l g =
          done-bit st six_rules few small s at w reads unwilling running 0 vetoes_is silent vetoed_as j l
          ∙ ap₂ (λ (x y : Bool). x && ((y && not (holds unwilling j)) && not (mark_bit w j) && not (ltb 0 (heard radio j)))) g (runs-now j g)
          ∙ go (holds unwilling j) (mark_bit w j) (ltb 0 (heard radio j))
          ∙ sym (ap (λ (x : Bool). not x && not (noticed j)) (unwilling_is st j l ∙ ap (λ (x : Bool). x && holds unwilling j) (runs-now j g)))
        where
          go : (u m h : Bool) → ((true && not u) && not m && not h) ≡ (not u && not (m || h))
          go true m h = refl
          go false true h = refl
          go false false h = refl

      ons : (j : ℕ) → j < n → holds on j ≡ (goes j && not (holds done j))
      ons = on_bit st six_rules few small s at w reads unwilling running 0 vetoes_is silent vetoed_as

      among : (j : ℕ) → j < n → holds done j ≡ true → goes j ≡ true
      among = done-goes st six_rules few small s at w reads unwilling running 0 vetoes_is silent vetoed_as

      pub accept-radio : RadioSets (next_radio six_rules n k w ts) s (at + 3 * n) n (going_on s at running) (bit_and (going_on s at running) unwilling) (word_from s (at + 2 * n))
      accept-radio = veto-radio st six_rules few small s at w reads unwilling running 0 vetoes_is silent vetoed_as

      pub accept-stands : Stands n last (suc k) opening (next_trucks six_rules n k w ts) by
          (filled (noted ends (without running (bit_xor (going_on s at running) (bit_xor (willing_of s at n running unwilling) p.some))) (suc k)) 32 ends) sent
          (bit_xor (going_on s at running) (bit_xor (willing_of s at n running unwilling) p.some)) (bit_or decided (bit_xor (willing_of s at n running unwilling) p.some)) 0 0 0 0
      accept-stands =
          stands-next st six_rules few small s at w reads on (bit_or decided done) 0 0 0 0 by sent (λ j. holds done j)
          ons (λ j l. bit-or decided done (31 - j))
          (on-lt st six_rules few small s at w reads unwilling running 0 vetoes_is silent vetoed_as)
          (on_none st six_rules few small s at w reads unwilling running 0 vetoes_is silent vetoed_as)
          among
          (λ j l r b. stop_six (holds 0 j) j l r)
          (λ j l g.
          subst (λ (x : Truck). x ≡ standing (opening j) x.estimate x.heard (not (holds done j)) (holds done j) (holds 0 j) (holds 0 j) (cond (holds done j) (suc k) (get_or ends j 0)) x.sent) (sym (accept-plays j))
          (play j l g (holds done j) (sym (done_is j l g))))
          st.crushers st.digits counts
          (λ j l h m. memory j l (runs-now j (and_left (goes j) (not (holds done j)) (sym (ons j l) ∙ h))))
          (sorted-kept st six_rules few small s at w reads (λ t. refl) (λ j. ap (λ (t : Truck). t.estimate) (accept-plays j)))
        where
          play : (j : ℕ) → j < n → goes j ≡ true → (dn : Bool) → accepts (noticed j) (truck ts j) ≡ dn
              → after_accept (suc k) (noticed j) (truck ts j)
              ≡ standing (opening j) (truck ts j).estimate (truck ts j).heard (not dn) dn (holds 0 j) (holds 0 j) (cond dn (suc k) (get_or ends j 0)) (truck ts j).sent
          play j l g dn e =
              truck-same (truck ts j).estimate (truck ts j).sent (opening_is st j l) (unmarked j l ∙ sym (none_in (not dn) j)) (value (not dn)) (sym (none_in (not dn) j))
              (ap (λ (b : Bool). cond b (Decided (suc k)) (truck ts j).state) e ∙ state_is st j l (runs-now j g) dn)
            where
              value : (b : Bool) → (truck ts j).heard ≡ cond b (truck ts j).heard Nothing
              value true = refl
              value false = no_value j l (runs-now j g)
