-- The sets after a round of the two-round cycle stand for the trucks after it.
use mathlib.Core.Path.{◌≡◌, refl, ap, ap₂, sym, subst, ◌∙◌}
use mathlib.Core.Bool.{Bool, true, false, cond, not, ◌&&◌, ◌||◌, and-true, and-false, or-false, true≢false}
use mathlib.Core.List.{List}
use Prim.Native.Nat.{ℕ, suc, ◌+◌, ◌*◌, ◌-◌, ◌%◌, ◌^◌, ◌≤◌, ◌<◌}
use native.Mathlib.Decide.{ℕ_discrete}
use native.Mathlib.Omega.{arith}
use borrow.Author.Tests.{eq-eqb, ne_eqb}
use lib.Bits.{bit_or}
use lib.Dec.{eqb, ltb}
use lib.Pow.{shl_exact}
use lib.ListN.{get_or}
use Rattle.basics.specs.Bits.{bit, odd}
use Rattle.basics.specs.Lists.{filled}
use Rattle.basics.proofs.Laws.{and_left}
use Rattle.basics.proofs.Bits.{bit-or}
use Rattle.radio.specs.Round.{stop_bit, active_bit, mark_bit}
use Rattle.radio.specs.Radio.{Radio, heard}
use Rattle.sets.specs.Sets.{without}
use Rattle.sets.proofs.Words.{bit_high, bit-without, bit-zero, bit_shifted, bit_below}
use Rattle.counters.specs.Counters.{digit_of, tally, counted_up}
use Rattle.counters.proofs.Counts.{tally_more, length_up}
use Rattle.protocol.specs.declared.Heard.TheVariants.{Nothing}
use Rattle.protocol.specs.declared.State.TheVariants.{Decided}
use Rattle.protocol.specs.declared.Sent.{Sent}
use Rattle.protocol.specs.declared.Truck.{Truck}
use Rattle.protocol.specs.Cycles.{radio_in}
use Rattle.protocol.specs.Rules.{two_rules, truck, is_one, is_several, vetoes, different, least_or, counted, stops, proposed, decides, vetoed, values_heard, plays}
use Rattle.protocol.proofs.Values.{one_only}
use Rattle.protocol.proofs.OneRound.{plays_proposal, plays-veto}
use Rattle.protocol.proofs.Counts.{counts-after}
use Rattle.playback.specs.declared.replay.Proposed.{Proposed}
use Rattle.playback.specs.declared.replay.Vetoed.{Vetoed}
use Rattle.playback.specs.Sets.{estimates}
use Rattle.playback.specs.Listens.{heard_from, some_value}
use Rattle.playback.specs.Standing.{ReadsAs, Active, next_trucks, holds, word_from, standing, sent_by, Stands, unread_of, wanted_of, senders_of, Proposes, Vetoes, noted}
use Rattle.playback.specs.Grading.{RadioSets}
use Rattle.playback.proofs.AnyStood.{next_radio, mark-bit, going-bit, going-lt, going-none, radio_sets}
use Rattle.playback.proofs.Stood.{truck-same, none_in, running-set, state_is, opening_is, running_is, mark_is, unwilling_is, next-plays, estimate-after, sorted-kept, end_now, stands-next, proposing, wanted-none, listens, now-sorted, crushers-kept}
use Rattle.playback.proofs.Stood.{vetoing, own-veto, done-bit, on_bit, on_none, on-lt, done-goes}
use Rattle.playback.proofs.Stood as stood

added : (b : Bool) (c : ℕ) → counted b c ≡ c + digit_of b
added true c = refl
added false c = omega arith

module _ {n last k : ℕ} {opening : ℕ → ℕ} {ts : List Truck} {by ends sent : List ℕ} {running decided marked one several : ℕ} (st : Stands n last k opening ts by ends sent running decided marked one several 0)
    (few : n ≤ 32) (small : (j : ℕ) → j < n → estimates ts j < 16) (room : (j : ℕ) → j < n → ((truck ts j).sent.proposals < 255) × ((truck ts j).sent.vetoes < 255))
    (s : List ℕ) (at : ℕ) (w : List ℕ) (reads : ReadsAs s at n w) where
  abbrev radio : Radio
  radio = next_radio two_rules n k w ts

  abbrev now : ℕ → Truck
  now j = truck (next_trucks two_rules n k w ts) j

  -- nobody is unwilling
  willing : (j : ℕ) → j < n → (truck ts j).unwilling ≡ false
  willing j l = unwilling_is st j l ∙ none_in (holds running j) j

  stop_two : (m u : Bool) (j : ℕ) → j < n
      → stops (suc k) (truck ts j) ≡ standing (opening j) (truck ts j).estimate Nothing false false m u (suc k) (truck ts j).sent
  stop_two m u j l = truck-same (truck ts j).estimate (truck ts j).sent (opening_is st j l) refl refl (willing j l) refl

  -- what truck j sent with the round, where `up` says who is counted as a sender of which kind
  counts-next : (j : ℕ) → j < n → (up : ℕ) → bit up (31 - j) ≡ (odd (suc k) && (next_radio two_rules n k w ts).sends j) → bit up (32 + (31 - j)) ≡ (not (odd (suc k)) && (next_radio two_rules n k w ts).sends j)
      → (truck (next_trucks two_rules n k w ts) j).sent ≡ sent_by (counted_up sent up) 8 (31 - j)
  counts-next j l up ep ev =
      let c = counts-after n (active_bit w) (suc k) w ts j l in
      ap₂ (λ (p v : ℕ). record { proposals = p; vetoes = v })
      (c.0 ∙ one_more (31 - j) (truck ts j).sent.proposals (ap (λ (x : Sent). x.proposals) (st.counts j l)) (room j l).0 ep)
      (c.1 ∙ one_more (32 + (31 - j)) (truck ts j).sent.vetoes (ap (λ (x : Sent). x.vetoes) (st.counts j l)) (room j l).1 ev)
    where
      one_more : (p c : ℕ) {b : Bool} → c ≡ tally sent 8 p → c < 255 → bit up p ≡ b → counted b c ≡ tally (counted_up sent up) 8 p
      one_more p c {b} e lt eb =
          added b c ∙ ap₂ (λ (x : ℕ) (y : Bool). x + digit_of y) e (sym eb) ∙ sym (tally_more sent up p st.digits (omega (arith, e)))

  -- ---- a proposal round
  module _ (o : odd (suc k) ≡ true) where
    asks : (b : Bool) (t : Truck) → two_rules.sends (suc k) b t ≡ b
    asks b t = ap (λ (x : Bool). cond x b (vetoes t)) o

    abbrev values : ℕ → List ℕ
    values j = values_heard radio ts j

    plays_are : (j : ℕ) → plays radio (suc k) w ts j ≡ proposed (radio.sends j) (mark_bit w j) (different (values j)) (least_or (truck ts j).estimate (values j)) (truck ts j)
    unfolding radio_in
    plays_are j = plays_proposal n (active_bit w) (suc k) w ts j o

    takes : (j : ℕ) → j < n → (now j).estimate ≡ cond (holds running j && not (stop_bit w j)) (cond (mark_bit w j) (truck ts j).estimate (least_or (truck ts j).estimate (values j))) (truck ts j).estimate
    takes j l =
        estimate-after st two_rules few small s at w reads (λ t. refl) j l
        ∙ ap (λ (t : Truck). cond (holds running j && not (stop_bit w j)) t.estimate (truck ts j).estimate) (plays_are j)

    module _ (left : ℕ) (end : last ≡ k + left) (active : ℕ) (actives : Active n running w active) {by' : List ℕ} {r : Proposed} (p : Proposes s at n left running active by by' r) where
      abbrev unread : ℕ
      unread = unread_of left (word_from s (at + 2 * n))

      abbrev changed : ℕ
      changed = without (bit_or r.one r.several) r.mark

      goes : (j : ℕ) → j < n → holds r.going j ≡ (holds running j && not (stop_bit w j))
      goes j l = ap (λ (x : ℕ). holds x j) p.going ∙ going-bit n s at w reads running j l

      marks : (j : ℕ) → j < n → holds r.mark j ≡ mark_bit w j
      marks j l = ap (λ (x : ℕ). holds x j) p.mark ∙ mark-bit n s at w reads j l

      one_bit : (j : ℕ) → j < n → holds r.one j ≡ (((holds running j && not (stop_bit w j)) && not (holds unread j)) && is_one (different (values j)))
      one_bit j l = p.one.each (31 - j) (omega arith) ∙ listens st two_rules few small s at w reads active actives asks unread is_one refl j l

      several-bit : (j : ℕ) → j < n → holds r.several j ≡ (((holds running j && not (stop_bit w j)) && not (holds unread j)) && is_several (different (values j)))
      several-bit j l = p.several.each (31 - j) (omega arith) ∙ listens st two_rules few small s at w reads active actives asks unread is_several refl j l

      -- the row of a truck was read, unless it has a mark and rounds are left
      was_read : (j : ℕ) → j < n → (mark_bit w j ≡ true → suc k ≡ last) → holds unread j ≡ false
      was_read j l h = go (ℕ_discrete left 1) (mark_bit w j) refl
        where
          go : Dec (left ≡ 1) → (b : Bool) → mark_bit w j ≡ b → holds unread j ≡ false
          go (yes e) b q = ap (λ (c : Bool). holds (cond c 0 (word_from s (at + 2 * n))) j) (eq-eqb left 1 e) ∙ bit-zero (31 - j)
          go (no e) true q = absurd (e (omega (arith, h q, end)))
          go (no e) false q = ap (λ (c : Bool). holds (cond c 0 (word_from s (at + 2 * n))) j) (ne_eqb left 1 e) ∙ mark-bit n s at w reads j l ∙ q

      changed-bit : (j : ℕ) → holds changed j ≡ ((holds r.one j || holds r.several j) && not (holds r.mark j))
      changed-bit j = bit-without (bit_or r.one r.several) r.mark (31 - j) ∙ ap (λ (b : Bool). b && not (holds r.mark j)) (bit-or r.one r.several (31 - j))

      changes : (j : ℕ) → j < n → holds changed j ≡ ((holds running j && not (stop_bit w j)) && not (mark_bit w j) && some_value (different (values j)))
      changes j l = changed-bit j ∙ ap (λ (b : Bool). (holds r.one j || holds r.several j) && not b) (marks j l) ∙ go (mark_bit w j) refl
        where
          both : (g a b : Bool) → (((g && true) && a || (g && true) && b) && true) ≡ ((g && true) && (a || b))
          both true true b = refl
          both true false true = refl
          both true false false = refl
          both false a b = refl

          go : (m : Bool) → mark_bit w j ≡ m
              → ((holds r.one j || holds r.several j) && not m) ≡ ((holds running j && not (stop_bit w j)) && not m && some_value (different (values j)))
          go true e =
              and-false (holds r.one j || holds r.several j)
              ∙ sym (ap (λ (b : Bool). b && some_value (different (values j))) (and-false (holds running j && not (stop_bit w j))))
          go false e =
              let u = was_read j l (λ x. absurd (true≢false (sym x ∙ e))) in
              ap₂ (λ (x y : Bool). (x || y) && true)
              (one_bit j l ∙ ap (λ (b : Bool). ((holds running j && not (stop_bit w j)) && not b) && is_one (different (values j))) u)
              (several-bit j l ∙ ap (λ (b : Bool). ((holds running j && not (stop_bit w j)) && not b) && is_several (different (values j))) u)
              ∙ both (holds running j && not (stop_bit w j)) (is_one (different (values j))) (is_several (different (values j)))

      none : (j : ℕ) → n ≤ j → j < 32 → holds changed j ≡ false
      none j h l =
          changed-bit j
          ∙ ap₂ (λ (x y : Bool). (x || y) && not (holds r.mark j))
          (p.one.each (31 - j) (omega arith) ∙ ap (λ (b : Bool). b && is_one (heard_from s (at + 3 * n) n (senders_of s at running active) by (31 - j)).heard) (wanted-none st two_rules few small s at w reads active actives asks unread j h l))
          (p.several.each (31 - j) (omega arith) ∙ ap (λ (b : Bool). b && is_several (heard_from s (at + 3 * n) n (senders_of s at running active) by (31 - j)).heard) (wanted-none st two_rules few small s at w reads active actives asks unread j h l))

      taken : (j : ℕ) → j < n → holds changed j ≡ true → (c : ℕ) → c < 16
          → holds (get_or p.taking c 0) j ≡ eqb (heard_from s (at + 3 * n) n (senders_of s at running active) by (31 - j)).least c
      taken j l h c lc =
          (p.sorted c lc).each (31 - j) (omega arith)
          ∙ ap (λ (b : Bool). b && eqb (heard_from s (at + 3 * n) n (senders_of s at running active) by (31 - j)).least c)
          (asked (holds r.one j) refl (holds r.several j) refl (and_left (holds r.one j || holds r.several j) (not (holds r.mark j)) (sym (changed-bit j) ∙ h)))
        where
          asked : (x : Bool) → holds r.one j ≡ x → (y : Bool) → holds r.several j ≡ y → (x || y) ≡ true → holds (wanted_of s at n left running active) j ≡ true
          asked true ex y ey e =
              and_left (holds (wanted_of s at n left running active) j) (is_one (heard_from s (at + 3 * n) n (senders_of s at running active) by (31 - j)).heard) (sym (p.one.each (31 - j) (omega arith)) ∙ ex)
          asked false ex true ey e =
              and_left (holds (wanted_of s at n left running active) j) (is_several (heard_from s (at + 3 * n) n (senders_of s at running active) by (31 - j)).heard) (sym (p.several.each (31 - j) (omega arith)) ∙ ey)
          asked false ex false ey e = absurd (true≢false (sym e))

      pub proposal_radio : RadioSets (next_radio two_rules n k w ts) s (at + 3 * n) n r.going r.senders r.mark
      proposal_radio =
          rw (p.going, p.senders, p.mark)
          (radio_sets two_rules k few (running-set st) s at w reads (proposing st two_rules few small s at w reads active actives asks))

      pub proposal_stands : Stands n last (suc k) opening (next_trucks two_rules n k w ts) by' (filled (noted ends (without running r.going) (suc k)) 32 ends) (counted_up sent r.senders) r.going decided r.mark r.one r.several 0
      proposal_stands =
          stands-next st two_rules few small s at w reads r.going decided r.mark r.one r.several 0 by' (counted_up sent r.senders) (λ j. false)
          (λ j l. goes j l ∙ sym (and-true (holds running j && not (stop_bit w j)))) (λ j l. sym (or-false (holds decided j)))
          (rw p.going (going-lt (running-set st) s at))
          (λ j h l. ap (λ (x : ℕ). holds x j) p.going ∙ going-none (running-set st) s at j h l)
          (λ j l d. absurd (true≢false (sym d)))
          (λ j l g b. stop_two (holds r.mark j) (holds 0 j) j l)
          (λ j l g.
          subst (λ (x : Truck). x ≡ standing (opening j) x.estimate x.heard true false (holds r.mark j) (holds 0 j) (get_or ends j 0) x.sent) (sym (plays_are j))
          (truck-same (cond (mark_bit w j) (truck ts j).estimate (least_or (truck ts j).estimate (values j)))
          (record { proposals = counted (radio.sends j) (truck ts j).sent.proposals; vetoes = (truck ts j).sent.vetoes })
          (opening_is st j l) (sym (marks j l)) refl (willing j l ∙ sym (bit-zero (31 - j))) (running_is st j l (and_left (holds running j) (not (stop_bit w j)) g))))
          (crushers-kept st two_rules few small s at w reads active actives asks takes changed p.taking by' p.took changes none taken)
          (length_up sent r.senders st.digits)
          (λ j l. counts-next j l r.senders (ap (λ (x : ℕ). holds x j) p.senders ∙ (proposing st two_rules few small s at w reads active actives asks).each j l ∙ sym (ap (λ (b : Bool). b && radio.sends j) o))
          (bit_high r.senders 32 (32 + (31 - j)) (rw p.senders (proposing st two_rules few small s at w reads active actives asks).fits) (omega arith) ∙ sym (ap (λ (b : Bool). not b && radio.sends j) o)))
          (λ j l g h.
          let on = sym (goes j l) ∙ g in
          let u = was_read j l (λ m. h (marks j l ∙ m)) in
          let e = ap (λ (t : Truck). t.heard) (next-plays st two_rules few small s at w reads j l on ∙ plays_are j) in (
            ap is_one e ∙ sym (one_bit j l ∙ ap₂ (λ (x y : Bool). (x && not y) && is_one (different (values j))) on u),
            ap is_several e ∙ sym (several-bit j l ∙ ap₂ (λ (x y : Bool). (x && not y) && is_several (different (values j))) on u),
          ))
          (now-sorted st two_rules few small s at w reads active actives asks takes changed p.taking by' p.took changes none taken)

  -- ---- a veto round
  module _ (o : odd (suc k) ≡ false) where
    vetoes_is : (j : ℕ) → j < n → holds running j ≡ true → (b : Bool) → two_rules.sends (suc k) b (truck ts j) ≡ (holds marked j || holds several j)
    vetoes_is j l r b =
        ap (λ (x : Bool). cond x b (vetoes (truck ts j))) o
        ∙ ap (λ (b : Bool). b || is_several (truck ts j).heard) (mark_is st j l ∙ ap (λ (b : Bool). b && holds marked j) r) ∙ go (holds marked j) refl
      where
        go : (b : Bool) → holds marked j ≡ b → (b || is_several (truck ts j).heard) ≡ (b || holds several j)
        go true e = refl
        go false e = (st.heard j l r (λ x. absurd (true≢false (sym x ∙ e)))).1

    -- a truck that heard one value did not hear several
    silent : (j : ℕ) → j < n → holds running j ≡ true → holds one j ≡ true → holds marked j ≡ false → holds several j ≡ false
    silent j l r h e =
        let m = st.heard j l r (λ x. absurd (true≢false (sym x ∙ e))) in
        sym m.1 ∙ one_only (truck ts j).heard (m.0 ∙ h)

    abbrev veto : ℕ → Bool
    veto j = ltb 0 (heard radio j)

    plays_are' : (j : ℕ) → plays radio (suc k) w ts j ≡ vetoed (suc k) (radio.sends j) (mark_bit w j) (veto j) (truck ts j)
    unfolding radio_in
    plays_are' j = plays-veto n (active_bit w) (suc k) w ts j o

    -- a truck that goes on decides as the rules say
    decides_as : (j : ℕ) → j < n → (holds running j && not (stop_bit w j)) ≡ true
        → ((holds one j && not (holds marked j)) && not (mark_bit w j) && not (veto j)) ≡ decides (mark_bit w j) (veto j) (truck ts j)
    decides_as j l g = go (holds marked j) refl
      where
        r : holds running j ≡ true
        r = and_left (holds running j) (not (stop_bit w j)) g

        turned : (x y z : Bool) → ((x && true) && y && z) ≡ (z && y && x)
        turned true true true = refl
        turned true true false = refl
        turned true false true = refl
        turned true false false = refl
        turned false true true = refl
        turned false true false = refl
        turned false false true = refl
        turned false false false = refl

        go : (b : Bool) → holds marked j ≡ b → ((holds one j && not b) && not (mark_bit w j) && not (veto j)) ≡ decides (mark_bit w j) (veto j) (truck ts j)
        go true e =
            ap (λ (x : Bool). x && not (mark_bit w j) && not (veto j)) (and-false (holds one j))
            ∙ sym (ap (λ (x : Bool). not x && not (mark_bit w j) && is_one (truck ts j).heard) (own-veto st two_rules few small s at w reads marked one several vetoes_is silent j l g e))
        go false e =
            ap (λ (x : Bool). (x && true) && not (mark_bit w j) && not (veto j)) (sym (st.heard j l r (λ x. absurd (true≢false (sym x ∙ e)))).0)
            ∙ turned (is_one (truck ts j).heard) (not (mark_bit w j)) (not (veto j))

    module _ {r : Vetoed} (p : Vetoes s at n running marked one several r) where
      abbrev done : ℕ → Bool
      done j = holds r.done j

      done_is : (j : ℕ) → j < n → (holds running j && not (stop_bit w j)) ≡ true → holds r.done j ≡ decides (mark_bit w j) (veto j) (truck ts j)
      done_is j l g =
          done-bit st two_rules few small s at w reads marked one several vetoes_is silent p j l
          ∙ ap₂ ◌&&◌ g (decides_as j l g)

      ons : (j : ℕ) → j < n → holds r.on j ≡ ((holds running j && not (stop_bit w j)) && not (holds r.done j))
      ons = on_bit st two_rules few small s at w reads marked one several vetoes_is silent p

      among : (j : ℕ) → j < n → holds r.done j ≡ true → (holds running j && not (stop_bit w j)) ≡ true
      among = done-goes st two_rules few small s at w reads marked one several vetoes_is silent p

      -- the round of those that decide
      pub veto_ended : (j : ℕ) → j < n → holds r.done j ≡ true → get_or (filled (noted ends (without running r.on) (suc k)) 32 ends) j 0 ≡ suc k
      veto_ended j l h =
          end_now st two_rules few small s at w reads r.on (bit_or decided r.done) 0 0 0 0 by sent done ons (λ j l. bit-or decided r.done (31 - j)) j l h (among j l h)

      pub veto-radio : RadioSets (next_radio two_rules n k w ts) s (at + 3 * n) n r.going r.senders r.mark
      veto-radio = stood.veto-radio st two_rules few small s at w reads marked one several vetoes_is silent p

      pub veto-stands : Stands n last (suc k) opening (next_trucks two_rules n k w ts) by (filled (noted ends (without running r.on) (suc k)) 32 ends) (counted_up sent (r.senders * 2 ^ 32 % 2 ^ 64)) r.on (bit_or decided r.done) 0 0 0 0
      veto-stands =
          stands-next st two_rules few small s at w reads r.on (bit_or decided r.done) 0 0 0 0 by (counted_up sent (r.senders * 2 ^ 32 % 2 ^ 64)) done
          ons (λ j l. bit-or decided r.done (31 - j))
          (on-lt st two_rules few small s at w reads marked one several vetoes_is silent p)
          (on_none st two_rules few small s at w reads marked one several vetoes_is silent p)
          among
          (λ j l g b. stop_two (holds 0 j) (holds 0 j) j l)
          (λ j l g.
          subst (λ (x : Truck). x ≡ standing (opening j) x.estimate x.heard (not (done j)) (done j) (holds 0 j) (holds 0 j) (cond (done j) (suc k) (get_or ends j 0)) x.sent) (sym (plays_are' j))
          (play j l g (done j) (sym (done_is j l g))))
          st.crushers
          (length_up sent (r.senders * 2 ^ 32 % 2 ^ 64) st.digits)
          (λ j l. counts-next j l (r.senders * 2 ^ 32 % 2 ^ 64) (ap (λ (x : ℕ). bit x (31 - j)) moved ∙ bit_below r.senders 32 (31 - j) (omega arith) ∙ sym (ap (λ (b : Bool). b && radio.sends j) o))
          (ap (λ (x : ℕ). bit x (32 + (31 - j))) moved ∙ bit_shifted r.senders 32 (31 - j) ∙ ap (λ (x : ℕ). holds x j) p.senders
          ∙ (vetoing st two_rules few small s at w reads marked one several vetoes_is silent).each j l ∙ sym (ap (λ (b : Bool). not b && radio.sends j) o)))
          (λ j l g h.
          let e : (now j).heard ≡ Nothing = ap (λ (t : Truck). t.heard) (next-plays st two_rules few small s at w reads j l (and_left (holds running j && not (stop_bit w j)) (not (done j)) (sym (ons j l) ∙ g)) ∙ plays_are' j) in
          (ap is_one e ∙ sym (bit-zero (31 - j)), ap is_several e ∙ sym (bit-zero (31 - j))))
          (sorted-kept st two_rules few small s at w reads (λ t. refl) (λ j. ap (λ (t : Truck). t.estimate) (plays_are' j)))
        where
          moved : r.senders * 2 ^ 32 % 2 ^ 64 ≡ r.senders * 2 ^ 32
          moved = shl_exact 32 32 64 (rw p.senders (vetoing st two_rules few small s at w reads marked one several vetoes_is silent).fits) (omega arith)

          play : (j : ℕ) → j < n → (holds running j && not (stop_bit w j)) ≡ true → (dn : Bool) → decides (mark_bit w j) (veto j) (truck ts j) ≡ dn
              → vetoed (suc k) (radio.sends j) (mark_bit w j) (veto j) (truck ts j)
              ≡ standing (opening j) (truck ts j).estimate Nothing (not dn) dn (holds 0 j) (holds 0 j) (cond dn (suc k) (get_or ends j 0))
              (vetoed (suc k) (radio.sends j) (mark_bit w j) (veto j) (truck ts j)).sent
          play j l g dn e =
              truck-same (truck ts j).estimate (vetoed (suc k) (radio.sends j) (mark_bit w j) (veto j) (truck ts j)).sent
              (opening_is st j l) (sym (none_in (not dn) j)) (none (not dn)) (willing j l ∙ sym (none_in (not dn) j))
              (ap (λ (b : Bool). cond b (Decided (suc k)) (truck ts j).state) e ∙ state_is st j l (and_left (holds running j) (not (stop_bit w j)) g) dn)
            where
              none : (b : Bool) → Nothing ≡ cond b Nothing Nothing
              none true = refl
              none false = refl
