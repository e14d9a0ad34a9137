-- The sets of a run stand for the trucks of a fleet record after each round, for the rules of any cycle. What needs no record is in AnyStood.
use mathlib.Core.Path.{◌≡◌, refl, ap, ap₂, sym, subst, ◌∙◌}
use mathlib.Core.Bool.{Bool, true, false, cond, not, ◌&&◌, ◌||◌, and-false, true≢false, false≢true}
use mathlib.Core.List.{List, map}
use Prim.Native.Nat.{ℕ, suc, ◌+◌, ◌*◌, ◌-◌, ◌^◌, ◌≤◌, ◌<◌}
use native.Mathlib.Decide.{dec_lt}
use native.Mathlib.Omega.{arith}
use borrow.Author.Tests.{eqb-true, lt-ltb, le-ltb, not-true}
use lib.Bits.{bit_and, bit_or, xor_lt}
use lib.Dec.{eqb, ltb}
use lib.ListN.{length, get_or}
use Rattle.basics.specs.Bits.{bit}
use Rattle.basics.specs.Lists.{who, filled}
use Rattle.basics.proofs.Laws.{get_or-filled, length-filled, and_left, and_right}
use Rattle.radio.specs.Round.{stop_bit, active_bit, mark_bit}
use Rattle.radio.specs.Radio.{hears, heard, heard_by}
use Rattle.radio.proofs.Laws.{hears_itself, count-some}
use Rattle.basics.proofs.Bits.{bit-and, bit-or, bit-xor, one_of}
use Rattle.sets.proofs.Words.{bit-without, bit-zero}
use Rattle.sets.proofs.Mirror.{mirror_twice}
use Rattle.bitreader.specs.Bits.{mirrored}
use Rattle.bitreader.proofs.Digits.{mirrored-lt}
use Rattle.protocol.specs.declared.Heard.{Heard}
use Rattle.protocol.specs.declared.Heard.TheVariants.{Nothing, One, Several}
use Rattle.protocol.specs.declared.State.{State}
use Rattle.protocol.specs.declared.State.TheVariants.{Running, Stopped, Decided}
use Rattle.protocol.specs.declared.Sent.{Sent}
use Rattle.protocol.specs.declared.Truck.{Truck}
use Rattle.protocol.specs.Cycles.{Rules, radio_in, values_in, plays_in, after_in, is_running, turn}
use Rattle.protocol.specs.Rules.{recorded, opened, truck, is_one, is_several, runs, different, least_or, values_heard}
use Rattle.protocol.proofs.AnyRound.{after_cases}
use Rattle.protocol.proofs.Values.{least_silent, least-same}
use Rattle.playback.specs.declared.hearing.Values.{Values}
use Rattle.playback.specs.declared.replay.Vetoed.{Vetoed}
use Rattle.sets.specs.Sets.{Members, without}
use Rattle.playback.specs.Sets.{Sorted, heard_set, values_of, estimates}
use Rattle.playback.specs.Listens.{row_from, heard_from, some_value, settled}
use Rattle.playback.specs.Standing.{ReadsAs, Active, next_trucks, holds, word_from, state_of, memory_of, standing, sent_by, Stands, going_on, senders_of, may_of, vetoers_of, Vetoes, noted}
use Rattle.playback.specs.Grading.{RadioSets}
use Rattle.sets.proofs.Members.{member_below}
use Rattle.playback.proofs.ByCrusher.{values-right, values_silent}
use Rattle.playback.proofs.Radios.{who-members, heard-fits, heard_silent}
use Rattle.playback.proofs.Packed.{plain_rows, row_plain, values-packed}
use Rattle.playback.proofs.Places.{placed, ones_below}
use Rattle.playback.proofs.AnyStood.{next_radio, RunningSet, SendingSet, mark-bit, going-bit, going-none, going-lt, sending-set, heard-plain, others-heard, radio_sets}

-- ---- one truck
-- trucks whose parts are the same
pub truck-same : (e : ℕ) (c : Sent) {o o' : ℕ} {m m' u u' : Bool} {h h' : Heard} {s s' : State} → o ≡ o' → m ≡ m' → h ≡ h' → u ≡ u' → s ≡ s'
    → ◌≡◌ {A = Truck} (record { opening = o; estimate = e; mark = m; heard = h; unwilling = u; state = s; sent = c })
    (record { opening = o'; estimate = e; mark = m'; heard = h'; unwilling = u'; state = s'; sent = c })
truck-same e c eo em eh eu es = rw (eo, em, eh, eu, es)

-- what a round k makes of a truck that stands so, where b is its stop bit, x what a stop leaves, y what it becomes if it plays, and dn says whether it decides
module _ (o k end : ℕ) (x y t : Truck) (m u m' u' : Bool) where
  abbrev Stays : Truck → Bool → Bool → ℕ → Type 0
  Stays v r d e = v ≡ standing o v.estimate v.heard r d m' u' e v.sent

  turned-one : (r d b dn : Bool) → t ≡ standing o t.estimate t.heard r d m u end t.sent → (r ≡ true → d ≡ false) → (dn ≡ true → (r && not b) ≡ true)
      → (r ≡ true → b ≡ true → x ≡ standing o x.estimate x.heard false false m' u' k x.sent)
      → ((r && not b) ≡ true → y ≡ standing o y.estimate y.heard (not dn) dn m' u' (cond dn k end) y.sent)
      → (v : Truck) → v ≡ turn t.state b x y t
      → v ≡ standing o v.estimate v.heard ((r && not b) && not dn) (d || dn) m' u' (cond (r && not ((r && not b) && not dn)) k end) v.sent
  turned-one r d b dn e apart deciding stop play v ev =
      subst (λ (z : Truck). Stays z ((r && not b) && not dn) (d || dn) (cond (r && not ((r && not b) && not dn)) k end))
      (sym (ev ∙ ap (λ (s : State). turn s b x y t) (ap (λ (z : Truck). z.state) e))) (go r d b dn e apart deciding stop play)
    where
      go : (r d b dn : Bool) → t ≡ standing o t.estimate t.heard r d m u end t.sent → (r ≡ true → d ≡ false) → (dn ≡ true → (r && not b) ≡ true)
          → (r ≡ true → b ≡ true → x ≡ standing o x.estimate x.heard false false m' u' k x.sent)
          → ((r && not b) ≡ true → y ≡ standing o y.estimate y.heard (not dn) dn m' u' (cond dn k end) y.sent)
          → Stays (turn (state_of r d end) b x y t) ((r && not b) && not dn) (d || dn) (cond (r && not ((r && not b) && not dn)) k end)
      go true true b dn e a q s p = absurd (true≢false (a refl))
      go true false true true e a q s p = absurd (false≢true (q refl))
      go true false true false e a q s p = s refl refl
      go true false false true e a q s p = p refl
      go true false false false e a q s p = p refl
      go false d b true e a q s p = absurd (false≢true (q refl))
      go false true b false e a q s p = e
      go false false b false e a q s p = e

-- nobody is in the empty set
pub none_in : (b : Bool) (j : ℕ) → (b && holds 0 j) ≡ false
none_in b j = ap (λ (x : Bool). b && x) (bit-zero (31 - j)) ∙ and-false b

pub memory_back : (h : Heard) → memory_of (is_one h) (is_several h) ≡ h
memory_back Nothing = refl
memory_back One = refl
memory_back Several = refl

module _ {n last k : ℕ} {opening : ℕ → ℕ} {ts : List Truck} {by ends sent : List ℕ} {running decided marked one several unwilling : ℕ} (st : Stands n last k opening ts by ends sent running decided marked one several unwilling) where
  pub runs_is : (j : ℕ) → j < n → runs (truck ts j) ≡ holds running j
  runs_is j l = ap runs (st.each j l) ∙ go (holds running j) (holds decided j)
    where
      go : (r d : Bool) → is_running (state_of r d (get_or ends j 0)) ≡ r
      go true d = refl
      go false true = refl
      go false false = refl

  pub running-set : RunningSet recorded n ts running
  running-set = record { each = runs_is; none = st.none; fits = st.fits }

  -- the parts of a truck's record
  pub opening_is : (j : ℕ) → j < n → (truck ts j).opening ≡ opening j
  opening_is j l = ap (λ (t : Truck). t.opening) (st.each j l)

  pub running_is : (j : ℕ) → j < n → holds running j ≡ true → (truck ts j).state ≡ Running
  running_is j l r = ap (λ (t : Truck). t.state) (st.each j l) ∙ ap (λ (b : Bool). state_of b (holds decided j) (get_or ends j 0)) r

  -- its state, where it decides in round k + 1 or runs on
  pub state_is : (j : ℕ) → j < n → holds running j ≡ true → (b : Bool) → cond b (Decided (suc k)) (truck ts j).state ≡ state_of (not b) b (cond b (suc k) (get_or ends j 0))
  state_is j l r true = refl
  state_is j l r false = running_is j l r

  pub mark_is : (j : ℕ) → j < n → (truck ts j).mark ≡ (holds running j && holds marked j)
  mark_is j l = ap (λ (t : Truck). t.mark) (st.each j l)

  pub unwilling_is : (j : ℕ) → j < n → (truck ts j).unwilling ≡ (holds running j && holds unwilling j)
  unwilling_is j l = ap (λ (t : Truck). t.unwilling) (st.each j l)

  module _ (rules : Rules recorded) (few : n ≤ 32) (small : (j : ℕ) → j < n → estimates ts j < 16) where
    sorted-plain : Sorted (plain_rows 32 by) n (2 ^ n - 1) (estimates ts)
    sorted-plain c lc =
        rw (row_plain 32 by c)
        (placed (get_or by c 0) n (λ j. bit (2 ^ n - 1) j && eqb (estimates ts j) c) few
        (λ j l. st.sorted c lc j (omega (arith, few)) ∙ ap (λ (b : Bool). b && eqb (estimates ts j) c) (lt-ltb j n l ∙ sym (ones_below n j l)))
        (λ j o l. st.sorted c lc j l ∙ ap (λ (b : Bool). b && eqb (estimates ts j) c) (le-ltb j n o)))

    -- the next round, at its place
    module _ (s : List ℕ) (at : ℕ) (w : List ℕ) (reads : ReadsAs s at n w) where
      pub next-truck : (j : ℕ) → j < n → truck (next_trucks rules n k w ts) j ≡ turn (truck ts j).state (stop_bit w j) (rules.stops (suc k) (truck ts j)) (plays_in rules (next_radio rules n k w ts) (suc k) w ts j) (truck ts j)
      unfolding after_in
      next-truck j l = get_or-filled _ n ts j (opened 0) l

      -- a truck that goes on plays
      pub next-plays : (j : ℕ) → j < n → (holds running j && not (stop_bit w j)) ≡ true → truck (next_trucks rules n k w ts) j ≡ plays_in rules (next_radio rules n k w ts) (suc k) w ts j
      next-plays j l g =
          after_cases rules n (active_bit w) (suc k) w ts (λ (t : Truck). t ≡ plays_in rules (next_radio rules n k w ts) (suc k) w ts j) j l
          (λ h. absurd (true≢false (sym (runs_is j l ∙ and_left (holds running j) (not (stop_bit w j)) g) ∙ h)))
          (λ h b. absurd (true≢false (sym b ∙ not-true (stop_bit w j) (and_right (holds running j) (not (stop_bit w j)) g)))) (λ h r. refl)

      -- its estimate after the round, where a stop leaves that as it was
      pub estimate-after : ((t : Truck) → (rules.stops (suc k) t).estimate ≡ t.estimate) → (j : ℕ) → j < n
          → (truck (next_trucks rules n k w ts) j).estimate
          ≡ cond (holds running j && not (stop_bit w j)) (plays_in rules (next_radio rules n k w ts) (suc k) w ts j).estimate (truck ts j).estimate
      estimate-after keeps j l =
          ap (λ (t : Truck). t.estimate) (next-truck j l)
          ∙ go (truck ts j).state (stop_bit w j) (rules.stops (suc k) (truck ts j)) (plays_in rules (next_radio rules n k w ts) (suc k) w ts j) (truck ts j) (keeps (truck ts j))
          ∙ ap (λ (b : Bool). cond (b && not (stop_bit w j)) (plays_in rules (next_radio rules n k w ts) (suc k) w ts j).estimate (truck ts j).estimate) (runs_is j l)
        where
          go : (s : State) (b : Bool) (x y t : Truck) → x.estimate ≡ t.estimate → (turn s b x y t).estimate ≡ cond (is_running s && not b) y.estimate t.estimate
          go Running true x y t e = e
          go Running false x y t e = refl
          go (Stopped q) b x y t e = refl
          go (Decided q) b x y t e = refl

      -- where no truck changes its estimate the crushers' trucks stay
      pub sorted-kept : ((t : Truck) → (rules.stops (suc k) t).estimate ≡ t.estimate)
          → ((j : ℕ) → (plays_in rules (next_radio rules n k w ts) (suc k) w ts j).estimate ≡ (truck ts j).estimate)
          → (c : ℕ) → c < 16 → (j : ℕ) → j < 32 → holds (get_or by c 0) j ≡ (ltb j n && eqb (truck (next_trucks rules n k w ts) j).estimate c)
      sorted-kept keeps stays c lc j l32 = st.sorted c lc j l32 ∙ go (dec_lt j n)
        where
          same : (b : Bool) (x : ℕ) → x ≡ (truck ts j).estimate → cond b x (truck ts j).estimate ≡ (truck ts j).estimate
          same true x e = e
          same false x e = refl

          go : Dec (j < n) → (ltb j n && eqb (truck ts j).estimate c) ≡ (ltb j n && eqb (truck (next_trucks rules n k w ts) j).estimate c)
          go (yes l) = ap (λ (x : ℕ). ltb j n && eqb x c) (sym (estimate-after keeps j l ∙ same (holds running j && not (stop_bit w j)) _ (stays j)))
          go (no h) = rw (le-ltb j n (omega arith))

      -- the values that truck i hears of the senders
      module _ {senders : ℕ} (sending : SendingSet (next_radio rules n k w ts) n senders) (i : ℕ) (l : i < n) where
        abbrev packed : ℕ
        packed = heard_set senders (row_from s (at + 3 * n) n (31 - i)) (31 - i)

        heard-members : Members (mirrored 32 packed) n (hears (next_radio rules n k w ts) i)
        heard-members = heard-plain rules k few running-set s at w reads sending i l

        values-heard : map (estimates ts) (who (bit (mirrored 32 packed)) n) ≡ values_heard (next_radio rules n k w ts) ts i
        unfolding values_in heard_by radio_in
        values-heard = sym (ap (map (estimates ts)) (who-members heard-members))

        values_are : values_of by packed 16
            ≡ record { heard = different (values_heard (next_radio rules n k w ts) ts i); least = least_or 16 (values_heard (next_radio rules n k w ts) ts i) }
        values_are =
            ap (λ (h : ℕ). values_of by h 16) (sym (mirror_twice 32 packed (heard-fits senders (row_from s (at + 3 * n) n (31 - i)) (31 - i) sending.fits)))
            ∙ values-packed 32 by (mirrored 32 packed) 16 (mirrored-lt 32 packed)
            ∙ values-right (plain_rows 32 by) n (2 ^ n - 1) (mirrored 32 packed) 16 (estimates ts) sorted-plain heard-members.below
            (λ j h. ones_below n j (member_below heard-members j h)) (λ j lj h. small j lj)
            ∙ ap (λ (vs : List ℕ). record { heard = different vs; least = least_or 16 vs }) values-heard

      -- the sets after the round stand for the trucks after it: on are those that run on, dn says who decides
      module _ (on decided' mark' one' several' unwilling' : ℕ) (by' sent' : List ℕ) (dn : ℕ → Bool)
          (on-is : (j : ℕ) → j < n → holds on j ≡ ((holds running j && not (stop_bit w j)) && not (dn j)))
          (decided-is : (j : ℕ) → j < n → holds decided' j ≡ (holds decided j || dn j)) where
        abbrev now : ℕ → Truck
        now j = truck (next_trucks rules n k w ts) j

        -- what a stop leaves of a truck, and what a truck that plays becomes
        abbrev pub StopsTo : Type 0
        StopsTo =
            (j : ℕ) → j < n → holds running j ≡ true → stop_bit w j ≡ true
            → rules.stops (suc k) (truck ts j)
            ≡ standing (opening j) (rules.stops (suc k) (truck ts j)).estimate (rules.stops (suc k) (truck ts j)).heard false false (holds mark' j) (holds unwilling' j) (suc k) (rules.stops (suc k) (truck ts j)).sent

        abbrev pub PlaysTo : Type 0
        PlaysTo =
            (j : ℕ) → j < n → (holds running j && not (stop_bit w j)) ≡ true
            → plays_in rules (next_radio rules n k w ts) (suc k) w ts j
            ≡ standing (opening j) (plays_in rules (next_radio rules n k w ts) (suc k) w ts j).estimate (plays_in rules (next_radio rules n k w ts) (suc k) w ts j).heard (not (dn j)) (dn j) (holds mark' j) (holds unwilling' j)
            (cond (dn j) (suc k) (get_or ends j 0)) (plays_in rules (next_radio rules n k w ts) (suc k) w ts j).sent

        end_is : (j : ℕ) → j < n
            → get_or (filled (noted ends (without running on) (suc k)) 32 ends) j 0 ≡ cond (holds running j && not ((holds running j && not (stop_bit w j)) && not (dn j))) (suc k) (get_or ends j 0)
        end_is j l =
            get_or-filled (noted ends (without running on) (suc k)) 32 ends j 0 (omega (arith, few))
            ∙ ap (λ (b : Bool). cond b (suc k) (get_or ends j 0)) (bit-without running on (31 - j) ∙ ap (λ (b : Bool). holds running j && not b) (on-is j l))

        -- the round of those that decide
        pub end_now : (j : ℕ) → j < n → dn j ≡ true → (holds running j && not (stop_bit w j)) ≡ true → get_or (filled (noted ends (without running on) (suc k)) 32 ends) j 0 ≡ suc k
        end_now j l d g =
            end_is j l
            ∙ ap (λ (b : Bool). cond b (suc k) (get_or ends j 0))
            (ap₂ (λ (x y : Bool). x && not ((holds running j && not (stop_bit w j)) && not y)) (and_left (holds running j) (not (stop_bit w j)) g) d
            ∙ ap not (and-false (holds running j && not (stop_bit w j))))

        pub stands-next : on < 2 ^ 32 → ((j : ℕ) → n ≤ j → j < 32 → holds on j ≡ false) → ((j : ℕ) → j < n → dn j ≡ true → (holds running j && not (stop_bit w j)) ≡ true)
            → StopsTo → PlaysTo → length by' ≡ 16 → length sent' ≡ 8
            → ((j : ℕ) → j < n → (truck (next_trucks rules n k w ts) j).sent ≡ sent_by sent' 8 (31 - j))
            → ((j : ℕ) → j < n → holds on j ≡ true → (holds mark' j ≡ true → suc k ≡ last)
            → (is_one (truck (next_trucks rules n k w ts) j).heard ≡ holds one' j) × (is_several (truck (next_trucks rules n k w ts) j).heard ≡ holds several' j))
            → ((c : ℕ) → c < 16 → (j : ℕ) → j < 32 → holds (get_or by' c 0) j ≡ (ltb j n && eqb (truck (next_trucks rules n k w ts) j).estimate c))
            → Stands n last (suc k) opening (next_trucks rules n k w ts) by' (filled (noted ends (without running on) (suc k)) 32 ends) sent' on decided' mark' one' several' unwilling'
        stands-next fits none among stop play crushers digits counts heard sorted =
            record {
              crushers = crushers;
              places = length-filled (noted ends (without running on) (suc k)) 32 ends (omega (arith, st.places)) ∙ st.places;
              digits = digits;
              fits = fits;
              none = none;
              apart = λ j l h.
                  let g = sym (on-is j l) ∙ h in
                  decided-is j l
                  ∙ ap₂ ◌||◌ (st.apart j l (and_left (holds running j) (not (stop_bit w j)) (and_left (holds running j && not (stop_bit w j)) (not (dn j)) g)))
                  (not-true (dn j) (and_right (holds running j && not (stop_bit w j)) (not (dn j)) g));
              each = λ j l.
                  turned-one (opening j) (suc k) (get_or ends j 0) (rules.stops (suc k) (truck ts j)) (plays_in rules (next_radio rules n k w ts) (suc k) w ts j) (truck ts j) (holds marked j) (holds unwilling j) (holds mark' j) (holds unwilling' j)
                  (holds running j) (holds decided j) (stop_bit w j) (dn j) (st.each j l) (st.apart j l) (among j l) (stop j l) (play j l) (now j) (next-truck j l)
                  ∙ same j (sym (on-is j l)) (sym (decided-is j l)) (sym (end_is j l));
              counts = counts;
              heard = heard;
              sorted = sorted;
            }
          where
            same : (j : ℕ) {r r' d d' : Bool} {e e' : ℕ} → r ≡ r' → d ≡ d' → e ≡ e'
                → standing (opening j) (now j).estimate (now j).heard r d (holds mark' j) (holds unwilling' j) e (now j).sent
                ≡ standing (opening j) (now j).estimate (now j).heard r' d' (holds mark' j) (holds unwilling' j) e' (now j).sent
            same j er ed ee = rw (er, ed, ee)

      -- ---- a round in which the active send their estimates
      module _ (active : ℕ) (actives : Active n running w active) (asks : (b : Bool) (t : Truck) → rules.sends (suc k) b t ≡ b) where
        abbrev senders : ℕ
        senders = senders_of s at running active

        pub proposing : SendingSet (next_radio rules n k w ts) n (senders_of s at running active)
        proposing = sending-set rules k few running-set s at w reads active (λ j l r. asks (active_bit w j) (truck ts j) ∙ sym (actives j l r))

        abbrev values : ℕ → List ℕ
        values j = values_heard (next_radio rules n k w ts) ts j

        abbrev from : ℕ → Values
        from j = heard_from s (at + 3 * n) n senders by (31 - j)

        pub from_is : (j : ℕ) → j < n → from j ≡ record { heard = different (values j); least = least_or 16 (values j) }
        from_is j l = values_are proposing j l

        -- rows are read of those that go on without those of `unread`, and nobody's where nobody sends
        module _ (unread : ℕ) where
          abbrev wanted : ℕ
          wanted = cond (eqb senders 0) 0 (without (going_on s at running) unread)

          pub wanted-none : (j : ℕ) → n ≤ j → j < 32 → holds wanted j ≡ false
          wanted-none j h l = go (eqb senders 0)
            where
              go : (b : Bool) → holds (cond b 0 (without (going_on s at running) unread)) j ≡ false
              go true = bit-zero (31 - j)
              go false = bit-without (going_on s at running) unread (31 - j) ∙ ap (λ (b : Bool). b && not (holds unread j)) (going-none running-set s at j h l)

          -- of those wanted, who heard something of a kind: as if they listened in a silent round too
          pub listens : (f : Heard → Bool) → f Nothing ≡ false → (j : ℕ) → j < n
              → (holds wanted j && f (from j).heard) ≡ (((holds running j && not (stop_bit w j)) && not (holds unread j)) && f (different (values j)))
          listens f z j l = ap (λ (v : Values). holds wanted j && f v.heard) (from_is j l) ∙ go (eqb senders 0) refl
            where
              go : (b : Bool) → eqb senders 0 ≡ b
                  → (holds (cond b 0 (without (going_on s at running) unread)) j && f (different (values j)))
                  ≡ (((holds running j && not (stop_bit w j)) && not (holds unread j)) && f (different (values j)))
              go true e =
                  let quiet : different (values j) ≡ Nothing = sym (ap (λ (v : Values). v.heard) (from_is j l))
                  ∙ ap (λ (v : Values). v.heard) (values_silent by (heard_set senders (row_from s (at + 3 * n) n (31 - j)) (31 - j)) 16
                  (heard_silent senders (row_from s (at + 3 * n) n (31 - j)) (31 - j) (eqb-true senders 0 e))) in
                  ap (λ (b : Bool). b && f (different (values j))) (bit-zero (31 - j))
                  ∙ sym (ap (λ (b : Bool). ((holds running j && not (stop_bit w j)) && not (holds unread j)) && b) (ap f quiet ∙ z) ∙ and-false ((holds running j && not (stop_bit w j)) && not (holds unread j)))
              go false e =
                  ap (λ (b : Bool). b && f (different (values j)))
                  (bit-without (going_on s at running) unread (31 - j) ∙ ap (λ (b : Bool). b && not (holds unread j)) (going-bit n s at w reads running j l))

        -- those of them that have no mark and hear something, `changed`, take the least value that they hear
        module _ (takes : (j : ℕ) → j < n
            → (truck (next_trucks rules n k w ts) j).estimate
            ≡ cond (holds running j && not (stop_bit w j)) (cond (mark_bit w j) (truck ts j).estimate (least_or (truck ts j).estimate (values_heard (next_radio rules n k w ts) ts j))) (truck ts j).estimate)
            (changed : ℕ) (taking by' : List ℕ) (took : by' ≡ filled (settled by taking changed) 16 by)
            (changes : (j : ℕ) → j < n → holds changed j ≡ ((holds running j && not (stop_bit w j)) && not (mark_bit w j) && some_value (different (values_heard (next_radio rules n k w ts) ts j))))
            (none : (j : ℕ) → n ≤ j → j < 32 → holds changed j ≡ false)
            (taken : (j : ℕ) → j < n → holds changed j ≡ true → (c : ℕ) → c < 16
            → holds (get_or taking c 0) j ≡ eqb (heard_from s (at + 3 * n) n (senders_of s at running active) by (31 - j)).least c) where
          settled-bit : (c j : ℕ) → c < 16
              → holds (get_or by' c 0) j ≡ ((holds (get_or by c 0) j && not (holds changed j)) || (holds (get_or taking c 0) j && holds changed j))
          settled-bit c j lc =
              ap (λ (x : ℕ). holds x j) (ap (λ (d : List ℕ). get_or d c 0) took ∙ get_or-filled (settled by taking changed) 16 by c 0 lc)
              ∙ bit-or (without (get_or by c 0) changed) (bit_and (get_or taking c 0) changed) (31 - j)
              ∙ ap₂ ◌||◌ (bit-without (get_or by c 0) changed (31 - j)) (bit-and (get_or taking c 0) changed (31 - j))

          keeps : (b x ch : Bool) → ch ≡ false → ((b && not ch) || (x && ch)) ≡ b
          keeps true x false e = refl
          keeps false true false e = refl
          keeps false false false e = refl
          keeps b x true e = absurd (true≢false e)

          changed-to : (b x ch : Bool) → ch ≡ true → ((b && not ch) || (x && ch)) ≡ x
          changed-to b x false e = absurd (false≢true e)
          changed-to true true true e = refl
          changed-to true false true e = refl
          changed-to false true true e = refl
          changed-to false false true e = refl

          pub now-sorted : (c : ℕ) → c < 16 → (j : ℕ) → j < 32 → holds (get_or by' c 0) j ≡ (ltb j n && eqb (truck (next_trucks rules n k w ts) j).estimate c)
          now-sorted c lc j l32 = settled-bit c j lc ∙ go (dec_lt j n)
            where
              go : Dec (j < n)
                  → ((holds (get_or by c 0) j && not (holds changed j)) || (holds (get_or taking c 0) j && holds changed j)) ≡ (ltb j n && eqb (truck (next_trucks rules n k w ts) j).estimate c)
              go (no h) =
                  keeps (holds (get_or by c 0) j) (holds (get_or taking c 0) j) (holds changed j) (none j (omega arith) l32)
                  ∙ st.sorted c lc j l32 ∙ ap (λ (b : Bool). b && eqb (truck ts j).estimate c) (le-ltb j n (omega arith))
                  ∙ sym (ap (λ (b : Bool). b && eqb (truck (next_trucks rules n k w ts) j).estimate c) (le-ltb j n (omega arith)))
              go (yes l) =
                  kind (holds running j && not (stop_bit w j)) refl (mark_bit w j) refl (different (values j)) refl
                  ∙ sym (ap (λ (b : Bool). b && eqb (truck (next_trucks rules n k w ts) j).estimate c) (lt-ltb j n l))
                where
                  Now : Type 0
                  Now = ((holds (get_or by c 0) j && not (holds changed j)) || (holds (get_or taking c 0) j && holds changed j)) ≡ eqb (truck (next_trucks rules n k w ts) j).estimate c

                  estimate : (g m : Bool) → (holds running j && not (stop_bit w j)) ≡ g → mark_bit w j ≡ m
                      → (truck (next_trucks rules n k w ts) j).estimate ≡ cond g (cond m (truck ts j).estimate (least_or (truck ts j).estimate (values j))) (truck ts j).estimate
                  estimate g m eg em =
                      takes j l ∙ ap₂ (λ (x y : Bool). cond x (cond y (truck ts j).estimate (least_or (truck ts j).estimate (values j))) (truck ts j).estimate) eg em

                  change : (g m : Bool) (h : Heard) → (holds running j && not (stop_bit w j)) ≡ g → mark_bit w j ≡ m → different (values j) ≡ h → holds changed j ≡ (g && not m && some_value h)
                  change g m h eg em eh = changes j l ∙ ap₂ (λ (x y : Bool). x && not y && some_value (different (values j))) eg em ∙ ap (λ (x : Heard). g && not m && some_value x) eh

                  same : holds changed j ≡ false → (truck (next_trucks rules n k w ts) j).estimate ≡ (truck ts j).estimate → Now
                  same q e =
                      keeps (holds (get_or by c 0) j) (holds (get_or taking c 0) j) (holds changed j) q
                      ∙ st.sorted c lc j l32 ∙ ap (λ (b : Bool). b && eqb (truck ts j).estimate c) (lt-ltb j n l) ∙ ap (λ (x : ℕ). eqb x c) (sym e)

                  new : holds changed j ≡ true → (truck (next_trucks rules n k w ts) j).estimate ≡ least_or (truck ts j).estimate (values j) → (different (values j) ≡ Nothing → ⊥) → Now
                  new q e some =
                      changed-to (holds (get_or by c 0) j) (holds (get_or taking c 0) j) (holds changed j) q
                      ∙ taken j l q c lc
                      ∙ ap (λ (x : ℕ). eqb x c) (ap (λ (v : Values). v.least) (from_is j l) ∙ sym (e ∙ least-same (truck ts j).estimate 16 (values j) some))

                  kind : (g : Bool) → (holds running j && not (stop_bit w j)) ≡ g → (m : Bool) → mark_bit w j ≡ m → (h : Heard) → different (values j) ≡ h → Now
                  kind false eg m em h eh = same (change false m h eg em eh) (estimate false m eg em)
                  kind true eg true em h eh = same (change true true h eg em eh) (estimate true true eg em)
                  kind true eg false em Nothing eh = same (change true false Nothing eg em eh) (estimate true false eg em ∙ least_silent (truck ts j).estimate (values j) eh)
                  kind true eg false em One eh = new (change true false One eg em eh) (estimate true false eg em) (λ x. true≢false (ap is_one (sym eh ∙ x)))
                  kind true eg false em Several eh = new (change true false Several eg em eh) (estimate true false eg em) (λ x. true≢false (ap is_several (sym eh ∙ x)))

          pub crushers-kept : length by' ≡ 16
          crushers-kept = ap length took ∙ length-filled (settled by taking changed) 16 by (omega (arith, st.crushers)) ∙ st.crushers

      -- ---- a round in which those of two sets send a veto, vet and sev, and those of lone decide that hear none, have no mark and are not in vet
      module _ (vet lone sev : ℕ) (vetoes : (j : ℕ) → j < n → holds running j ≡ true → (b : Bool) → rules.sends (suc k) b (truck ts j) ≡ (holds vet j || holds sev j))
          (silent : (j : ℕ) → j < n → holds running j ≡ true → holds lone j ≡ true → holds vet j ≡ false → holds sev j ≡ false) where
        abbrev vetoers : ℕ
        vetoers = vetoers_of s at running vet sev

        pub vetoing : SendingSet (next_radio rules n k w ts) n (vetoers_of s at running vet sev)
        vetoing = sending-set rules k few running-set s at w reads (bit_or vet sev) (λ j l r. vetoes j l r (active_bit w j) ∙ sym (bit-or vet sev (31 - j)))

        -- it hears a veto
        abbrev pub veto : ℕ → Bool
        veto j = ltb 0 (heard (next_radio rules n k w ts) j)

        -- a truck hears its own
        pub own-veto : (j : ℕ) → j < n → (holds running j && not (stop_bit w j)) ≡ true → holds vet j ≡ true → ltb 0 (heard (next_radio rules n k w ts) j) ≡ true
        unfolding heard heard_by radio_in
        own-veto j l g v =
            lt-ltb 0 (length (who (hears (next_radio rules n k w ts) j) n))
            (count-some (hears (next_radio rules n k w ts) j) n j l (hears_itself (next_radio rules n k w ts) j
            (sym (vetoing.each j l) ∙ bit-and (going_on s at running) (bit_or vet sev) (31 - j) ∙ ap₂ ◌&&◌ (going-bit n s at w reads running j l ∙ g) (bit-or vet sev (31 - j) ∙ ap (λ (b : Bool). b || holds sev j) v))))

        abbrev unheard : ℕ → Bool
        unheard j = eqb (without vetoers (row_from s (at + 3 * n) n (31 - j))) 0

        may-bit : (j : ℕ) → holds (may_of s at n running vet lone) j ≡ ((holds (going_on s at running) j && holds lone j) && not (holds (word_from s (at + 2 * n)) j || holds vet j))
        may-bit j =
            bit-without (bit_and (going_on s at running) lone) (bit_or (word_from s (at + 2 * n)) vet) (31 - j)
            ∙ ap₂ (λ (x y : Bool). x && not y) (bit-and (going_on s at running) lone (31 - j)) (bit-or (word_from s (at + 2 * n)) vet (31 - j))

        -- who decides
        abbrev pub decides_now : ℕ → Bool
        decides_now j = (holds running j && not (stop_bit w j)) && ((holds lone j && not (holds vet j)) && not (mark_bit w j) && not (veto j))

        decides_is : (j : ℕ) → j < n → (holds (may_of s at n running vet lone) j && unheard j) ≡ decides_now j
        decides_is j l =
            ap (λ (b : Bool). b && unheard j) (may-bit j ∙ ap₂ (λ (x y : Bool). (x && holds lone j) && not (y || holds vet j)) (going-bit n s at w reads running j l) (mark-bit n s at w reads j l))
            ∙ go (holds running j && not (stop_bit w j)) refl (holds lone j) refl (holds vet j) refl
          where
            top : (y z : Bool) → (not (y || true) && z) ≡ false
            top true z = refl
            top false z = refl

            both : (z y : Bool) → (not (y || false) && z) ≡ (not y && not (not z))
            both true true = refl
            both true false = refl
            both false true = refl
            both false false = refl

            go : (g : Bool) → (holds running j && not (stop_bit w j)) ≡ g → (o : Bool) → holds lone j ≡ o → (v : Bool) → holds vet j ≡ v
                → (((g && o) && not (mark_bit w j || v)) && unheard j) ≡ (g && ((o && not v) && not (mark_bit w j) && not (veto j)))
            go false eg o eo v ev = refl
            go true eg false eo v ev = refl
            go true eg true eo true ev = top (mark_bit w j) (unheard j)
            go true eg true eo false ev =
                let r = and_left (holds running j) (not (stop_bit w j)) eg in
                let out : holds vetoers j ≡ false = bit-and (going_on s at running) (bit_or vet sev) (31 - j)
                ∙ ap (λ (b : Bool). holds (going_on s at running) j && b) (bit-or vet sev (31 - j) ∙ ap₂ ◌||◌ ev (silent j l r eo ev))
                ∙ and-false (holds (going_on s at running) j) in
                both (unheard j) (mark_bit w j) ∙ ap (λ (x : Bool). not (mark_bit w j) && not x) (sym (others-heard rules k few running-set s at w reads vetoing j l out))

        module _ {r : Vetoed} (p : Vetoes s at n running vet lone sev r) where
          pub done-bit : (j : ℕ) → j < n → holds r.done j ≡ decides_now j
          done-bit j l = p.done.each (31 - j) (omega arith) ∙ decides_is j l

          done_none : (j : ℕ) → n ≤ j → j < 32 → holds r.done j ≡ false
          done_none j h l =
              p.done.each (31 - j) (omega arith)
              ∙ ap (λ (b : Bool). b && unheard j) (may-bit j ∙ ap (λ (b : Bool). (b && holds lone j) && not (holds (word_from s (at + 2 * n)) j || holds vet j)) (going-none running-set s at j h l))

          on_both : (j : ℕ) → holds r.on j ≡ one_of (holds (going_on s at running) j) (holds r.done j)
          on_both j = ap (λ (x : ℕ). holds x j) p.on ∙ bit-xor (going_on s at running) r.done (31 - j)

          pub on_bit : (j : ℕ) → j < n → holds r.on j ≡ ((holds running j && not (stop_bit w j)) && not (holds r.done j))
          on_bit j l =
              on_both j ∙ ap (λ (b : Bool). one_of b (holds r.done j)) (going-bit n s at w reads running j l)
              ∙ go (holds running j && not (stop_bit w j)) (holds r.done j) ((holds lone j && not (holds vet j)) && not (mark_bit w j) && not (veto j)) (done-bit j l)
            where
              go : (g d x : Bool) → d ≡ (g && x) → one_of g d ≡ (g && not d)
              go true d x e = refl
              go false true x e = absurd (true≢false e)
              go false false x e = refl

          pub on_none : (j : ℕ) → n ≤ j → j < 32 → holds r.on j ≡ false
          on_none j h l = on_both j ∙ ap₂ one_of (going-none running-set s at j h l) (done_none j h l)

          pub on-lt : r.on < 2 ^ 32
          on-lt = rw p.on (xor_lt 32 (going_on s at running) r.done (going-lt running-set s at) p.done.below)

          pub done-goes : (j : ℕ) → j < n → holds r.done j ≡ true → (holds running j && not (stop_bit w j)) ≡ true
          done-goes j l h = and_left (holds running j && not (stop_bit w j)) ((holds lone j && not (holds vet j)) && not (mark_bit w j) && not (veto j)) (sym (done-bit j l) ∙ h)

          pub veto-radio : RadioSets (next_radio rules n k w ts) s (at + 3 * n) n r.going r.senders r.mark
          veto-radio = rw (p.going, p.senders, p.mark) (radio_sets rules k few running-set s at w reads vetoing)
