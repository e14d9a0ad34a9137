-- A step in either cycle hands on the other's part of a record unread. What it takes is shown once for any cycle, from a few facts of its rules.
use mathlib.Core.Path.{◌≡◌, refl, ap, ap₂, sym, ◌∙◌}
use mathlib.Core.Bool.{Bool, true, false, not, ◌&&◌}
use mathlib.Core.List.{List, [], ◌∷◌, ◌++◌, map, map-append}
use Prim.Native.Nat.{ℕ, zero, suc, ◌+◌, ◌<◌}
use native.Mathlib.Decide.{dec_lt}
use native.Mathlib.Omega.{arith}
use lib.Dec.{leb, eqb}
use lib.ListN.{get_or, drop, get_or-map}
use Rattle.std.specs.Prelude.{Ok, Err}
use Rattle.basics.specs.Lists.{tab_from, tab, filled, all_below}
use Rattle.basics.proofs.Laws.{get_or-filled_past, filled_ext}
use Rattle.radio.specs.Round.{stop_bit, active_bit, mark_bit, loss_bit}
use Rattle.radio.specs.Radio.{heard_by}
use Rattle.refusals.specs.declared.Refusal.TheVariants.{Record, RoundsDone}
use Rattle.refusals.specs.Outcomes.{Outcome, refuse}
use Rattle.recording.specs.Checks.{bad_trucks, round_check}
use Rattle.protocol.specs.declared.Cycle.{Cycle}
use Rattle.protocol.specs.declared.Cycle.TheVariants.{TwoRound, SixRound}
use Rattle.protocol.specs.declared.State.{State}
use Rattle.protocol.specs.declared.State.TheVariants.{Running, Stopped, Decided}
use Rattle.protocol.specs.declared.Truck.{Truck}
use Rattle.protocol.specs.declared.Fleet.{Fleet}
use Rattle.protocol.specs.Cycles.{is_running, Kind, Rules, turn, truck_in, values_in, radio_in, plays_in, after_in}
use Rattle.protocol.specs.Rules.{truck, two_rules}
use Rattle.protocol.specs.Six.{six_rules}
use Rattle.protocol.specs.Fleets.{Protocol, two_round, six_round, answer, good_truck_in, good_fleet_in, step_check_in, next_fleet_in, stepped_in}
use Rattle.protocol.specs.Parts.{common_part, memory_part, without_memory, willing_part, without_willing, each_truck, HandsOnOther}
use Rattle.protocol.proofs.AnyRound.{after_cases, plays_is}
use Rattle.protocol.proofs.Rules.{plays-odd, plays_even, plays_cases}
use Rattle.protocol.proofs.SixRound.{six-prepare, six-bit, six-accept, six_cases}

-- the parts of a truck are the whole of it
pub parts_whole : (t u : Truck) → common_part t ≡ common_part u → memory_part t ≡ memory_part u → willing_part t ≡ willing_part u → t ≡ u
parts_whole t u common memory willing =
    λ x. record {
      opening = (common x).0;
      estimate = (common x).1;
      mark = (memory x).0;
      heard = (memory x).1;
      unwilling = willing x;
      state = (common x).2;
      sent = (memory x).2;
    }

-- what a cycle has to show of a part that it hands on: a stop and a round leave it
record Leaves {T A : Type 0} {K : Kind T} (c : Rules K) (part : T → A) : Type 0 where
  pub stops : (k : ℕ) (t : T) → part (c.stops k t) ≡ part t
  pub plays : (k : ℕ) (b s m : Bool) (vs : List ℕ) (t : T) → part (c.plays k b s m vs t) ≡ part t

-- what it has to show of a change of trucks whose effect it doesn't read
record Ignores {T : Type 0} {K : Kind T} (c : Rules K) (g : T → T) : Type 0 where
  pub opened : g (K.opened 0) ≡ K.opened 0
  pub state : (t : T) → K.state (g t) ≡ K.state t
  pub estimate : (t : T) → K.estimate (g t) ≡ K.estimate t
  pub sends : (k : ℕ) (b : Bool) (t : T) → c.sends k b (g t) ≡ c.sends k b t
  pub stops : (k : ℕ) (t : T) → c.stops k (g t) ≡ g (c.stops k t)
  pub plays : (k : ℕ) (b s m : Bool) (vs : List ℕ) (t : T) → c.plays k b s m vs (g t) ≡ g (c.plays k b s m vs t)

module _ {ℓ} {A B : Type ℓ} (g : A → B) where
  map-tab_from : (f : ℕ → A) (i m : ℕ) → map g (tab_from f i m) ≡ tab_from (λ k. g (f k)) i m
  unfolding tab_from
  map-tab_from f i zero = refl
  map-tab_from f i (suc m) = ap (λ (l : List B). g (f i) ∷ l) (map-tab_from f (suc i) m)

  map-drop : (m : ℕ) (l : List A) → map g (drop m l) ≡ drop m (map g l)
  map-drop zero l = refl
  map-drop (suc m) [] = refl
  map-drop (suc m) (x ∷ xs) = map-drop m xs

  -- a filled list, changed element by element
  map-filled : (f : ℕ → A) (m : ℕ) (l : List A) → map g (filled f m l) ≡ filled (λ k. g (f k)) m (map g l)
  unfolding filled tab
  map-filled f m l = map-append g (tab_from f 0 m) (drop m l) ∙ ap₂ ◌++◌ (map-tab_from f 0 m) (map-drop m l)

module _ {T : Type 0} {K : Kind T} (c : Rules K) (n : ℕ) (active : ℕ → Bool) (k : ℕ) (w : List ℕ) (ts : List T) where
  -- a part that stops and rounds leave is as it was in every place
  leaves_after : {A : Type 0} (part : T → A) → Leaves c part → (i : ℕ) → part (truck_in K (after_in c n active k w ts) i) ≡ part (truck_in K ts i)
  unfolding after_in
  leaves_after part leaves i = go (dec_lt i n)
    where
      go : Dec (i < n) → part (truck_in K (after_in c n active k w ts) i) ≡ part (truck_in K ts i)
      go (yes l) =
          after_cases c n active k w ts (λ (t : T). part t ≡ part (truck_in K ts i)) i l (λ h. refl) (λ h s. leaves.stops k (truck_in K ts i))
          (λ h r.
          let a = radio_in c n active k w ts in
          ap part (plays_is c n active k w ts i) ∙ leaves.plays k (active_bit w i) (a.sends i) (a.marked i) (values_in K a ts i) (truck_in K ts i))
      go (no l) = ap part (get_or-filled_past _ n ts i (K.opened 0) (omega arith))

module _ {T : Type 0} {K : Kind T} (c : Rules K) (g : T → T) (ignores : Ignores c g) where
  turn-map : (s : State) (b : Bool) (stopped played t : T) → turn s b (g stopped) (g played) (g t) ≡ g (turn s b stopped played t)
  turn-map Running true stopped played t = refl
  turn-map Running false stopped played t = refl
  turn-map (Stopped r) b stopped played t = refl
  turn-map (Decided r) b stopped played t = refl

  module _ (ts : List T) where
    truck-map : (i : ℕ) → truck_in K (map g ts) i ≡ g (truck_in K ts i)
    truck-map i = ap (get_or (map g ts) i) (sym ignores.opened) ∙ get_or-map g ts i (K.opened 0)

    module _ (n : ℕ) (active : ℕ → Bool) (k : ℕ) (w : List ℕ) where
      same-state : (i : ℕ) → K.state (truck_in K (map g ts) i) ≡ K.state (truck_in K ts i)
      same-state i = ap K.state (truck-map i) ∙ ignores.state (truck_in K ts i)

      same-estimate : (i : ℕ) → K.estimate (truck_in K (map g ts) i) ≡ K.estimate (truck_in K ts i)
      same-estimate i = ap K.estimate (truck-map i) ∙ ignores.estimate (truck_in K ts i)

      same-sends : (i : ℕ) → c.sends k (active i) (truck_in K (map g ts) i) ≡ c.sends k (active i) (truck_in K ts i)
      same-sends i = ap (c.sends k (active i)) (truck-map i) ∙ ignores.sends k (active i) (truck_in K ts i)

      same-radio : radio_in c n active k w (map g ts) ≡ radio_in c n active k w ts
      unfolding radio_in
      same-radio =
          λ x. record {
            trucks = n;
            running = λ i. is_running (same-state i x) && not (stop_bit w i);
            sends = λ i. is_running (same-state i x) && not (stop_bit w i) && same-sends i x;
            marked = mark_bit w;
            lost = loss_bit w;
          }

      same-values : (i : ℕ) → values_in K (radio_in c n active k w (map g ts)) (map g ts) i ≡ values_in K (radio_in c n active k w ts) ts i
      unfolding values_in
      same-values i = λ x. map (λ j. same-estimate j x) (heard_by (same-radio x) i)

      plays-map : (i : ℕ) → plays_in c (radio_in c n active k w (map g ts)) k w (map g ts) i ≡ g (plays_in c (radio_in c n active k w ts) k w ts i)
      unfolding plays_in
      plays-map i =
          let a = radio_in c n active k w ts in
          (λ x. c.plays k (active_bit w i) ((same-radio x).sends i) (mark_bit w i) (same-values i x) (truck-map i x))
          ∙ ignores.plays k (active_bit w i) (a.sends i) (mark_bit w i) (values_in K a ts i) (truck_in K ts i)

      -- a round of the changed trucks leaves the changed trucks
      after_map : after_in c n active k w (map g ts) ≡ map g (after_in c n active k w ts)
      unfolding after_in
      after_map =
          filled_ext (rule (map g ts)) (λ i. g (rule ts i)) n (map g ts)
          (λ i l.
          let t = truck_in K ts i in
          (λ x. turn (same-state i x) (stop_bit w i) ((ap (c.stops k) (truck-map i) ∙ ignores.stops k t) x) (plays-map i x) (truck-map i x))
          ∙ turn-map (K.state t) (stop_bit w i) (c.stops k t) (plays_in c (radio_in c n active k w ts) k w ts i) t)
          ∙ sym (map-filled g (rule ts) n ts)
        where
          rule : List T → ℕ → T
          rule us i =
              turn (K.state (truck_in K us i)) (stop_bit w i) (c.stops k (truck_in K us i)) (plays_in c (radio_in c n active k w us) k w us i) (truck_in K us i)

module _ (p : Protocol) where
  -- a step, where the cycle leaves a part
  kept_by : {A : Type 0} (part : Truck → A) → Leaves p.rules part → (f : Fleet) (w : List ℕ) (i : ℕ)
      → part (truck (stepped_in p f w).fleet.trucks i) ≡ part (truck f.trucks i)
  unfolding stepped_in next_fleet_in
  kept_by part leaves f w i = go (step_check_in p f w)
    where
      go : (o : Outcome) → part (truck (answer o (next_fleet_in p f w) f).fleet.trucks i) ≡ part (truck f.trucks i)
      go (Ok _) = leaves_after p.rules f.n (active_bit w) (f.done + 1) w f.trucks part leaves i
      go (Err r) = refl

  -- a step, where neither the cycle nor refusal 7 reads what a change of trucks changes
  unread_by : (g : Truck → Truck) → Ignores p.rules g → ((done : ℕ) (t : Truck) → good_truck_in p done (g t) ≡ good_truck_in p done t)
      → (f : Fleet) (w : List ℕ) → stepped_in p (each_truck g f) w ≡ record { outcome = (stepped_in p f w).outcome; fleet = each_truck g (stepped_in p f w).fleet }
  unfolding stepped_in step_check_in good_fleet_in next_fleet_in
  unread_by g ignores good f w = (λ x. answer (check x) (after x) (each_truck g f)) ∙ go (step_check_in p f w) (next_fleet_in p f w)
    where
      same_good : (i : ℕ) → good_truck_in p f.done (truck (map g f.trucks) i) ≡ good_truck_in p f.done (truck f.trucks i)
      same_good i = ap (good_truck_in p f.done) (truck-map p.rules g ignores f.trucks i) ∙ good f.done (truck f.trucks i)

      check : step_check_in p (each_truck g f) w ≡ step_check_in p f w
      check =
          λ x. refuse (not (not (bad_trucks f.n) && leb f.done 400 && all_below (λ i. same_good i x) f.n)) Record
          (refuse (eqb f.done 400) RoundsDone (round_check f.n (f.done + 1) w))

      after : next_fleet_in p (each_truck g f) w ≡ each_truck g (next_fleet_in p f w)
      after =
          ap (λ (ts : List Truck). record { n = f.n; done = f.done + 1; trucks = ts })
          (after_map p.rules g ignores f.trucks f.n (active_bit w) (f.done + 1) w)

      go : (o : Outcome) (h : Fleet) → answer o (each_truck g h) (each_truck g f) ≡ record { outcome = (answer o h f).outcome; fleet = each_truck g (answer o h f).fleet }
      go (Ok _) h = refl
      go (Err r) h = refl

-- a step in two rounds hands on willingness
two_hands_on : HandsOnOther TwoRound
unfolding good_truck_in
two_hands_on =
    record {
      removed = record { fresh = λ t. refl; common = λ t. refl; others = λ t. refl };
      kept = kept_by two_round willing_part (record {
        stops = λ k t. refl;
        plays = λ k b s m vs t. plays_cases k b s m vs t (λ (u : Truck). u.unwilling ≡ t.unwilling) (λ e. refl) (λ e. refl);
      });
      unread = unread_by two_round without_willing (record {
        opened = refl;
        state = λ t. refl;
        estimate = λ t. refl;
        sends = λ k b t. refl;
        stops = λ k t. refl;
        plays = λ k b s m vs t.
            (let u = without_willing t in
            plays_cases k b s m vs t (λ (v : Truck). two_rules.plays k b s m vs u ≡ without_willing v) (plays-odd k b s m vs u) (plays_even k b s m vs u));
      }) (λ done t. refl);
    }

-- a round of six hands on the memory and the counts
six-leaves : Leaves six_rules memory_part
six-leaves =
    record {
      stops = λ k t. refl;
      plays = λ k b s m vs t. six_cases k b s m vs t (λ (u : Truck). memory_part u ≡ memory_part t) (λ e. refl) (λ e f. refl) (λ e. refl);
    }

pub six-kept : (n : ℕ) (active : ℕ → Bool) (k : ℕ) (w : List ℕ) (ts : List Truck) (i : ℕ)
    → memory_part (truck (after_in six_rules n active k w ts) i) ≡ memory_part (truck ts i)
six-kept n active k w ts = leaves_after six_rules n active k w ts memory_part six-leaves

-- so does a step
six_hands_on : HandsOnOther SixRound
unfolding good_truck_in
six_hands_on =
    record {
      removed = record { fresh = λ t. refl; common = λ t. refl; others = λ t. refl };
      kept = kept_by six_round memory_part six-leaves;
      unread = unread_by six_round without_memory (record {
        opened = refl;
        state = λ t. refl;
        estimate = λ t. refl;
        sends = λ k b t. refl;
        stops = λ k t. refl;
        plays = λ k b s m vs t.
            (let u = without_memory t in
            six_cases k b s m vs t (λ (v : Truck). six_rules.plays k b s m vs u ≡ without_memory v)
            (six-prepare k b s m vs u) (six-bit k b s m vs u) (six-accept k b s m vs u));
      }) (λ done t. refl);
    }

-- a step in either cycle hands on the other's part unread
pub hands_on : (c : Cycle) → HandsOnOther c
hands_on TwoRound = two_hands_on
hands_on SixRound = six_hands_on
