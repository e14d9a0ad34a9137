-- Laws of what refusal 7 asks of a truck and of a record; and a record that it lets pass is one after a round, too, by any protocol.
use mathlib.Core.Path.{◌≡◌, refl, ap, ◌∙◌}
use mathlib.Core.Bool.{Bool, true, false, not, ◌&&◌, true≢false}
use mathlib.Core.List.{List}
use mathlib.Core.Logic.{◌⊎◌, inl, inr}
use Prim.Native.Nat.{ℕ, suc, ◌≤◌, ◌<◌}
use native.Mathlib.Omega.{arith}
use borrow.Author.Tests.{lt-ltb, le-leb, leb-true, not-true}
use lib.Dec.{ltb, leb}
use lib.ListN.{get_or}
use Rattle.basics.specs.Lists.{all_below}
use Rattle.basics.proofs.Laws.{and_left, and_right, and_both, all_below-at}
use Rattle.radio.specs.Round.{active_bit}
use Rattle.radio.specs.Radio.{Radio}
use Rattle.recording.specs.Checks.{bad_trucks}
use Rattle.recording.proofs.Accepted.{GoodOpenings}
use Rattle.protocol.specs.declared.State.{State}
use Rattle.protocol.specs.declared.State.TheVariants.{Running, Stopped, Decided}
use Rattle.protocol.specs.declared.Sent.{Sent}
use Rattle.protocol.specs.declared.Truck.{Truck}
use Rattle.protocol.specs.declared.Fleet.{Fleet}
use Rattle.protocol.specs.Cycles.{is_running, values_in}
use Rattle.protocol.specs.Rules.{opened, recorded, truck, runs}
use Rattle.protocol.specs.Runs.{trucks_in}
use Rattle.protocol.specs.Fleets.{Protocol, is_done, good_state_in, good_truck_in, good_fleet_in}
use Rattle.protocol.specs.Claims.{EndedBy}
use Rattle.protocol.proofs.AnyRound.{Stamps, Takes, radio, next, after_cases, plays_is, estimate-next}
use Rattle.protocol.proofs.AnyRun.{opened-truck, throughout}

-- what refusal 7 asks of one truck, part by part
pub record Good (p : Protocol) (done : ℕ) (t : Truck) : Type 0 where
  pub opening : leb t.opening 15 ≡ true
  pub estimate : leb t.estimate 15 ≡ true
  pub state : good_state_in p done t.state ≡ true
  pub memory : p.good_memory done t ≡ true
  pub counts : p.good_counts done t.sent ≡ true

pub good_parts : (p : Protocol) (done : ℕ) (t : Truck) → good_truck_in p done t ≡ true → Good p done t
unfolding good_truck_in
good_parts p done t h =
    let four = and_left (leb t.opening 15 && leb t.estimate 15 && good_state_in p done t.state && p.good_memory done t) (p.good_counts done t.sent) h in
    let three = and_left (leb t.opening 15 && leb t.estimate 15 && good_state_in p done t.state) (p.good_memory done t) four in
    let two = and_left (leb t.opening 15 && leb t.estimate 15) (good_state_in p done t.state) three in
    record {
      opening = and_left (leb t.opening 15) (leb t.estimate 15) two;
      estimate = and_right (leb t.opening 15) (leb t.estimate 15) two;
      state = and_right (leb t.opening 15 && leb t.estimate 15) (good_state_in p done t.state) three;
      memory = and_right (leb t.opening 15 && leb t.estimate 15 && good_state_in p done t.state) (p.good_memory done t) four;
      counts = and_right (leb t.opening 15 && leb t.estimate 15 && good_state_in p done t.state && p.good_memory done t) (p.good_counts done t.sent) h;
    }

pub good-whole : (p : Protocol) (done : ℕ) (t : Truck) → Good p done t → good_truck_in p done t ≡ true
unfolding good_truck_in
good-whole p done t g = rw (g.opening, g.estimate, g.state, g.memory, g.counts)

-- what it asks of a record, part by part
pub record GoodRecord (p : Protocol) (f : Fleet) : Type 0 where
  pub trucks : bad_trucks f.n ≡ false
  pub done : f.done ≤ 400
  pub each : (i : ℕ) → i < f.n → Good p f.done (truck f.trucks i)

pub record_parts : (p : Protocol) (f : Fleet) → good_fleet_in p f ≡ true → GoodRecord p f
unfolding good_fleet_in
record_parts p f h =
    let good : ℕ → Bool = λ i. good_truck_in p f.done (truck f.trucks i) in
    let two = and_left (not (bad_trucks f.n) && leb f.done 400) (all_below good f.n) h in
    record {
      trucks = not-true (bad_trucks f.n) (and_left (not (bad_trucks f.n)) (leb f.done 400) two);
      done = leb-true f.done 400 (and_right (not (bad_trucks f.n)) (leb f.done 400) two);
      each = λ i l.
          good_parts p f.done (truck f.trucks i)
          (all_below-at good f.n (and_right (not (bad_trucks f.n) && leb f.done 400) (all_below good f.n) h) i l);
    }

-- a round done stays one with one more done, and the one done now is one
done_later : (done k : ℕ) → is_done done k ≡ true → is_done (suc done) k ≡ true
done_later done k h =
    and_both (ltb 0 k) (leb k (suc done)) (and_left (ltb 0 k) (leb k done) h)
    (le-leb k (suc done) (omega (arith, leb-true k done (and_right (ltb 0 k) (leb k done) h))))

done-now : (done : ℕ) → is_done (suc done) (suc done) ≡ true
done-now done = rw (lt-ltb 0 (suc done) (omega arith), le-leb (suc done) (suc done) (omega arith))

-- states with one more round done: of before, of a stop now, and of a truck that played now
module _ (p : Protocol) (done : ℕ) where
  state_later : (s : State) → good_state_in p done s ≡ true → good_state_in p (suc done) s ≡ true
  state_later Running h = refl
  state_later (Stopped k) h = done_later done k h
  state_later (Decided k) h =
      and_both (is_done (suc done) k) (p.decisions k) (done_later done k (and_left (is_done done k) (p.decisions k) h))
      (and_right (is_done done k) (p.decisions k) h)

  state_stopped : (s : State) → s ≡ Stopped (suc done) → good_state_in p (suc done) s ≡ true
  state_stopped s e = rw e (done-now done)

  state-played : (s : State) → (s ≡ Decided (suc done) → p.decisions (suc done) ≡ true) → (s ≡ Running) ⊎ (s ≡ Decided (suc done))
      → good_state_in p (suc done) s ≡ true
  state-played s h (inl e) = rw e
  state-played s h (inr e) = rw e (and_both (is_done (suc done) (suc done)) (p.decisions (suc done)) (done-now done) (h e))

-- a stop or a decision is not later than the rounds done
pub state_ended : (p : Protocol) (done : ℕ) (s : State) → is_running s ≡ false → good_state_in p done s ≡ true → EndedBy done s
state_ended p done Running r h = absurd (true≢false r)
state_ended p done (Stopped k) r h = leb-true k done (and_right (ltb 0 k) (leb k done) h)
state_ended p done (Decided k) r h = leb-true k done (and_right (ltb 0 k) (leb k done) (and_left (is_done done k) (p.decisions k) h))

-- what a protocol has to show of its rules: nothing of it speaks of a round on the radio
pub record Sound (p : Protocol) : Type 0 where
  pub stamps : Stamps p.rules
  pub takes : Takes p.rules
  -- openings stay
  pub stops-opening : (k : ℕ) (t : Truck) → (p.rules.stops k t).opening ≡ t.opening
  pub plays-opening : (k : ℕ) (b s m : Bool) (vs : List ℕ) (t : Truck) → (p.rules.plays k b s m vs t).opening ≡ t.opening
  -- decisions are made in their rounds
  pub in_time : (k : ℕ) (b s m : Bool) (vs : List ℕ) (t : Truck) → runs t ≡ true → (p.rules.plays k b s m vs t).state ≡ Decided k → p.decisions k ≡ true
  -- memories stay good
  pub opened_memory : (v : ℕ) → p.good_memory 0 (opened v) ≡ true
  pub idle_memory : (done : ℕ) (t : Truck) → runs t ≡ false → p.good_memory done t ≡ true → p.good_memory (suc done) t ≡ true
  pub stops_memory : (done : ℕ) (t : Truck) → runs t ≡ true → p.good_memory done t ≡ true → p.good_memory (suc done) (p.rules.stops (suc done) t) ≡ true
  pub plays_memory : (done : ℕ) (b s m : Bool) (vs : List ℕ) (t : Truck) → runs t ≡ true → p.good_memory done t ≡ true
      → p.good_memory (suc done) (p.rules.plays (suc done) b s m vs t) ≡ true
  -- counts stay good
  pub opened-counts : (v : ℕ) → p.good_counts 0 (opened v).sent ≡ true
  pub later_counts : (done : ℕ) (c : Sent) → p.good_counts done c ≡ true → p.good_counts (suc done) c ≡ true
  pub stops-sent : (k : ℕ) (t : Truck) → (p.rules.stops k t).sent ≡ t.sent
  pub plays-counts : (done : ℕ) (b s m : Bool) (vs : List ℕ) (t : Truck) → p.good_counts done t.sent ≡ true
      → p.good_counts (suc done) (p.rules.plays (suc done) b s m vs t).sent ≡ true

module _ (p : Protocol) (sound : Sound p) (n : ℕ) (active : ℕ → Bool) (done : ℕ) (w : List ℕ) (ts : List Truck)
    (before : (i : ℕ) → i < n → Good p done (truck ts i)) where
  abbrev a : Radio
  a = radio p.rules n active (suc done) w ts

  abbrev ts' : List Truck
  ts' = next p.rules n active (suc done) w ts

  -- opening, state, memory and counts; the estimate is `estimate-next`'s
  abbrev Rest : Truck → Type 0
  Rest t =
      (leb t.opening 15 ≡ true) × (good_state_in p (suc done) t.state ≡ true) × (p.good_memory (suc done) t ≡ true) × (p.good_counts (suc done) t.sent ≡ true)

  rest : (i : ℕ) → i < n → Rest (truck ts' i)
  rest i l =
      let t = truck ts i in
      let g = before i l in
      after_cases p.rules n active (suc done) w ts Rest i l
      (λ h. (g.opening, state_later p done t.state g.state, sound.idle_memory done t h g.memory, sound.later_counts done t.sent g.counts))
      (λ h s. (
        ap (λ (v : ℕ). leb v 15) (sound.stops-opening (suc done) t) ∙ g.opening,
        state_stopped p done (p.rules.stops (suc done) t).state (sound.stamps.stops (suc done) t),
        sound.stops_memory done t h g.memory,
        ap (p.good_counts (suc done)) (sound.stops-sent (suc done) t) ∙ sound.later_counts done t.sent g.counts,
      ))
      (λ h r.
      let b = active_bit w i in
      let s = a.sends i in
      let m = a.marked i in
      let vs = values_in recorded a ts i in
      rw (plays_is p.rules n active (suc done) w ts i) (
        ap (λ (v : ℕ). leb v 15) (sound.plays-opening (suc done) b s m vs t) ∙ g.opening,
        state-played p done (p.rules.plays (suc done) b s m vs t).state (sound.in_time (suc done) b s m vs t h) (sound.stamps.plays (suc done) b s m vs t h),
        sound.plays_memory done b s m vs t h g.memory,
        sound.plays-counts done b s m vs t g.counts,
      ))

  -- the record after a round
  pub good-next : (i : ℕ) → i < n → Good p (suc done) (truck ts' i)
  good-next i l =
      let r = rest i l in
      record {
        opening = r.0;
        estimate = estimate-next p.rules n active (suc done) w ts sound.takes (λ (u : ℕ). leb u 15 ≡ true) i l (before i l).estimate (λ j lj s. (before j lj).estimate);
        state = r.1;
        memory = r.2;
        counts = r.3;
      }

-- every record of a run
pub good-at : (p : Protocol) → Sound p → (n : ℕ) (openings : List ℕ) → n ≤ 32 → GoodOpenings n openings → (rounds : ℕ → List ℕ) (k i : ℕ) → i < n
    → Good p k (truck (trucks_in p.rules n openings rounds k) i)
good-at p sound n openings small good rounds k =
    throughout p.rules n openings rounds (λ k ts. (i : ℕ) → i < n → Good p k (truck ts i)) k
    (λ i l.
    let o : leb (get_or openings i 0) 15 ≡ true = le-leb (get_or openings i 0) 15 (good.opening i l) in
    rw (opened-truck p.rules n openings rounds i (omega arith))
    (record { opening = o; estimate = o; state = refl; memory = sound.opened_memory (get_or openings i 0); counts = sound.opened-counts (get_or openings i 0) }))
    (λ k l h. good-next p sound n (active_bit (rounds k)) k (rounds k) (trucks_in p.rules n openings rounds k) h)
    k (omega arith)
