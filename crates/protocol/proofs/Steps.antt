-- A list of steps leaves the record of the run of its taken rounds, in any cycle.
use mathlib.Core.Path.{◌≡◌, refl, ap, ap₂, sym, ◌∙◌}
use mathlib.Core.Bool.{Bool, true, false, cond, not, ◌&&◌, false≢true}
use mathlib.Core.List.{List, [], ◌∷◌, ◌++◌, append_assoc, append-nil}
use Prim.Native.Nat.{ℕ, zero, suc, ◌+◌, ◌≤◌, ◌<◌}
use native.Mathlib.Numerals.{add-one}
use native.Mathlib.Omega.{arith}
use borrow.Author.Tests.{lt-ltb, le-ltb, le-leb, ltb-true, eqb-true, eqb-false, not-false}
use lib.Dec.{ltb, eqb}
use lib.ListN.{length, get_or, length-append, get_or-append}
use lib.Seq.{get_or-append_seam}
use Rattle.std.specs.Prelude.{Ok, Err}
use Rattle.basics.proofs.Laws.{and_left, and_right, all_below-all}
use Rattle.radio.specs.Round.{active_bit}
use Rattle.radio.specs.Runs.{state_at}
use Rattle.refusals.specs.declared.Refusal.{Refusal}
use Rattle.refusals.specs.declared.Refusal.TheVariants.{TruckCount, OwnLoss, Record, RoundsDone}
use Rattle.refusals.specs.Numbers.{accepted}
use Rattle.refusals.specs.Outcomes.{Outcome, refuse}
use Rattle.refusals.proofs.Outcomes.{refuse-false, refuse-rest, refuse_past}
use Rattle.recording.specs.Packed.{trucks_of, rounds_of, openings_of, words_of, round_at, packed, joined}
use Rattle.recording.specs.Checks.{bad_trucks, bad_openings, FirstOwn, check_of, round_check}
use Rattle.recording.proofs.Accepted.{GoodOpenings, trucks_in_lem, openings_in}
use Rattle.recording.proofs.Named.{round_names}
use Rattle.recording.proofs.RoundTrip.{read_back}
use Rattle.recording.proofs.Rounds.{GoodRound, round-good, joined-accepted, round-back}
use Rattle.protocol.specs.declared.Truck.{Truck}
use Rattle.protocol.specs.declared.Fleet.{Fleet}
use Rattle.protocol.specs.Cycles.{Rules, after_in}
use Rattle.protocol.specs.Rules.{recorded, truck}
use Rattle.protocol.specs.Runs.{trucks_in, opened_trucks}
use Rattle.protocol.specs.Fleets.{Protocol, answer, blank, start_check, started, good_truck_in, good_fleet_in, step_check_in, next_fleet_in, stepped_in, fleet_in, ran_in}
use Rattle.protocol.specs.Steps.{last_record_in, is_taken, taken_from, taken, round_in, recording_of}
use Rattle.protocol.proofs.AnyRun.{rounds_ext, at_suc}
use Rattle.protocol.proofs.Good.{Sound, record_parts, good-whole, good-at}

-- what was taken: rounds that 8 and 6 accept, and no more than 400
pub taken-good : (n c : ℕ) (ws : List (List ℕ)) (k : ℕ) → k < length (taken_from n c ws) → GoodRound n (get_or (taken_from n c ws) k [])
unfolding taken_from is_taken
taken-good n c [] k l = absurd (omega arith)
taken-good n c (w ∷ ws) k l =
    go (is_taken n c w) refl (taken-good n (suc c) ws) (taken-good n c ws) k l
  where
    ok : (o : Outcome) → accepted o ≡ true → o ≡ Ok tt
    ok (Ok _) h = refl
    ok (Err r) h = absurd (false≢true h)

    go : (b : Bool) → is_taken n c w ≡ b
        → ((k : ℕ) → k < length (taken_from n (suc c) ws) → GoodRound n (get_or (taken_from n (suc c) ws) k []))
        → ((k : ℕ) → k < length (taken_from n c ws) → GoodRound n (get_or (taken_from n c ws) k []))
        → (k : ℕ) → k < length (cond b (w ∷ taken_from n (suc c) ws) (taken_from n c ws))
        → GoodRound n (get_or (cond b (w ∷ taken_from n (suc c) ws) (taken_from n c ws)) k [])
    go true e f g zero l = round-good n (c + 1) w (ok (round_check n (c + 1) w) (and_left (accepted (round_check n (c + 1) w)) (ltb c 400) e))
    go true e f g (suc k) l = f k (omega arith)
    go false e f g zero l = g zero l
    go false e f g (suc k) l = g (suc k) l

pub taken-few : (n c : ℕ) (ws : List (List ℕ)) → c ≤ 400 → c + length (taken_from n c ws) ≤ 400
unfolding taken_from is_taken
taken-few n c [] h = omega arith
taken-few n c (w ∷ ws) h = go (is_taken n c w) refl (taken-few n (suc c) ws) (taken-few n c ws h)
  where
    go : (b : Bool) → is_taken n c w ≡ b → (suc c ≤ 400 → suc c + length (taken_from n (suc c) ws) ≤ 400) → c + length (taken_from n c ws) ≤ 400
        → c + length (cond b (w ∷ taken_from n (suc c) ws) (taken_from n c ws)) ≤ 400
    go true e f g = omega (arith, f (ltb-true c 400 (and_right (accepted (round_check n (c + 1) w)) (ltb c 400) e)))
    go false e f g = g

-- an accepted answer was given for an accepted outcome
pub accepted_by : (o : Outcome) (f g : Fleet) → (answer o f g).outcome ≡ Ok tt → (o ≡ Ok tt) × ((answer o f g).fleet ≡ f)
accepted_by (Ok _) f g h = (refl, refl)
accepted_by (Err r) f g h = absurd (false≢true (ap accepted h))

-- the outcome of an answer is the one that it was given for
pub answer-outcome : (o : Outcome) (f g : Fleet) → (answer o f g).outcome ≡ o
answer-outcome (Ok _) f g = refl
answer-outcome (Err r) f g = refl

-- a step's outcome is that of its check
pub step_checked : (p : Protocol) (f : Fleet) (w : List ℕ) → (stepped_in p f w).outcome ≡ step_check_in p f w
unfolding stepped_in
step_checked p f w = answer-outcome (step_check_in p f w) (next_fleet_in p f w) f

-- it is refused 6 for the round after those done, which is at most 400, and for the lowest truck of it whose own loss bit is 1
pub record StepNamed (f : Fleet) (w : List ℕ) (round truck : ℕ) : Type 0 where
  pub trucks : bad_trucks f.n ≡ false
  pub room : f.done < 400
  pub round-next : round ≡ f.done + 1
  pub own : round_check f.n (f.done + 1) w ≡ Err (OwnLoss round truck)
  pub first : FirstOwn (λ k. get_or w k 0) f.n 1 0 truck

pub step_names : (p : Protocol) (f : Fleet) (w : List ℕ) (round truck : ℕ) → step_check_in p f w ≡ Err (OwnLoss round truck) → StepNamed f w round truck
unfolding step_check_in
step_names p f w round truck h =
    let q : Refusal = OwnLoss round truck in
    let own : Outcome = round_check f.n (f.done + 1) w in
    let later : Outcome = refuse (eqb f.done 400) RoundsDone own in
    let h₇ = refuse_past (not (good_fleet_in p f)) Record q later (λ e. omega arith) h in
    let h₁₄ = refuse_past (eqb f.done 400) RoundsDone q own (λ e. omega arith) h₇.1 in
    let good = record_parts p f (not-false (good_fleet_in p f) h₇.0) in
    let full : f.done ≡ 400 → ⊥ = eqb-false f.done 400 h₁₄.0 in
    let named = round_names f.n (f.done + 1) w round truck h₁₄.1 in
    record { trucks = good.trucks; room = omega (arith, good.done); round-next = named.0; own = h₁₄.1; first = named.1 }

-- a start, by what it was given
pub record Start (n : ℕ) (openings : List ℕ) : Type 0 where
  pub some : 0 < n
  pub most : n ≤ 32
  pub trucks : bad_trucks n ≡ false
  pub crushers : bad_openings n openings ≡ false
  pub accept : start_check n openings ≡ Ok tt

pub start_by : (n : ℕ) (openings : List ℕ) → start_check n openings ≡ Ok tt → Start n openings
unfolding start_check
start_by n openings h =
    let t = refuse-false (bad_trucks n) TruckCount (refuse (bad_openings n openings) Record (Ok tt)) h in
    let r = trucks_in_lem n t in
    record {
      some = r.0;
      most = r.1;
      trucks = t;
      crushers = refuse-false (bad_openings n openings) Record (Ok tt) (refuse-rest (bad_trucks n) TruckCount (refuse (bad_openings n openings) Record (Ok tt)) h);
      accept = h;
    }

-- the recording of a list is accepted, and what was put into it is read out of it
pub record RecordingBack (n : ℕ) (openings : List ℕ) (ws : List (List ℕ)) : Type 0 where
  pub accept : check_of (recording_of n openings ws) ≡ Ok tt
  pub trucks : trucks_of (recording_of n openings ws) ≡ n
  pub rounds : rounds_of (recording_of n openings ws) ≡ length (taken n ws)
  pub crushers : openings_of (recording_of n openings ws) ≡ openings
  pub words : (k : ℕ) → k < length (taken n ws) → round_at (recording_of n openings ws) k ≡ round_in (taken n ws) k

pub recording_back : (n : ℕ) (openings : List ℕ) → Start n openings → (ws : List (List ℕ)) → RecordingBack n openings ws
unfolding recording_of
recording_back n openings start ws =
    record {
      accept = back.0;
      trucks = back.1;
      rounds = back.2;
      crushers = back.3;
      words = round-back n rs each openings start.some start.most few start.crushers;
    }
  where
    rs : List (List ℕ)
    rs = taken n ws

    s : List ℕ
    s = packed n (length rs) openings (joined rs)

    each : (k : ℕ) → k < length rs → GoodRound n (get_or rs k [])
    each = taken-good n 0 ws

    few : length rs ≤ 400
    few = omega (arith, taken-few n 0 ws (omega arith))

    back : (check_of s ≡ Ok tt) × (trucks_of s ≡ n) × (rounds_of s ≡ length rs) × (openings_of s ≡ openings) × (words_of s ≡ joined rs)
    back = read_back n (length rs) openings (joined rs) (joined-accepted n rs each openings start.some start.most few start.crushers)

module _ (p : Protocol) (sound : Sound p) (n : ℕ) (openings : List ℕ) (start : Start n openings) where
  abbrev c : Rules recorded
  c = p.rules

  -- every record on the way passes refusal 7
  pub good-fleet : (rounds : ℕ → List ℕ) (k : ℕ) → k ≤ 400 → good_fleet_in p (fleet_in p n openings rounds k) ≡ true
  unfolding good_fleet_in fleet_in
  good-fleet rounds k l =
      rw (start.trucks, le-leb k 400 l)
      (all_below-all (λ i. good_truck_in p k (truck (trucks_in c n openings rounds k) i)) n
      (λ i li. good-whole p k (truck (trucks_in c n openings rounds k) i) (good-at p sound n openings start.most good rounds k i li)))
    where
      good : GoodOpenings n openings
      good = openings_in n openings start.crushers

  -- of such a record a step can only be refused 14, 8 and 6
  pub step_outcome : (rounds : ℕ → List ℕ) (k : ℕ) (w : List ℕ) → k ≤ 400
      → (stepped_in p (fleet_in p n openings rounds k) w).outcome ≡ refuse (eqb k 400) RoundsDone (round_check n (k + 1) w)
  unfolding step_check_in fleet_in
  step_outcome rounds k w l = step_checked p (fleet_in p n openings rounds k) w ∙ rw (good-fleet rounds k l)

  -- what a step makes of such a record: the next one where its round is taken, else the same
  step_taken : (rounds : ℕ → List ℕ) (k : ℕ) (w : List ℕ) → k ≤ 400
      → (stepped_in p (fleet_in p n openings rounds k) w).fleet ≡ cond (is_taken n k w) (next_fleet_in p (fleet_in p n openings rounds k) w) (fleet_in p n openings rounds k)
  unfolding stepped_in step_check_in is_taken fleet_in
  step_taken rounds k w l = rw (good-fleet rounds k l) (go (round_check n (k + 1) w) (eqb k 400) refl)
    where
      f : Fleet
      f = fleet_in p n openings rounds k

      go : (o : Outcome) (b : Bool) → eqb k 400 ≡ b
          → (answer (refuse b RoundsDone o) (next_fleet_in p f w) f).fleet ≡ cond (accepted o && ltb k 400) (next_fleet_in p f w) f
      go (Ok _) true e = rw (le-ltb k 400 (omega (arith, eqb-true k 400 e)))
      go (Err r) true e = refl
      go (Ok _) false e = rw (lt-ltb k 400 (let x : k ≡ 400 → ⊥ = eqb-false k 400 e in omega arith))
      go (Err r) false e = refl

  -- a taken round is one more round of the run
  next_is : (pre : List (List ℕ)) (w : List ℕ)
      → next_fleet_in p (fleet_in p n openings (round_in pre) (length pre)) w ≡ fleet_in p n openings (round_in (pre ++ (w ∷ []))) (length (pre ++ (w ∷ [])))
  unfolding next_fleet_in fleet_in
  next_is pre w =
      ap₂ (λ (c : ℕ) (ts : List Truck). record { n = n; done = c; trucks = ts }) (add-one (length pre) ∙ sym longer)
      (ap (λ (k : ℕ). after_in c n (active_bit w) k w (trucks_in c n openings (round_in pre) (length pre))) (add-one (length pre))
      ∙ ap₂ (λ (v : List ℕ) (ts : List Truck). after_in c n (active_bit v) (suc (length pre)) v ts) (sym (get_or-append_seam pre w [] []))
      (rounds_ext c n openings (round_in pre) (round_in (pre ++ (w ∷ []))) (length pre) (λ k l. sym (get_or-append pre (w ∷ []) [] k l)))
      ∙ sym (at_suc c n openings (round_in (pre ++ (w ∷ []))) (length pre))
      ∙ ap (trucks_in c n openings (round_in (pre ++ (w ∷ [])))) (sym longer))
    where
      longer : length (pre ++ (w ∷ [])) ≡ suc (length pre)
      longer = length-append pre (w ∷ []) ∙ add-one (length pre)

  -- the record returned last, after the rounds `pre` were taken
  steps-from : (pre ws : List (List ℕ)) → length pre ≤ 400
      → last_record_in p (fleet_in p n openings (round_in pre) (length pre)) ws
      ≡ fleet_in p n openings (round_in (pre ++ taken_from n (length pre) ws)) (length (pre ++ taken_from n (length pre) ws))
  unfolding last_record_in taken_from is_taken
  steps-from pre [] l = ap (λ (rs : List (List ℕ)). fleet_in p n openings (round_in rs) (length rs)) (sym (append-nil pre))
  steps-from pre (w ∷ ws) l =
      ap (λ (f : Fleet). last_record_in p f ws) (step_taken (round_in pre) (length pre) w l)
      ∙ go (is_taken n (length pre) w) refl (steps-from (pre ++ (w ∷ [])) ws) (steps-from pre ws l)
    where
      f : Fleet
      f = fleet_in p n openings (round_in pre) (length pre)

      longer : length (pre ++ (w ∷ [])) ≡ suc (length pre)
      longer = length-append pre (w ∷ []) ∙ add-one (length pre)

      below : is_taken n (length pre) w ≡ true → length (pre ++ (w ∷ [])) ≤ 400
      below e = omega (arith, longer, ltb-true (length pre) 400 (and_right (accepted (round_check n (length pre + 1) w)) (ltb (length pre) 400) e))

      go : (b : Bool) → is_taken n (length pre) w ≡ b
          → (length (pre ++ (w ∷ [])) ≤ 400 → last_record_in p (fleet_in p n openings (round_in (pre ++ (w ∷ []))) (length (pre ++ (w ∷ [])))) ws
          ≡ fleet_in p n openings (round_in ((pre ++ (w ∷ [])) ++ taken_from n (length (pre ++ (w ∷ []))) ws)) (length ((pre ++ (w ∷ [])) ++ taken_from n (length (pre ++ (w ∷ []))) ws)))
          → last_record_in p f ws ≡ fleet_in p n openings (round_in (pre ++ taken_from n (length pre) ws)) (length (pre ++ taken_from n (length pre) ws))
          → last_record_in p (cond b (next_fleet_in p f w) f) ws
          ≡ fleet_in p n openings (round_in (pre ++ cond b (w ∷ taken_from n (suc (length pre)) ws) (taken_from n (length pre) ws)))
          (length (pre ++ cond b (w ∷ taken_from n (suc (length pre)) ws) (taken_from n (length pre) ws)))
      go true e ih same =
          ap (λ (g : Fleet). last_record_in p g ws) (next_is pre w) ∙ ih (below e)
          ∙ ap (λ (rs : List (List ℕ)). fleet_in p n openings (round_in rs) (length rs))
          (append_assoc pre (w ∷ []) (taken_from n (length (pre ++ (w ∷ []))) ws) ∙ ap (λ (c : ℕ). pre ++ w ∷ taken_from n c ws) longer)
      go false e ih same = same

  -- the record returned last by a list of steps
  pub steps_are : (ws : List (List ℕ)) → last_record_in p (started n openings).fleet ws ≡ fleet_in p n openings (round_in (taken n ws)) (length (taken n ws))
  unfolding started fleet_in trucks_in state_at
  steps_are ws = ap (λ (f : Fleet). last_record_in p f ws) begun ∙ steps-from [] ws (omega arith)
    where
      begun : (started n openings).fleet ≡ fleet_in p n openings (round_in []) 0
      begun = ap (λ (o : Outcome). (answer o (record { n = n; done = 0; trucks = opened_trucks openings }) blank).fleet) start.accept

  -- running the list's recording
  pub recording_run : (ws : List (List ℕ))
      → ran_in p (recording_of n openings ws) ≡ record { outcome = Ok tt; fleet = fleet_in p n openings (round_in (taken n ws)) (length (taken n ws)) }
  unfolding ran_in fleet_in
  recording_run ws =
      ap (λ (o : Outcome). answer o (fleet_in p (trucks_of s) (openings_of s) (round_at s) (rounds_of s)) blank) back.accept
      ∙ ap (λ (f : Fleet). record { outcome = Ok tt; fleet = f })
      (ap₂ (λ (m R : ℕ). fleet_in p m (openings_of s) (round_at s) R) back.trucks back.rounds
      ∙ ap (λ (os : List ℕ). fleet_in p n os (round_at s) (length rs)) back.crushers
      ∙ ap (λ (ts : List Truck). record { n = n; done = length rs; trucks = ts }) (rounds_ext c n openings (round_at s) (round_in rs) (length rs) back.words))
    where
      rs : List (List ℕ)
      rs = taken n ws

      s : List ℕ
      s = recording_of n openings ws

      back : RecordingBack n openings ws
      back = recording_back n openings start ws
