-- Lists of steps on bytes: the bytes hold the record that the same steps return, so that all that is proved of lists of steps holds of them.
use mathlib.Core.Path.{◌≡◌, refl, ap, ◌∙◌}
use mathlib.Core.Bool.{Bool, false, true≢false}
use mathlib.Core.List.{List, [], ◌∷◌}
use Prim.Native.Nat.{ℕ, suc, ◌+◌, ◌≤◌}
use native.Mathlib.Omega.{arith}
use lib.ListN.{length}
use Rattle.std.specs.Prelude.{Ok, Err}
use Rattle.basics.specs.Lists.{filled}
use Rattle.basics.proofs.Laws.{length-tab, length-filled, get_or-filled_past}
use Rattle.refusals.specs.Numbers.{outcome_number, accepted}
use Rattle.refusals.specs.declared.Refusal.{Refusal}
use Rattle.refusals.specs.Outcomes.{Outcome}
use Rattle.recording.specs.Packed.{trucks_of, rounds_of, opening_at, openings_of, round_at}
use Rattle.recording.specs.Checks.{bad_trucks, check_of}
use Rattle.recording.proofs.Accepted.{trucks_in_lem, openings_in, bytes_good}
use Rattle.radio.specs.Round.{active_bit}
use Rattle.radio.specs.Runs.{state_at}
use Rattle.protocol.proofs.AnyRun.{throughout}
use Rattle.protocol.specs.Cycles.{Rules, after_in}
use Rattle.protocol.specs.declared.Truck.{Truck}
use Rattle.protocol.specs.declared.Fleet.{Fleet}
use Rattle.protocol.specs.declared.Answer.{Answer}
use Rattle.protocol.specs.Rules.{recorded, opened}
use Rattle.protocol.specs.Runs.{opened_trucks, trucks_in}
use Rattle.protocol.specs.Fleets.{Protocol, answer, blank as blankFleet, start_check, started, step_check_in, stepped_in, next_fleet_in, ran_in, fleet_in}
use Rattle.protocol.specs.Steps.{last_record_in}
use Rattle.protocol.proofs.Opened.{length-opened, truck_unopened}
use Rattle.protocol.proofs.Steps.{accepted_by, start_by}
use Rattle.recordbytes.specs.Layout.{size_for, record_byte, packed_whole, unpacked}
use Rattle.recordbytes.proofs.RoundTrip.{Tidy, tidy-over, whole-tidy}
use Rattle.ffi.specs.Calls.{buffer_of, record_as, store_call, start_call, step_call_in, run_call_in, bytes_after_in}
use Rattle.ffi.proofs.Records.{record_number, store_whole, step_trucks, room_for, start_range, step_range, run_range}

-- a round keeps the places n and above
tidy-after : (rules : Rules recorded) (n : ℕ) (active : ℕ → Bool) (k : ℕ) (w : List ℕ) (ts : List Truck) → n ≤ 32 → Tidy n ts → Tidy n (after_in rules n active k w ts)
unfolding after_in
tidy-after rules n active k w ts most b =
    record {
      places = length-filled _ n ts (omega (arith, b.places)) ∙ b.places;
      rest = λ i l. get_or-filled_past _ n ts i (opened 0) l ∙ b.rest i l;
    }

-- the bytes b hold the record: it stands whole in the buffer d, with the places n and above as a start makes them
record Holds (d b : List ℕ) (f : Fleet) : Type 0 where
  laid : b ≡ filled (record_byte f) (size_for 32) d
  range : bad_trucks f.n ≡ false
  clean : Tidy f.n f.trucks

held-read : (d : List ℕ) → size_for 32 ≤ length d → (b : List ℕ) (f : Fleet) → Holds d b f → unpacked b ≡ record { outcome = Ok tt; fleet = f }
unfolding packed_whole
held-read d room b f h =
    let fits = room_for f.n d h.range room in
    let e : b ≡ packed_whole f d = rw fits h.laid in
    rw e (whole-tidy f d fits h.clean)

-- ---- a whole record in a buffer with room for it

stored : (a : Answer) (d : List ℕ) → a.outcome ≡ Ok tt → bad_trucks a.fleet.n ≡ false → size_for 32 ≤ length d → Tidy a.fleet.n a.fleet.trucks
    → Holds d (buffer_of (store_call a d)) a.fleet
stored a d h range room t = record { laid = ap buffer_of (store_whole a d h room); range = range; clean = t }

start-tidy : (n : ℕ) (openings : List ℕ) → (started n openings).outcome ≡ Ok tt → Tidy (started n openings).fleet.n (started n openings).fleet.trucks
unfolding started
start-tidy n openings h =
    let o = accepted_by (start_check n openings) (record { n = n; done = 0; trucks = opened_trucks openings }) blankFleet h in
    let few = (openings_in n openings (start_by n openings o.0).crushers).count in
    rw o.1 (record { places = length-opened openings; rest = λ i l. truck_unopened openings i (omega arith) })

-- ---- a step

step_tidy : (p : Protocol) (f : Fleet) (w : List ℕ) → Tidy f.n f.trucks → Tidy (stepped_in p f w).fleet.n (stepped_in p f w).fleet.trucks
unfolding stepped_in next_fleet_in
step_tidy p f w t = go (step_check_in p f w) refl
  where
    go : (o : Outcome) → step_check_in p f w ≡ o → Tidy (answer o (next_fleet_in p f w) f).fleet.n (answer o (next_fleet_in p f w) f).fleet.trucks
    go (Ok _) e =
        tidy-after p.rules f.n (active_bit w) (f.done + 1) w f.trucks (trucks_in_lem f.n (step_trucks p f w e)).1 t
    go (Err r) e = t

-- a refused step returns the record it was given
step_kept : (p : Protocol) (f : Fleet) (w : List ℕ) (r : Refusal) → (stepped_in p f w).outcome ≡ Err r → (stepped_in p f w).fleet ≡ f
unfolding stepped_in
step_kept p f w r h = go (step_check_in p f w) h
  where
    go : (o : Outcome) → (answer o (next_fleet_in p f w) f).outcome ≡ Err r → (answer o (next_fleet_in p f w) f).fleet ≡ f
    go (Ok _) e = absurd (true≢false (ap accepted e))
    go (Err q) e = refl

-- a step keeps n
step_n : (p : Protocol) (f : Fleet) (w : List ℕ) → (stepped_in p f w).fleet.n ≡ f.n
unfolding stepped_in next_fleet_in
step_n p f w = go (step_check_in p f w)
  where
    go : (o : Outcome) → (answer o (next_fleet_in p f w) f).fleet.n ≡ f.n
    go (Ok _) = refl
    go (Err r) = refl

module _ (p : Protocol) (d : List ℕ) (room : size_for 32 ≤ length d) where
  module _ (b w : List ℕ) (f : Fleet) (holds : Holds d b f) where
    step_as : step_call_in p b w ≡ record_as (stepped_in p f w).outcome (stepped_in p f w).fleet.n (stepped_in p f w).fleet b
    unfolding step_call_in
    step_as = rw (held-read d room b f holds)

    step_number : (step_call_in p b w).number ≡ outcome_number (stepped_in p f w).outcome
    step_number = rw step_as (record_number (stepped_in p f w).outcome (stepped_in p f w).fleet.n (stepped_in p f w).fleet b)

    step_holds : Holds d (buffer_of (step_call_in p b w)) (stepped_in p f w).fleet
    step_holds = rw step_as (go (stepped_in p f w).outcome refl)
      where
        g : Fleet
        g = (stepped_in p f w).fleet

        before : Tidy g.n f.trucks
        before = rw (step_n p f w) holds.clean

        go : (o : Outcome) → (stepped_in p f w).outcome ≡ o → Holds d (buffer_of (record_as o g.n g b)) g
        go (Ok _) e =
            let range = step_range p f w e in
            let clean = step_tidy p f w holds.clean in
            record {
              laid = rw holds.laid (tidy-over g.n f g d (trucks_in_lem g.n range).1 room before clean);
              range = range;
              clean = clean;
            }
        go (Err r) e = rw (step_kept p f w r e) holds

  steps_hold : (ws : List (List ℕ)) (b : List ℕ) (f : Fleet) → Holds d b f → Holds d (bytes_after_in p b ws) (last_record_in p f ws)
  unfolding bytes_after_in last_record_in
  steps_hold [] b f h = h
  steps_hold (w ∷ ws) b f h = steps_hold ws (buffer_of (step_call_in p b w)) (stepped_in p f w).fleet (step_holds b w f h)

-- ---- lists of steps and runs on bytes

module _ (p : Protocol) (n : ℕ) (openings d : List ℕ) (accepted : (started n openings).outcome ≡ Ok tt) (room : size_for 32 ≤ length d) (ws : List (List ℕ)) where
  held : Holds d (bytes_after_in p (buffer_of (start_call n openings d)) ws) (last_record_in p (started n openings).fleet ws)
  unfolding start_call
  held =
      steps_hold p d room ws (buffer_of (start_call n openings d)) (started n openings).fleet
      (stored (started n openings) d accepted (start_range n openings (started n openings) refl accepted) room (start-tidy n openings accepted))

  -- after a start and steps on bytes, refused ones included, the bytes are the record that the start and the steps return
  pub bytes_hold : unpacked (bytes_after_in p (buffer_of (start_call n openings d)) ws) ≡ record { outcome = Ok tt; fleet = last_record_in p (started n openings).fleet ws }
  bytes_hold = held-read d room (bytes_after_in p (buffer_of (start_call n openings d)) ws) (last_record_in p (started n openings).fleet ws) held

  -- all of them: 323, and past these what the buffer held
  pub bytes-laid : bytes_after_in p (buffer_of (start_call n openings d)) ws ≡ filled (record_byte (last_record_in p (started n openings).fleet ws)) (size_for 32) d
  bytes-laid = held.laid

  -- and the next step answers the number that it answers of that record
  pub next-number : (w : List ℕ)
      → (step_call_in p (bytes_after_in p (buffer_of (start_call n openings d)) ws) w).number ≡ outcome_number (stepped_in p (last_record_in p (started n openings).fleet ws) w).outcome
  next-number w = step_number p d room (bytes_after_in p (buffer_of (start_call n openings d)) ws) w (last_record_in p (started n openings).fleet ws) held

-- ---- runs

run-tidy : (rules : Rules recorded) (s : List ℕ) → trucks_of s ≤ 32 → Tidy (trucks_of s) (trucks_in rules (trucks_of s) (openings_of s) (round_at s) (rounds_of s))
unfolding openings_of trucks_in state_at
run-tidy rules s most =
    throughout rules (trucks_of s) (openings_of s) (round_at s) (λ k ts. Tidy (trucks_of s) ts) (rounds_of s)
    (record {
      places = length-opened (openings_of s);
      rest = λ i l. truck_unopened (openings_of s) i (omega (arith, length-tab (opening_at s) (trucks_of s)));
    })
    (λ k l b. tidy-after rules (trucks_of s) (active_bit (round_at s k)) (suc k) (round_at s k) (trucks_in rules (trucks_of s) (openings_of s) (round_at s) k) most b)
    (rounds_of s) (omega arith)

run_clean : (p : Protocol) (s : List ℕ) → (ran_in p s).outcome ≡ Ok tt → Tidy (ran_in p s).fleet.n (ran_in p s).fleet.trucks
unfolding ran_in fleet_in
run_clean p s h =
    let o = accepted_by (check_of s) (fleet_in p (trucks_of s) (openings_of s) (round_at s) (rounds_of s)) blankFleet h in
    rw o.1 (run-tidy p.rules s (bytes_good s o.0).frame.most)

-- the bytes that an accepted run leaves are the record that it returns
pub run_holds : (p : Protocol) (s d : List ℕ) → (ran_in p s).outcome ≡ Ok tt → size_for 32 ≤ length d
    → unpacked (buffer_of (run_call_in p s d)) ≡ record { outcome = Ok tt; fleet = (ran_in p s).fleet }
unfolding run_call_in
run_holds p s d h room =
    held-read d room (buffer_of (run_call_in p s d)) (ran_in p s).fleet (stored (ran_in p s) d h (run_range p s (ran_in p s) refl h) room (run_clean p s h))
