-- What is left of a lent record: after a start or a run, and after a step.
use mathlib.Core.Path.{◌≡◌, refl, ap, ◌∙◌}
use mathlib.Core.Bool.{true, false, not}
use mathlib.Core.List.{List, [], ◌∷◌}
use Prim.Native.Nat.{ℕ, min, ◌+◌, ◌≤◌}
use native.Mathlib.Omega.{arith}
use lib.Dec.{eqb, ltb}
use lib.ListN.{length}
use borrow.Author.Tests.{le-ltb, ltb-false, not-false}
use Rattle.std.specs.Prelude.{Ok, Err}
use Rattle.basics.specs.Lists.{filled}
use Rattle.refusals.specs.Numbers.{number_of, outcome_number}
use Rattle.refusals.specs.declared.Refusal.{Refusal}
use Rattle.refusals.specs.declared.Refusal.TheVariants.{TruckCount, Record, ShortBuffer, RoundsDone}
use Rattle.refusals.specs.Outcomes.{Outcome, refuse, and_then}
use Rattle.refusals.proofs.Outcomes.{refuse-false, then-first, then_second}
use Rattle.refusals.proofs.Numbers.{outcome_0}
use Rattle.recording.specs.Packed.{trucks_of, rounds_of, openings_of, round_at}
use Rattle.recording.specs.Checks.{check_of, bad_trucks, round_check}
use Rattle.recording.proofs.Accepted.{in_trucks, bytes_good}
use Rattle.protocol.specs.declared.Fleet.{Fleet}
use Rattle.protocol.specs.declared.Answer.{Answer}
use Rattle.protocol.specs.Runs.{opened_trucks}
use Rattle.protocol.specs.Fleets.{Protocol, blank, start_check, started, good_fleet_in, step_check_in, stepped_in, next_fleet_in, ran_in, fleet_in}
use Rattle.protocol.proofs.Good.{record_parts}
use Rattle.protocol.proofs.Steps.{accepted_by, start_by}
use Rattle.recordbytes.specs.Layout.{size_for, record_byte, pack_check, pack_for, packed_whole, unpacked}
use Rattle.playback.specs.Bytes.{run_check_in, run_bytes_in}
use Rattle.fleet.specs.Bytes.{bytes_check_in, bytes_step_in}
use Rattle.ffi.specs.Calls.{CallResult, call_result, record_as, store_call, run_call_in, start_call, step_call_in}
use Rattle.ffi.proofs.Narrow.{many_trucks, narrowed}

-- the record of an accepted step has an n in range
pub step_trucks : (p : Protocol) (f : Fleet) (w : List ℕ) → step_check_in p f w ≡ Ok tt → bad_trucks f.n ≡ false
unfolding step_check_in
step_trucks p f w h =
    (record_parts p f
    (not-false (good_fleet_in p f) (refuse-false (not (good_fleet_in p f)) Record (refuse (eqb f.done 400) RoundsDone (round_check f.n (f.done + 1) w)) h))
    ).trucks

-- a buffer with room for a record of n trucks
pub room_for : (n : ℕ) (d : List ℕ) → bad_trucks n ≡ false → size_for 32 ≤ length d → pack_check n (length d) ≡ Ok tt
unfolding pack_check
room_for n d range room = rw (range, le-ltb (length d) (size_for 32) room)

-- the number that is answered
pub record_number : (o : Outcome) (m : ℕ) (f : Fleet) (d : List ℕ) → (record_as o m f d).number ≡ outcome_number o
record_number (Ok _) m f d = refl
record_number (Err r) m f d = refl

-- the number of an outcome, and the buffer with m places put by it
pub packed_as : (f : Fleet) (m : ℕ) (d l : List ℕ) (c o : Outcome) (k : ℕ) → o ≡ c → l ≡ pack_for c m f d → k ≡ outcome_number o → call_result k (l ∷ []) [] ≡ record_as c m f d
packed_as f m d l c o k p q e = rw (e, p, q) (both c)
  where
    both : (o : Outcome) → call_result (outcome_number o) (pack_for o m f d ∷ []) [] ≡ record_as o m f d
    both (Ok _) = refl
    both (Err r) = refl

-- ---- a whole record

module _ (a : Answer) (d : List ℕ) where
  pub store_refused : (r : Refusal) (k : ℕ) → a.outcome ≡ Err r → k ≡ number_of r → call_result k (d ∷ []) [] ≡ store_call a d
  unfolding store_call
  store_refused r k h e = rw (e, h)

  pub store_0 : (a.outcome ≡ Ok tt → bad_trucks a.fleet.n ≡ false) → a.outcome ≡ Ok tt → (o : Outcome) (l : List ℕ) (k : ℕ)
      → o ≡ pack_check a.fleet.n (length d) → l ≡ packed_whole a.fleet d → k ≡ outcome_number o → call_result k (l ∷ []) [] ≡ store_call a d
  unfolding store_call packed_whole pack_check
  store_0 range h o l k p q e = packed_as a.fleet 32 d l (pack_check a.fleet.n (length d)) o k p q e ∙ rw (range h, h)

  -- an accepted answer in a buffer with room, and the number 0 by which a caller knows of both
  pub store_whole : a.outcome ≡ Ok tt → size_for 32 ≤ length d → store_call a d ≡ call_result 0 (filled (record_byte a.fleet) (size_for 32) d ∷ []) []
  unfolding store_call
  store_whole h room = rw (h, le-ltb (length d) (size_for 32) room)

  pub store_accepted : (store_call a d).number ≡ 0 → (a.outcome ≡ Ok tt) × (size_for 32 ≤ length d)
  unfolding store_call
  store_accepted z =
      let fits = refuse (ltb (length d) (size_for 32)) ShortBuffer (Ok tt) in
      let o = outcome_0 (and_then a.outcome fits) (rw record_number at z) in (
        then-first a.outcome fits o,
        ltb-false (length d) (size_for 32) (refuse-false (ltb (length d) (size_for 32)) ShortBuffer (Ok tt) (then_second a.outcome fits o)),
      )

-- ---- a start

pub start_range : (n : ℕ) (openings : List ℕ) (a : Answer) → a ≡ started n openings → a.outcome ≡ Ok tt → bad_trucks a.fleet.n ≡ false
unfolding started
start_range n openings a s h =
    let o = accepted_by (start_check n openings) (record { n = n; done = 0; trucks = opened_trucks openings }) blank (rw s at h) in
    rw (s, o.1) (start_by n openings o.0).trucks

start_2 : (n : ℕ) (openings : List ℕ) → bad_trucks n ≡ true → started n openings ≡ record { outcome = Err TruckCount; fleet = blank }
unfolding started start_check
start_2 n openings h = rw h

narrow_start : (n m : ℕ) (openings : List ℕ) → m ≡ min n 255 → started m openings ≡ started n openings
narrow_start n m openings e =
    narrowed (λ k. started k openings) bad_trucks (record { outcome = Err TruckCount; fleet = blank }) n m 255 e
    (many_trucks 255 (omega arith))
    (λ l. many_trucks n (omega arith))
    (λ k h. start_2 k openings h)

pub start_stored : (n m : ℕ) (openings d : List ℕ) (a : Answer) (x : CallResult) → m ≡ min n 255 → a ≡ started m openings → x ≡ store_call a d → x ≡ start_call n openings d
unfolding start_call
start_stored n m openings d a x e h s = s ∙ ap (λ (a : Answer). store_call a d) (h ∙ narrow_start n m openings e)

-- ---- a step

pub step_range : (p : Protocol) (f : Fleet) (w : List ℕ) → (stepped_in p f w).outcome ≡ Ok tt → bad_trucks (stepped_in p f w).fleet.n ≡ false
unfolding stepped_in next_fleet_in
step_range p f w h =
    let o = accepted_by (step_check_in p f w) (next_fleet_in p f w) f h in
    rw o.1 (step_trucks p f w o.0)

pub step_left : (p : Protocol) (d w l : List ℕ) (o : Outcome) (k : ℕ) → o ≡ bytes_check_in p d w → l ≡ bytes_step_in p d w → k ≡ outcome_number o → call_result k (l ∷ []) [] ≡ step_call_in p d w
unfolding step_call_in bytes_check_in bytes_step_in
step_left p d w l o k eo el ek =
    let a = stepped_in p (unpacked d).fleet w in
    packed_as a.fleet a.fleet.n d l (and_then (unpacked d).outcome a.outcome) o k eo el ek

-- ---- a run

pub run_range : (p : Protocol) (s : List ℕ) (a : Answer) → a ≡ ran_in p s → a.outcome ≡ Ok tt → bad_trucks a.fleet.n ≡ false
unfolding ran_in fleet_in
run_range p s a e h =
    let o = accepted_by (check_of s) (fleet_in p (trucks_of s) (openings_of s) (round_at s) (rounds_of s)) blank (rw e at h) in
    let g = (bytes_good s o.0).frame in
    rw (e, o.1) (in_trucks (trucks_of s) g.some g.most)

pub run-left : (p : Protocol) (s d l : List ℕ) (o : Outcome) (k : ℕ) → o ≡ run_check_in p s d → l ≡ run_bytes_in p s d → k ≡ outcome_number o → call_result k (l ∷ []) [] ≡ run_call_in p s d
unfolding run_call_in store_call run_check_in run_bytes_in
run-left p s d l o k eo el ek =
    let a = ran_in p s in
    packed_as a.fleet 32 d l (and_then a.outcome (refuse (ltb (length d) (size_for 32)) ShortBuffer (Ok tt))) o k eo el ek
