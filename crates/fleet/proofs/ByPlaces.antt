-- A step of a record as bytes: what it answers, and what it leaves, place by place.
use mathlib.Core.Path.{◌≡◌, refl, ap, ap₂, sym, ◌∙◌}
use mathlib.Core.Bool.{true, false}
use mathlib.Core.List.{List}
use Prim.Native.Nat.{ℕ, ◌+◌, ◌≤◌, ◌<◌, min}
use native.Mathlib.Omega.{arith}
use lib.ListN.{length, get_or}
use Rattle.std.specs.Prelude.{Ok, Err}
use Rattle.basics.specs.Lists.{filled}
use Rattle.basics.proofs.Laws.{get_or-filled}
use Rattle.refusals.specs.declared.Refusal.{Refusal}
use Rattle.refusals.specs.declared.Refusal.TheVariants.{Record}
use Rattle.refusals.proofs.Outcomes.{then-first}
use Rattle.protocol.specs.declared.Truck.{Truck}
use Rattle.protocol.specs.declared.Fleet.{Fleet}
use Rattle.protocol.specs.Rules.{truck, opened}
use Rattle.protocol.specs.Fleets.{Protocol, step_check_in, next_fleet_in, stepped_in}
use Rattle.protocol.proofs.Steps.{answer-outcome}
use Rattle.truck.specs.declared.Event.{Event}
use Rattle.truck.specs.Events.{turned}
use Rattle.recordbytes.specs.Layout.{size_for, record_byte, truck_in, with_truck, damaged, record_of, unpacked}
use Rattle.recordbytes.proofs.Laws.{headed, put_holds, put-now, put-length}
use Rattle.recordbytes.proofs.RoundTrip.{taken-whole}
use Rattle.recordbytes.proofs.Places.{bytes_whole, bytes-few, bytes-n, head_n, head_trucks, place_kept, place-put}
use Rattle.fleet.specs.declared.round.Phase.{Phase}
use Rattle.fleet.specs.Rounds.{event_by, turned_fleet}
use Rattle.playback.specs.Sets.{estimates}
use Rattle.fleet.specs.Bytes.{bytes_check_in, bytes_step_in}

-- a loop over the places of sound bytes ends at n
pub places_end : (d : List ℕ) → damaged d ≡ false → {end : ℕ} → end ≡ min (get_or d 0 0) 32 → end ≡ (record_of d).n
places_end d sound e = omega (arith, e, bytes-n d sound, bytes-few d sound)

module _ (p : Protocol) (d w : List ℕ) where
  pub check_damaged : damaged d ≡ true → Err Record ≡ bytes_check_in p d w
  unfolding bytes_check_in unpacked
  check_damaged h = rw h

  pub check_undamaged : bytes_check_in p d w ≡ Ok tt → damaged d ≡ false
  unfolding bytes_check_in
  check_undamaged h = taken-whole d (then-first (unpacked d).outcome (stepped_in p (unpacked d).fleet w).outcome h)

  pub bytes-refused : (r : Refusal) → bytes_check_in p d w ≡ Err r → d ≡ bytes_step_in p d w
  unfolding bytes_step_in
  bytes-refused r h = rw h

  module _ (sound : damaged d ≡ false) where
    pub check_is : step_check_in p (record_of d) w ≡ bytes_check_in p d w
    unfolding bytes_check_in unpacked stepped_in
    check_is = rw sound (sym (answer-outcome (step_check_in p (record_of d) w) (next_fleet_in p (record_of d) w) (record_of d)))

    pub bytes-accepted : bytes_check_in p d w ≡ Ok tt → (l : List ℕ) → l ≡ filled (record_byte (next_fleet_in p (record_of d) w)) (size_for (record_of d).n) d → l ≡ bytes_step_in p d w
    unfolding bytes_step_in unpacked stepped_in next_fleet_in
    bytes-accepted h l e = e ∙ rw (h, sound, check_is ∙ h)

-- the places are turned one after the other: what the buffer l holds after i of them
module _ (phase : Phase) (w : List ℕ) (senders : ℕ) (values : List ℕ) (k : ℕ) (d : List ℕ) (sound : damaged d ≡ false) where
  abbrev next : Fleet
  next = turned_fleet phase w senders values k (record_of d)

  -- the same, of the bytes with the new head
  abbrev next_of : Fleet
  next_of = turned_fleet phase w senders values k (record_of (headed next d))

  next-same : next_of ≡ next
  next-same =
      ap₂ (λ (n : ℕ) (ts : List Truck). turned_fleet phase w senders values k (record { n = n; done = k; trucks = ts }))
      (head_n d sound next refl) (head_trucks d sound next refl)

  pub turn_holds : headed next d ≡ filled (record_byte next_of) (size_for 0) (headed next d)
  turn_holds = put_holds next d (bytes_whole d sound) ∙ ap (λ (g : Fleet). filled (record_byte g) (size_for 0) (headed next d)) (sym next-same)

  module _ (l : List ℕ) (i : ℕ) (few : i ≤ (record_of d).n) (now : l ≡ filled (record_byte next_of) (size_for i) (headed next d)) where
    been : l ≡ filled (record_byte next) (size_for i) (headed next d)
    been = now ∙ ap (λ (g : Fleet). filled (record_byte g) (size_for i) (headed next d)) next-same

    places : i ≤ 32
    places = omega (arith, few, bytes-few d sound)

    pub turn-length : length l ≡ length d
    turn-length = put-length next d (bytes_whole d sound) l i places been

    pub turn-done : (record_of d).n ≤ i → l ≡ filled (record_byte next) (size_for (record_of d).n) d
    turn-done most =
        put-now next d (bytes_whole d sound) l i places been
        ∙ ap (λ (m : ℕ). filled (record_byte next) (size_for m) d) (let e : i ≡ (record_of d).n = omega (arith, few, most) in e)

    pub turn_more : (below : i < (record_of d).n) (t u : Truck) (e : Event) (r : List ℕ) → t ≡ truck_in l i → e ≡ event_by phase w senders values t.estimate i → u ≡ turned k e t
        → r ≡ with_truck l i u → r ≡ filled (record_byte next_of) (size_for (i + 1)) (headed next d)
    turn_more below t u e r et ee eu er =
        place-put d sound next l i below been r (er ∙ ap (with_truck l i) (is ∙ sym there))
        ∙ ap (λ (g : Fleet). filled (record_byte g) (size_for (i + 1)) (headed next d)) (sym next-same)
      where
        turned_at : ℕ → Truck
        turned_at j = turned k (event_by phase w senders values (estimates (record_of d).trucks j) j) (truck (record_of d).trucks j)

        read : t ≡ truck (record_of d).trucks i
        read = et ∙ place_kept d sound next l i below been

        is : u ≡ turned_at i
        is = eu ∙ ap (λ (x : Event). turned k x t) ee ∙ ap (λ (x : Truck). turned k (event_by phase w senders values x.estimate i) x) read

        there : truck next.trucks i ≡ turned_at i
        there = get_or-filled turned_at (record_of d).n (record_of d).trucks i (opened 0) below
