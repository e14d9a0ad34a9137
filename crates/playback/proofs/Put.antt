-- The trucks that a run by sets has come to, and bytes into which they are put place by place; what a run to bytes answers.
use mathlib.Core.Path.{◌≡◌, ap, ap₂, sym, ◌∙◌}
use mathlib.Core.Bool.{Bool}
use mathlib.Core.List.{List, []}
use Prim.Native.Nat.{ℕ, ◌+◌, ◌-◌, ◌≤◌, ◌<◌, ◌^◌, ◌%◌}
use native.Mathlib.Omega.{arith}
use lib.ListN.{length, get_or}
use borrow.Author.Tests.{lt-ltb, le-ltb}
use Rattle.std.specs.Prelude.{Ok, Err}
use Rattle.basics.specs.Lists.{first, filled}
use Rattle.basics.proofs.Laws.{first-le, get_or-filled, get_or-filled_past, fill_length}
use Rattle.sets.proofs.Members.{only_is}
use Rattle.refusals.specs.declared.Refusal.{Refusal}
use Rattle.refusals.specs.declared.Refusal.TheVariants.{ShortBuffer}
use Rattle.recording.specs.Packed.{rounds_of, round_at}
use Rattle.recording.specs.Checks.{check_of}
use Rattle.counters.specs.Counters.{in_use}
use Rattle.protocol.specs.declared.Sent.{Sent}
use Rattle.protocol.specs.declared.Truck.{Truck}
use Rattle.protocol.specs.declared.Fleet.{Fleet}
use Rattle.protocol.specs.Rules.{truck, opened}
use Rattle.protocol.specs.Fleets.{Protocol, ran_in}
use Rattle.protocol.specs.Runs.{opened_trucks}
use Rattle.protocol.proofs.Opened.{truck_unopened}
use Rattle.recording.specs.declared.Counts.{Counts}
use Rattle.recordbytes.specs.Layout.{size_for, truck_bytes, record_byte, with_truck}
use Rattle.recordbytes.proofs.Laws.{fill_sets, byte_of_place, head_filled, headed, put_had}
use Rattle.playback.specs.declared.replay.Sets.{Sets}
use Rattle.playback.specs.Replays.{fleet_after}
use Rattle.playback.specs.Bytes.{run_check_in, run_bytes_in}
use Rattle.playback.specs.Sets.{was_heard}
use Rattle.playback.specs.Standing.{sent_by, truck_of, built_by, fleet_by}

pub heard-most : (p : ℕ → Bool) (e : ℕ) → e ≡ first p 16 → e ≤ 16
heard-most p e h = omega (arith, h, first-le p 16)

module _ (openings : List ℕ) (b : Sets) (by ends sent : List ℕ) where
  pub built_is : (i o e m : ℕ) (x : Sent) (t : Truck) → i < 32 → o ≡ 2 ^ (31 - i) % 2 ^ 32 → e ≡ first (was_heard by o) 16 → m ≡ in_use sent 8 → x ≡ sent_by sent m (31 - i)
      → t ≡ truck_of b e (get_or openings i 0) (get_or ends i 0) x (31 - i) → t ≡ built_by openings b by ends sent i
  built_is i o e m x t l eo ee em ex et =
      et
      ∙ ap₂ (λ (y : ℕ) (z : Sent). truck_of b y (get_or openings i 0) (get_or ends i 0) z (31 - i))
      (ee ∙ ap (λ (y : ℕ). first (was_heard by y) 16) (eo ∙ only_is (31 - i) (omega arith))) (ex ∙ ap (λ (y : ℕ). sent_by sent y (31 - i)) em)

-- of every record whose trucks at these places are these, the places up to i are put, where those before them were
abbrev pub Puts : (ℕ → Truck) → ℕ → ℕ → List ℕ → ℕ → List ℕ → Type 0
Puts ts from to d₀ i d =
    (f : Fleet) (e : List ℕ) → size_for 32 ≤ length e → ((j : ℕ) → from ≤ j → j < to → truck f.trucks j ≡ ts j)
    → d₀ ≡ filled (record_byte f) (size_for from) e → d ≡ filled (record_byte f) (size_for i) e

pub puts_more : (ts : ℕ → Truck) (from to : ℕ) (d₀ : List ℕ) (i : ℕ) (d : List ℕ) → Puts ts from to d₀ i d → from ≤ i → i < to → to ≤ 32
    → (t : Truck) (r : List ℕ) → t ≡ ts i → r ≡ with_truck d i t → Puts ts from to d₀ (i + 1) r
puts_more ts from to d₀ i d h after below most t r et er f e room there start =
    er
    ∙ ap (with_truck d i) (et ∙ sym (there i after below))
    ∙ put_had d i (omega (arith, long, room)) (omega arith) (truck f.trucks i)
    ∙ fill_sets 0 (record_byte f) e (truck_bytes (truck f.trucks i)) d (size_for i) now (omega arith) (λ j l. byte_of_place f i j l)
    ∙ ap (λ (k : ℕ). filled (record_byte f) k e) (let s : size_for i + 10 ≡ size_for (i + 1) = omega arith in s)
  where
    now : d ≡ filled (record_byte f) (size_for i) e
    now = h f e room there start

    long : length d ≡ length e
    long = fill_length (record_byte f) e d (size_for i) now (omega arith)

module _ (c : Counts) (openings : List ℕ) (b : Sets) (by ends sent d : List ℕ) (few : c.trucks ≤ 32) (room : size_for 32 ≤ length d) where
  abbrev built : ℕ → Truck
  built = built_by openings b by ends sent

  abbrev fleet : Fleet
  fleet = fleet_by c openings b by ends sent

  pub puts-all : (d₁ : List ℕ) → Puts built 0 c.trucks (headed fleet d) c.trucks d₁ → (d₂ : List ℕ) → Puts (λ _. opened 0) c.trucks 32 d₁ 32 d₂ → d₂ ≡ filled (record_byte fleet) (size_for 32) d
  puts-all d₁ h₁ d₂ h₂ =
      h₂ fleet d room (λ j l o. get_or-filled_past built c.trucks (opened_trucks []) j (opened 0) l ∙ truck_unopened [] j (omega arith))
      (h₁ fleet d room (λ j l o. get_or-filled built c.trucks (opened_trucks []) j (opened 0) o) (head_filled fleet d room))

-- ---- what a run to bytes answers, and what it leaves

module _ (p : Protocol) (s d : List ℕ) where
  pub run-refused : (r : Refusal) → check_of s ≡ Err r → (Err r ≡ run_check_in p s d) × (d ≡ run_bytes_in p s d)
  unfolding run_check_in run_bytes_in ran_in
  run-refused r h = (rw h, rw h)

  module _ (taken : check_of s ≡ Ok tt) where
    pub run_short : length d < size_for 32 → (Err ShortBuffer ≡ run_check_in p s d) × (d ≡ run_bytes_in p s d)
    unfolding run_check_in run_bytes_in ran_in
    run_short l = (rw (taken, lt-ltb (length d) (size_for 32) l), rw (taken, lt-ltb (length d) (size_for 32) l))

    pub run-put : size_for 32 ≤ length d → (l : List ℕ) → l ≡ filled (record_byte (fleet_after p (round_at s) s (rounds_of s))) (size_for 32) d → ((Ok tt) ≡ run_check_in p s d) × (l ≡ run_bytes_in p s d)
    unfolding run_check_in run_bytes_in ran_in
    run-put room l e = (rw (taken, le-ltb (length d) (size_for 32) room), e ∙ rw (taken, le-ltb (length d) (size_for 32) room))
