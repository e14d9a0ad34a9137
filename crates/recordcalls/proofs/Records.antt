-- What the calls leave of a lent record: a law for each return.
use mathlib.Core.Path.{◌≡◌, ap, ◌∙◌}
use mathlib.Core.List.{List, [], ◌∷◌}
use Prim.Native.Nat.{ℕ, min}
use lib.ListN.{length}
use Rattle.std.specs.Prelude.{Ok, Err}
use Rattle.refusals.specs.Numbers.{number_of, outcome_number}
use Rattle.refusals.specs.declared.Refusal.{Refusal}
use Rattle.refusals.proofs.Outcomes.{then_same}
use Rattle.refusals.specs.Outcomes.{Outcome}
use Rattle.protocol.specs.declared.Cycle.{Cycle}
use Rattle.protocol.specs.declared.Cycle.TheVariants.{TwoRound, SixRound}
use Rattle.protocol.specs.declared.Fleet.{Fleet}
use Rattle.protocol.specs.declared.Answer.{Answer}
use Rattle.protocol.specs.Fleets.{Protocol, six_round, chosen, started, stepped, stepped_in}
use Rattle.recordbytes.specs.Layout.{pack_check, packed_record, packed_whole, unpacked}
use Rattle.recordbytes.proofs.RoundTrip.{undamaged, taken-whole}
use Rattle.ffi.specs.Calls.{CallResult, call_result, record_as, start_call, step_call_in}
use Rattle.ffi.proofs.Records.{packed_as, room_for, store_refused, store_0, start_range, start_stored, step_range}
use Rattle.recordcalls.specs.Calls.{put_call}

-- ---- a start

module _ (n m : ℕ) (openings d : List ℕ) (a : Answer) (few : m ≡ min n 255) (done : a ≡ started m openings) where
  pub start-refused : (r : Refusal) (k : ℕ) → a.outcome ≡ Err r → k ≡ number_of r → call_result k (d ∷ []) [] ≡ start_call n openings d
  start-refused r k h e = start_stored n m openings d a (call_result k (d ∷ []) []) few done (store_refused a d r k h e)

  pub start_0 : a.outcome ≡ Ok tt → (o : Outcome) (l : List ℕ) (k : ℕ)
      → o ≡ pack_check a.fleet.n (length d) → l ≡ packed_whole a.fleet d → k ≡ outcome_number o → call_result k (l ∷ []) [] ≡ start_call n openings d
  start_0 h o l k p q e = start_stored n m openings d a (call_result k (l ∷ []) []) few done (store_0 a d (start_range m openings a done) h o l k p q e)

-- ---- the record of an answer in a buffer

module _ (a : Answer) (d : List ℕ) where
  pub put_refused : (r : Refusal) (k : ℕ) → a.outcome ≡ Err r → k ≡ number_of r → call_result k (d ∷ []) [] ≡ put_call a d
  unfolding put_call
  put_refused r k h e = rw (e, h)

  pub put_0 : a.outcome ≡ Ok tt → (o : Outcome) (l : List ℕ) (k : ℕ)
      → o ≡ pack_check a.fleet.n (length d) → l ≡ packed_record a.fleet d → k ≡ outcome_number o → call_result k (l ∷ []) [] ≡ put_call a d
  unfolding put_call packed_record
  put_0 h o l k p q e = packed_as a.fleet a.fleet.n d l (pack_check a.fleet.n (length d)) o k p q e ∙ rw h

pub copy_put : (bytes d : List ℕ) (u : Answer) (x : CallResult) → u ≡ unpacked bytes → x ≡ put_call u d → x ≡ put_call (unpacked bytes) d
copy_put bytes d u x read e = rw (← read) e

-- ---- a step

-- by the function of its cycle
module _ (cycle : Cycle) (f : Fleet) (w : List ℕ) (a : Answer) where
  pub two_step : cycle ≡ TwoRound → a ≡ stepped f w → a ≡ stepped_in (chosen cycle) f w
  two_step h e = rw h e

  pub six_step : cycle ≡ SixRound → a ≡ stepped_in six_round f w → a ≡ stepped_in (chosen cycle) f w
  six_step h e = rw h e

module _ (p : Protocol) (d w : List ℕ) (u : Answer) (read : u ≡ unpacked d) where
  pub step_7 : (r : Refusal) (k : ℕ) → u.outcome ≡ Err r → k ≡ number_of r → call_result k (d ∷ []) [] ≡ step_call_in p d w
  unfolding step_call_in
  step_7 r k h e = rw (e, ← read, h)

  module _ (whole : u.outcome ≡ Ok tt) (a : Answer) (done : a ≡ stepped_in p u.fleet w) where
    -- a record that was taken from the buffer has room there
    step_room : a.outcome ≡ Ok tt → pack_check a.fleet.n (length d) ≡ Ok tt
    step_room h =
        room_for a.fleet.n d (rw done (step_range p u.fleet w (rw done at h))) (undamaged d (taken-whole d (rw read at whole))).whole

    pub step_put : (x : CallResult) → x ≡ put_call a d → x ≡ step_call_in p d w
    unfolding step_call_in put_call
    step_put x e =
        e
        ∙ ap (λ (o : Outcome). record_as o a.fleet.n a.fleet d) (then_same a.outcome (pack_check a.fleet.n (length d)) step_room)
        ∙ rw (← read, whole, ← done)
