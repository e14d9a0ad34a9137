-- What holds of every refusal, one clause for each: its number is one of document 01's, with what it names it tells which refusal it is, and 6 alone names a place.
use mathlib.Core.Path.{◌≡◌, refl}
use mathlib.Core.Bool.{cond}
use mathlib.Core.Logic.{◌⊎◌, inl, inr}
use Prim.Native.Nat.{ℕ, ◌≤◌}
use native.Mathlib.Omega.{arith}
use lib.Dec.{eqb}
use Rattle.std.specs.Prelude.{Option, Some, None}
use Rattle.refusals.specs.declared.Refusal.{Refusal}
use Rattle.refusals.specs.declared.Refusal.TheVariants.{ShortRecording, TruckCount, RoundCount, RecordingLength, EndBit, OwnLoss, Record}
use Rattle.refusals.specs.declared.Refusal.TheVariants.{PlainRound, ShortBuffer, RoadLists, Seconds, NoTime, AllIdle, RoundsDone}
use Rattle.refusals.specs.declared.Location.{Location}
use Rattle.refusals.specs.Numbers.{number_of}
use Rattle.refusals.specs.Locations.{location_of}

-- the refusal of a number that names such a place
abbrev pub own_loss_at : Option Location → Refusal
own_loss_at None = OwnLoss 0 0
own_loss_at (Some p) = OwnLoss p.round p.truck

abbrev pub refusal_of : ℕ → Option Location → Refusal
refusal_of k p =
    cond (eqb k 1) ShortRecording
    (cond (eqb k 2) TruckCount
    (cond (eqb k 3) RoundCount
    (cond (eqb k 4) RecordingLength
    (cond (eqb k 5) EndBit
    (cond (eqb k 6) (own_loss_at p)
    (cond (eqb k 7) Record
    (cond (eqb k 8) PlainRound
    (cond (eqb k 9) ShortBuffer
    (cond (eqb k 10) RoadLists
    (cond (eqb k 11) Seconds
    (cond (eqb k 12) NoTime
    (cond (eqb k 13) AllIdle
    RoundsDone))))))))))))

pub record Listed (r : Refusal) : Type 0 where
  pub range : (1 ≤ number_of r) × (number_of r ≤ 14)
  pub back : refusal_of (number_of r) (location_of r) ≡ r
  pub place : (location_of r ≡ None) ⊎ ((round : ℕ) × (truck : ℕ) × (r ≡ OwnLoss round truck))

pub listed : (r : Refusal) → Listed r
listed ShortRecording = record { range = (omega arith, omega arith); back = refl; place = inl refl }
listed TruckCount = record { range = (omega arith, omega arith); back = refl; place = inl refl }
listed RoundCount = record { range = (omega arith, omega arith); back = refl; place = inl refl }
listed RecordingLength = record { range = (omega arith, omega arith); back = refl; place = inl refl }
listed EndBit = record { range = (omega arith, omega arith); back = refl; place = inl refl }
listed (OwnLoss round truck) = record { range = (omega arith, omega arith); back = refl; place = inr (round, truck, refl) }
listed Record = record { range = (omega arith, omega arith); back = refl; place = inl refl }
listed PlainRound = record { range = (omega arith, omega arith); back = refl; place = inl refl }
listed ShortBuffer = record { range = (omega arith, omega arith); back = refl; place = inl refl }
listed RoadLists = record { range = (omega arith, omega arith); back = refl; place = inl refl }
listed Seconds = record { range = (omega arith, omega arith); back = refl; place = inl refl }
listed NoTime = record { range = (omega arith, omega arith); back = refl; place = inl refl }
listed AllIdle = record { range = (omega arith, omega arith); back = refl; place = inl refl }
listed RoundsDone = record { range = (omega arith, omega arith); back = refl; place = inl refl }
