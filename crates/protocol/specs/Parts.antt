-- The parts of a truck's record that belong to one cycle, and what it is to hand on a part unread (document 02, F-4). proofs/HandsOn has the theorem.
use Rattle.std.specs.Prelude.{◌≡◌, Bool, false, List, map, ℕ}
use Rattle.protocol.specs.declared.Cycle.{Cycle}
use Rattle.protocol.specs.declared.Cycle.TheVariants.{TwoRound, SixRound}
use Rattle.protocol.specs.declared.Heard.{Heard}
use Rattle.protocol.specs.declared.Heard.TheVariants.{Nothing}
use Rattle.protocol.specs.declared.State.{State}
use Rattle.protocol.specs.declared.Sent.{Sent}
use Rattle.protocol.specs.declared.Truck.{Truck}
use Rattle.protocol.specs.declared.Fleet.{Fleet}
use Rattle.protocol.specs.Rules.{truck, opened}
use Rattle.protocol.specs.Fleets.{Protocol, two_round, six_round, stepped_in}

-- what is no cycle's own: the opening, the estimate and the state
abbrev pub common_part : Truck → ℕ × ℕ × State
common_part t = (t.opening, t.estimate, t.state)

-- the two-round cycle's part: the memory and the counts; and a truck where it is as before round 1
abbrev pub memory_part : Truck → Bool × Heard × Sent
memory_part t = (t.mark, t.heard, t.sent)

abbrev pub without_memory : Truck → Truck
without_memory t =
    record {
      opening = t.opening;
      estimate = t.estimate;
      mark = false;
      heard = Nothing;
      unwilling = t.unwilling;
      state = t.state;
      sent = record { proposals = 0; vetoes = 0 };
    }

-- the six-round cycle's part: willingness; and a truck where it is as before round 1
abbrev pub willing_part : Truck → Bool
willing_part t = t.unwilling

abbrev pub without_willing : Truck → Truck
without_willing t =
    record { opening = t.opening; estimate = t.estimate; mark = t.mark; heard = t.heard; unwilling = false; state = t.state; sent = t.sent }

-- a record with every truck changed, those in places n and above too
abbrev pub each_truck : (Truck → Truck) → Fleet → Fleet
each_truck g f = record { n = f.n; done = f.done; trucks = map g f.trucks }

-- a truck without a part: the part is as before round 1, and what is common to all cycles and the other cycle's part are as they were
pub record Without {A B : Type 0} (part : Truck → A) (other : Truck → B) (without : Truck → Truck) : Type 0 where
  pub fresh : (t : Truck) → part (without t) ≡ part (opened t.opening)
  pub common : (t : Truck) → common_part (without t) ≡ common_part t
  pub others : (t : Truck) → other (without t) ≡ other t

-- a step, accepted or refused, hands on a part of every truck unread
pub record HandsOn {A B : Type 0} (p : Protocol) (part : Truck → A) (other : Truck → B) (without : Truck → Truck) : Type 0 where
  pub removed : Without part other without
  -- in every place the part is as it was
  pub kept : (f : Fleet) (w : List ℕ) (i : ℕ) → part (truck (stepped_in p f w).fleet.trucks i) ≡ part (truck f.trucks i)
  -- a step of the record without the part has the same outcome, and returns the same record without it
  pub unread : (f : Fleet) (w : List ℕ)
      → stepped_in p (each_truck without f) w ≡ record { outcome = (stepped_in p f w).outcome; fleet = each_truck without (stepped_in p f w).fleet }

-- a step in either cycle hands on the other's part unread
abbrev pub HandsOnOther : Cycle → Type 0
HandsOnOther TwoRound = HandsOn two_round willing_part memory_part without_willing
HandsOnOther SixRound = HandsOn six_round memory_part willing_part without_memory
