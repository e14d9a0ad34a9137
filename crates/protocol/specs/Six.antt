-- The rules of the six-round cycle (document 02, F-4): prepare, four bit rounds, accept. Stops, losses and hearing are those of any cycle (Cycles).
-- A truck is willing where it is not unwilling. The memory and the counts are the two-round cycle's: each of these rounds hands them on.
use Rattle.std.specs.Prelude.{ℕ, ◌-◌, ◌%◌, Bool, false, cond, not, ◌&&◌, ◌||◌, List, eqb, ltb, length}
use Rattle.basics.specs.Bits.{bit}
use Rattle.protocol.specs.declared.State.TheVariants.{Stopped, Decided}
use Rattle.protocol.specs.declared.Truck.{Truck}
use Rattle.protocol.specs.Cycles.{Rules}
use Rattle.protocol.specs.Rules.{recorded, least_or}

-- round k is the first of its cycle, prepare
abbrev pub is_prepare : ℕ → Bool
is_prepare k = eqb (k % 6) 1

-- round k is the last of its cycle, accept; the four between them are the bit rounds
abbrev pub is_accept : ℕ → Bool
is_accept k = eqb (k % 6) 0

-- the bit of a truck's estimate that the bit round k is for, most significant first: worth 8 in the second round of the cycle, 1 in the fifth
abbrev pub estimate_bit : ℕ → Truck → Bool
estimate_bit k t = bit t.estimate (5 - k % 6)

-- a truck notices a message or a mark: it has mark m and hears messages with these values
abbrev pub noise : Bool → List ℕ → Bool
noise m vs = m || ltb 0 (length vs)

-- a truck stops in round k; it is willing then
abbrev pub stops_six : ℕ → Truck → Truck
stops_six k t =
    record { opening = t.opening; estimate = t.estimate; mark = t.mark; heard = t.heard; unwilling = false; state = Stopped k; sent = t.sent }

-- after prepare with mark m: it is willing; v is the least value that it heard (its estimate where it heard none)
abbrev pub after_prepare : Bool → ℕ → Truck → Truck
after_prepare m v t =
    record { opening = t.opening; estimate = cond m t.estimate v; mark = t.mark; heard = t.heard; unwilling = false; state = t.state; sent = t.sent }

-- after a bit round, in which the bit of its estimate is b: where that is 0 it listened, and is unwilling if it noticed something
abbrev pub after_bit : Bool → Bool → Truck → Truck
after_bit b noticed t =
    record {
      opening = t.opening;
      estimate = t.estimate;
      mark = t.mark;
      heard = t.heard;
      unwilling = t.unwilling || (not b && noticed);
      state = t.state;
      sent = t.sent;
    }

-- it decides in accept: it is willing, heard no veto and has no mark; whoever is heard in accept sent a veto
abbrev pub accepts : Bool → Truck → Bool
accepts noticed t = not t.unwilling && not noticed

-- after accept in round k: it is willing again
abbrev pub after_accept : ℕ → Bool → Truck → Truck
after_accept k noticed t =
    record {
      opening = t.opening;
      estimate = t.estimate;
      mark = t.mark;
      heard = t.heard;
      unwilling = false;
      state = cond (accepts noticed t) (Decided k) t.state;
      sent = t.sent;
    }

-- the rules of the six-round cycle: in prepare a truck sends its estimate if it is active, in a bit round a message if that bit of its estimate is 1, in accept a
-- veto if it is unwilling
abbrev pub six_rules : Rules recorded
six_rules =
    record {
      sends = λ k active t. cond (is_prepare k) active (cond (is_accept k) t.unwilling (estimate_bit k t));
      stops = stops_six;
      plays = λ k active sends m vs t.
          cond (is_prepare k) (after_prepare m (least_or t.estimate vs) t)
          (cond (is_accept k) (after_accept k (noise m vs) t) (after_bit (estimate_bit k t) (noise m vs) t));
    }
