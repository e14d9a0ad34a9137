-- The rules of the two-round cycle (document 01, 'The fleet and its rounds'): odd rounds are for proposals, even rounds for vetoes.
-- Their laws are in proofs/Rules and, for lists of values, in proofs/Values.
use Rattle.std.specs.Prelude.{ℕ, ◌+◌, min, Bool, true, false, cond, not, ◌&&◌, ◌||◌, List, [], ◌∷◌, eqb, ltb, length}
use Rattle.basics.specs.Bits.{odd}
use Rattle.radio.specs.Radio.{Radio}
use Rattle.protocol.specs.declared.Heard.{Heard}
use Rattle.protocol.specs.declared.Heard.TheVariants.{Nothing, One, Several}
use Rattle.protocol.specs.declared.State.TheVariants.{Running, Stopped, Decided}
use Rattle.protocol.specs.declared.Truck.{Truck}
use Rattle.protocol.specs.Cycles.{Kind, Rules, truck_in, runs_in, values_in, radio_in, plays_in, after_in}

-- a truck of a fleet record before round 1, in any cycle: running, its estimate is its opening, its memory reads no mark and no value, it is willing, both counts
-- are 0
abbrev pub opened : ℕ → Truck
opened v =
    record { opening = v; estimate = v; mark = false; heard = Nothing; unwilling = false; state = Running; sent = record { proposals = 0; vetoes = 0 } }

-- what the trucks of a fleet record show
abbrev pub recorded : Kind Truck
recorded = record { opened = opened; state = λ t. t.state; estimate = λ t. t.estimate }

-- truck i of a list of trucks
abbrev pub truck : List Truck → ℕ → Truck
truck = truck_in recorded

-- the truck is running
abbrev pub runs : Truck → Bool
runs = runs_in recorded

abbrev pub is_several : Heard → Bool
is_several Nothing = false
is_several One = false
is_several Several = true

abbrev pub is_one : Heard → Bool
is_one Nothing = false
is_one One = true
is_one Several = false

-- the truck sends a veto if in the round before it had a mark or heard several different values
abbrev pub vetoes : Truck → Bool
vetoes t = t.mark || is_several t.heard

-- every value of the list is v
unfoldable pub all_same : ℕ → List ℕ → Bool
all_same v [] = true
all_same v (u ∷ us) = eqb u v && all_same v us

-- no value, one value, or several different values
unfoldable pub different : List ℕ → Heard
different [] = Nothing
different (v ∷ vs) = cond (all_same v vs) One Several

-- the least value of a list, or e where it has none
unfoldable pub least_or : ℕ → List ℕ → ℕ
least_or e [] = e
least_or e (v ∷ vs) = min v (least_or v vs)

-- a count of what a truck sent, after a round of that kind: 1 more exactly if it sends
abbrev pub counted : Bool → ℕ → ℕ
counted sends c = cond sends (c + 1) c

-- a truck stops in round k; it keeps its counts, and its willingness, which this cycle does not read
abbrev pub stops : ℕ → Truck → Truck
stops k t =
    record { opening = t.opening; estimate = t.estimate; mark = false; heard = Nothing; unwilling = t.unwilling; state = Stopped k; sent = t.sent }

-- after a proposal round with mark m, in which it sends or not: h says how many different values it heard, v is the least of them (its estimate where it heard none)
abbrev pub proposed : Bool → Bool → Heard → ℕ → Truck → Truck
proposed sends m h v t =
    record {
      opening = t.opening;
      estimate = cond m t.estimate v;
      mark = m;
      heard = h;
      unwilling = t.unwilling;
      state = t.state;
      sent = record { proposals = counted sends t.sent.proposals; vetoes = t.sent.vetoes };
    }

-- it decides after a veto round: it heard no veto, has no mark now, and in the proposal round had exactly one value
abbrev pub decides : Bool → Bool → Truck → Bool
decides m veto t = not veto && not m && is_one t.heard

-- after the veto round k with mark m, in which it sends or not; `veto` says whether it heard one
abbrev pub vetoed : ℕ → Bool → Bool → Bool → Truck → Truck
vetoed k sends m veto t =
    record {
      opening = t.opening;
      estimate = t.estimate;
      mark = false;
      heard = Nothing;
      unwilling = t.unwilling;
      state = cond (decides m veto t) (Decided k) t.state;
      sent = record { proposals = t.sent.proposals; vetoes = counted sends t.sent.vetoes };
    }

-- the rules of the two-round cycle: in odd rounds a truck sends its estimate if it is active, in even rounds its veto if it has one;
-- whoever is heard in an even round sent a veto, so a truck heard a veto if it heard anybody
abbrev pub two_rules : Rules recorded
two_rules =
    record {
      sends = λ k active t. cond (odd k) active (vetoes t);
      stops = stops;
      plays = λ k active sends m vs t.
          cond (odd k) (proposed sends m (different vs) (least_or t.estimate vs) t) (vetoed k sends m (ltb 0 (length vs)) t);
    }

-- one round of it: on the radio, the values that a truck hears, what it makes of a truck that plays, and of all trucks
abbrev pub radio_of : ℕ → (ℕ → Bool) → ℕ → List ℕ → List Truck → Radio
radio_of = radio_in two_rules

abbrev pub values_heard : Radio → List Truck → ℕ → List ℕ
values_heard = values_in recorded

abbrev pub plays : Radio → ℕ → List ℕ → List Truck → ℕ → Truck
plays = plays_in two_rules

abbrev pub after : ℕ → (ℕ → Bool) → ℕ → List ℕ → List Truck → List Truck
after = after_in two_rules
