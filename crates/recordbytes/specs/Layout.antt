-- A fleet record as 323 bytes, for callers in other languages: n, the rounds done (low byte first), then ten bytes for each of 32 places:
-- opening, estimate, mark, what the truck heard, its state, the round of its stop or decision (low byte first; 0 for a running truck), how many proposals
-- and how many vetoes it sent, and whether it is unwilling.
use Rattle.std.specs.Prelude.{ℕ, ◌+◌, ◌*◌, ◌-◌, ◌/◌, ◌%◌, ◌≤◌, ◌<◌, ◌≡◌, Bool, cond, ◌&&◌, ◌||◌, List, [], ◌∷◌, eqb, leb, ltb, length, take, get_or, Ok, Err}
use Rattle.std.specs.List.{list_any}
use Rattle.std.proofs.lemmas.List.Edits.{sets}
use Rattle.basics.specs.Lists.{filled, some_below}
use Rattle.refusals.specs.declared.Refusal.TheVariants.{Record, ShortBuffer}
use Rattle.refusals.specs.Outcomes.{Outcome, refuse}
use Rattle.recording.specs.Checks.{bad_trucks}
use Rattle.protocol.specs.declared.Heard.{Heard}
use Rattle.protocol.specs.declared.Heard.TheVariants.{Nothing, One, Several}
use Rattle.protocol.specs.declared.State.{State}
use Rattle.protocol.specs.declared.State.TheVariants.{Running, Stopped, Decided}
use Rattle.protocol.specs.declared.Truck.{Truck}
use Rattle.protocol.specs.declared.Fleet.{Fleet}
use Rattle.protocol.specs.declared.Answer.{Answer}
use Rattle.protocol.specs.Rules.{truck, opened}
use Rattle.protocol.specs.Runs.{opened_trucks}
use Rattle.protocol.specs.Fleets.{blank}

-- the bytes of a record's head and of m places
abbrev pub size_for : ℕ → ℕ
size_for m = 3 + 10 * m

-- ---- a record as bytes

-- 1 for yes, 0 for no
abbrev pub bool_byte : Bool → ℕ
bool_byte b = cond b 1 0

abbrev pub heard_byte : Heard → ℕ
heard_byte Nothing = 0
heard_byte One = 1
heard_byte Several = 2

abbrev pub state_byte : State → ℕ
state_byte Running = 0
state_byte (Stopped k) = 1
state_byte (Decided k) = 2

abbrev pub round_of : State → ℕ
round_of Running = 0
round_of (Stopped k) = k
round_of (Decided k) = k

-- the ten bytes of a truck
abbrev pub truck_bytes : Truck → List ℕ
truck_bytes t =
    t.opening ∷ t.estimate ∷ bool_byte t.mark ∷ heard_byte t.heard ∷ state_byte t.state ∷ round_of t.state % 256 ∷ round_of t.state / 256
    ∷ t.sent.proposals ∷ t.sent.vetoes ∷ bool_byte t.unwilling ∷ []

-- byte p of the record
unfoldable pub record_byte : Fleet → ℕ → ℕ
record_byte f p =
    cond (ltb p 3) (get_or (f.n ∷ f.done % 256 ∷ f.done / 256 ∷ []) p 0)
    (get_or (truck_bytes (truck f.trucks ((p - 3) / 10))) ((p - 3) % 10) 0)

-- putting a record of n trucks into a lent buffer checks 7 (n out of range), then 9
unfoldable pub pack_check : ℕ → ℕ → Outcome
pack_check n room = refuse (bad_trucks n) Record (refuse (ltb room (size_for 32)) ShortBuffer (Ok tt))

-- the buffer with the head and the first m places of a record, everything past them staying; a refusal changes nothing
abbrev pub pack_for : Outcome → ℕ → Fleet → List ℕ → List ℕ
pack_for (Ok _) m f d = filled (record_byte f) (size_for m) d
pack_for (Err r) m f d = d

-- the buffer with a record brought up to date: places n and above stay as they are
unfoldable pub packed_record : Fleet → List ℕ → List ℕ
packed_record f d = pack_for (pack_check f.n (length d)) f.n f d

-- the buffer with a whole record, all 32 places
unfoldable pub packed_whole : Fleet → List ℕ → List ℕ
packed_whole f d = pack_for (pack_check f.n (length d)) 32 f d

-- ---- bytes as a record

abbrev pub heard_of_byte : ℕ → Heard
heard_of_byte b = cond (eqb b 1) One (cond (eqb b 2) Several Nothing)

abbrev pub state_of_byte : ℕ → ℕ → State
state_of_byte b k = cond (eqb b 1) (Stopped k) (cond (eqb b 2) (Decided k) Running)

-- byte j of place i
unfoldable pub place_byte : List ℕ → ℕ → ℕ → ℕ
place_byte d i j = get_or d (size_for i + j) 0

-- a number of two bytes, low byte first
abbrev pub pair_of : ℕ → ℕ → ℕ
pair_of low high = low + 256 * high

abbrev pub place_round : List ℕ → ℕ → ℕ
place_round d i = pair_of (place_byte d i 5) (place_byte d i 6)

-- the truck of place i
unfoldable pub truck_at : List ℕ → ℕ → Truck
truck_at d i =
    record {
      opening = place_byte d i 0;
      estimate = place_byte d i 1;
      mark = eqb (place_byte d i 2) 1;
      heard = heard_of_byte (place_byte d i 3);
      unwilling = eqb (place_byte d i 9) 1;
      state = state_of_byte (place_byte d i 4) (place_round d i);
      sent = record { proposals = place_byte d i 7; vetoes = place_byte d i 8 };
    }

-- the truck of the ten bytes of a place
abbrev pub truck_of : List ℕ → Truck
truck_of p =
    record {
      opening = get_or p 0 0;
      estimate = get_or p 1 0;
      mark = eqb (get_or p 2 0) 1;
      heard = heard_of_byte (get_or p 3 0);
      unwilling = eqb (get_or p 9 0) 1;
      state = state_of_byte (get_or p 4 0) (pair_of (get_or p 5 0) (get_or p 6 0));
      sent = record { proposals = get_or p 7 0; vetoes = get_or p 8 0 };
    }

-- there is no place i: the bytes are too few for a record, or it has no such place
abbrev pub lacks_place : List ℕ → ℕ → Bool
lacks_place d i = ltb (length d) (size_for 32) || leb 32 i

-- the truck of place i, where there is one
unfoldable pub truck_in : List ℕ → ℕ → Truck
truck_in d i = cond (lacks_place d i) (opened 0) (truck_at d i)

-- the bytes with a truck put into place i, where there is one
unfoldable pub with_truck : List ℕ → ℕ → Truck → List ℕ
with_truck d i t = cond (lacks_place d i) d (sets d (size_for i) (truck_bytes t))

-- the ten bytes of place i are those of no truck: a mark above 1, more than 2 for what it heard or for its state, a running truck with a round, or more than 1
-- for whether it is unwilling
unfoldable pub damaged_at : List ℕ → ℕ → Bool
damaged_at d i =
    ltb 1 (place_byte d i 2) || ltb 2 (place_byte d i 3) || ltb 2 (place_byte d i 4) || (eqb (place_byte d i 4) 0 && ltb 0 (place_round d i))
    || ltb 1 (place_byte d i 9)

-- the same of those ten bytes
abbrev pub damaged_place : List ℕ → Bool
damaged_place p =
    ltb 1 (get_or p 2 0) || ltb 2 (get_or p 3 0) || ltb 2 (get_or p 4 0) || (eqb (get_or p 4 0) 0 && ltb 0 (pair_of (get_or p 5 0) (get_or p 6 0)))
    || ltb 1 (get_or p 9 0)

-- the bytes are no record: too few, n out of range, or a damaged place below n; places n and above are not read
unfoldable pub damaged : List ℕ → Bool
damaged d = ltb (length d) (size_for 32) || bad_trucks (get_or d 0 0) || some_below (damaged_at d) (get_or d 0 0)

-- the record that they are; places n and above hold running, willing trucks of opening and estimate 0 with empty memory and counts 0
unfoldable pub record_of : List ℕ → Fleet
record_of d =
    record { n = get_or d 0 0; done = pair_of (get_or d 1 0) (get_or d 2 0); trucks = filled (truck_at d) (get_or d 0 0) (opened_trucks []) }

-- ---- the same by the parts of bytes that are enough for a record: the head, and the ten bytes of each place

pub record ArePartsOf (d head : List ℕ) (places : List (List ℕ)) : Type 0 where
  pub whole : size_for 32 ≤ length d
  pub count : length places ≡ 32
  pub head_byte : (j : ℕ) → j < 3 → get_or head j 0 ≡ get_or d j 0
  pub byte : (i j : ℕ) → i < 32 → j < 10 → get_or (get_or places i []) j 0 ≡ place_byte d i j

-- the trucks of the first places, with those of a record of no trucks past them
abbrev pub trucks_of : List (List ℕ) → List Truck
trucks_of places = filled (λ i. truck_of (get_or places i [])) (length places) (opened_trucks [])

unfoldable pub damaged_parts : List ℕ → List (List ℕ) → Bool
damaged_parts head places = bad_trucks (get_or head 0 0) || list_any damaged_place (take (get_or head 0 0) places)

unfoldable pub record_of_parts : List ℕ → List (List ℕ) → Fleet
record_of_parts head places =
    record {
      n = get_or head 0 0;
      done = pair_of (get_or head 1 0) (get_or head 2 0);
      trucks = trucks_of (take (get_or head 0 0) places);
    }

-- taking bytes for a record: 7 where they are none, with the blank record
abbrev pub no_record : Answer
no_record = record { outcome = Err Record; fleet = blank }

unfoldable pub unpacked : List ℕ → Answer
unpacked d = cond (damaged d) no_record (record { outcome = Ok tt; fleet = record_of d })
