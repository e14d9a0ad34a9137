-- One round of any cycle: what depends only on stops and hearing (document 01, 'The fleet and its rounds'). The laws of it are in proofs/AnyRound.
use Rattle.std.specs.Prelude.{ℕ, Bool, true, false, not, ◌&&◌, List, map, get_or}
use Rattle.basics.specs.Lists.{filled}
use Rattle.radio.specs.Round.{stop_bit, active_bit, mark_bit, loss_bit}
use Rattle.radio.specs.Radio.{Radio, heard_by}
use Rattle.protocol.specs.declared.State.{State}
use Rattle.protocol.specs.declared.State.TheVariants.{Running, Stopped, Decided}

abbrev pub is_running : State → Bool
is_running Running = true
is_running (Stopped k) = false
is_running (Decided k) = false

-- what a truck of any kind shows, where a cycle holds a T of each truck
pub record Kind (T : Type 0) : Type 0 where
  -- a truck before round 1, by its opening
  pub opened : ℕ → T
  pub state : T → State
  pub estimate : T → ℕ

-- the rules of a cycle: what it adds to stops and hearing
pub record Rules {T : Type 0} (K : Kind T) : Type 0 where
  -- a running truck sends in round k; the Bool says whether it is active
  pub sends : ℕ → Bool → T → Bool
  -- what a stop in round k leaves of a truck
  pub stops : ℕ → T → T
  -- what round k makes of a truck that plays it, by the bit in the place of its active bit, whether it sends, its mark, and the estimates of the senders that it
  -- hears
  pub plays : ℕ → Bool → Bool → Bool → List ℕ → T → T

-- a round for one truck: a truck that isn't running is left alone; a running one with its stop bit set stops; any other plays
abbrev pub turn : {T : Type 0} → State → Bool → T → T → T → T
turn Running true stopped played t = stopped
turn Running false stopped played t = played
turn (Stopped k) b stopped played t = t
turn (Decided k) b stopped played t = t

module _ {T : Type 0} (K : Kind T) where
  -- truck i of a list of trucks
  abbrev pub truck_in : List T → ℕ → T
  truck_in ts i = get_or ts i (K.opened 0)

  -- the truck is running
  abbrev pub runs_in : T → Bool
  runs_in t = is_running (K.state t)

  -- the estimates of the senders that truck i hears
  unfoldable pub values_in : Radio → List T → ℕ → List ℕ
  values_in a ts i = map (λ j. K.estimate (truck_in ts j)) (heard_by a i)

module _ {T : Type 0} {K : Kind T} (c : Rules K) where
  -- round k, with the words w, of n trucks on the radio; `active` says who is active
  unfoldable pub radio_in : ℕ → (ℕ → Bool) → ℕ → List ℕ → List T → Radio
  radio_in n active k w ts =
      record {
        trucks = n;
        running = λ i. runs_in K (truck_in K ts i) && not (stop_bit w i);
        sends = λ i. runs_in K (truck_in K ts i) && not (stop_bit w i) && c.sends k (active i) (truck_in K ts i);
        marked = mark_bit w;
        lost = loss_bit w;
      }

  -- what round k makes of truck i, if it runs and doesn't stop
  unfoldable pub plays_in : Radio → ℕ → List ℕ → List T → ℕ → T
  plays_in a k w ts i = c.plays k (active_bit w i) (a.sends i) (mark_bit w i) (values_in K a ts i) (truck_in K ts i)

  -- the trucks after round k with the words w; places n and above stay as they are
  unfoldable pub after_in : ℕ → (ℕ → Bool) → ℕ → List ℕ → List T → List T
  after_in n active k w ts =
      filled (λ i. turn (K.state (truck_in K ts i)) (stop_bit w i)
      (c.stops k (truck_in K ts i)) (plays_in (radio_in n active k w ts) k w ts i) (truck_in K ts i)) n ts
