-- A step by a round in plain form, by sets of trucks: bit j of a set says whether truck j is in it.
use Rattle.std.specs.Prelude.{ℕ, ◌+◌, ◌-◌, ◌%◌, ◌^◌, Bool, cond, not, ◌&&◌, ◌||◌, List, eqb, get_or, replicate}
use Rattle.std.specs.Int.Bits.{bit_and}
use Rattle.basics.specs.Bits.{bit}
use Rattle.basics.specs.Lists.{filled}
use Rattle.radio.specs.Round.{stop_bit, active_bit, mark_bit}
use Rattle.protocol.specs.declared.Cycle.{Cycle}
use Rattle.protocol.specs.declared.Cycle.TheVariants.{TwoRound, SixRound}
use Rattle.protocol.specs.declared.Truck.{Truck}
use Rattle.protocol.specs.declared.Fleet.{Fleet}
use Rattle.protocol.specs.Rules.{truck, runs, vetoes}
use Rattle.truck.specs.declared.Event.{Event}
use Rattle.truck.specs.declared.Event.TheVariants.{Stop, StopSix}
use Rattle.truck.specs.declared.Event.TheVariants as event
use Rattle.truck.specs.Events.{turned}
use Rattle.fleet.specs.declared.round.Phase.{Phase}
use Rattle.fleet.specs.declared.round.Phase.TheVariants.{Proposals, Vetoes, Prepare, Bit, Accept}
use Rattle.playback.specs.Sets.{estimates, heard_set, values_of}

-- the next round of the six-round cycle, with so many of its rounds done
abbrev pub six_phase : ℕ → Phase
six_phase done = cond (eqb done 0) Prepare (cond (eqb done 5) Accept (Bit (2 ^ (4 - done))))

-- the next round, with so many done
abbrev pub phase_of : Cycle → ℕ → Phase
phase_of TwoRound done = cond (eqb (done % 2) 0) Proposals Vetoes
phase_of SixRound done = six_phase (done % 6)

-- a running truck has something to send; the Bool says whether it is active
abbrev pub message_in : Phase → Bool → Truck → Bool
message_in Proposals active t = active
message_in Vetoes active t = vetoes t
message_in Prepare active t = active
message_in (Bit worth) active t = not (eqb (bit_and t.estimate worth) 0)
message_in Accept active t = t.unwilling

-- truck i sends in a round with the words w
abbrev pub sends_in : Phase → List ℕ → List Truck → ℕ → Bool
sends_in phase w ts i = (runs (truck ts i) && not (stop_bit w i)) && message_in phase (active_bit w i) (truck ts i)

-- a stop in a round
abbrev pub stop_event : Phase → Event
stop_event Proposals = Stop
stop_event Vetoes = Stop
stop_event Prepare = StopSix
stop_event (Bit worth) = StopSix
stop_event Accept = StopSix

-- what a round is to a truck that doesn't stop in it, where values holds the senders of each crusher, `heard` is the set of those it hears, and e its estimate
abbrev pub play_event : Phase → Bool → Bool → ℕ → List ℕ → ℕ → Event
play_event Proposals sends mark heard values e = event.Proposals sends mark (values_of values heard e).heard (values_of values heard e).least
play_event Vetoes sends mark heard values e = event.Vetoes sends mark (not (eqb heard 0))
play_event Prepare sends mark heard values e = event.Prepare mark (values_of values heard e).least
play_event (Bit worth) sends mark heard values e = event.Bit sends (mark || not (eqb heard 0))
play_event Accept sends mark heard values e = event.Accept (mark || not (eqb heard 0))

-- what a round is to a truck, by its stop bit
unfoldable pub event_of : Phase → Bool → Bool → Bool → ℕ → List ℕ → ℕ → Event
event_of phase stop sends mark heard values e = cond stop (stop_event phase) (play_event phase sends mark heard values e)

-- what a round is to truck i, whose estimate is e
abbrev pub event_by : Phase → List ℕ → ℕ → List ℕ → ℕ → ℕ → Event
event_by phase w senders values e i = event_of phase (stop_bit w i) (bit senders i) (mark_bit w i) (heard_set senders (get_or w (3 + i) 0) i) values e

-- the same, by the estimates that are held
abbrev pub event_at : Phase → List ℕ → ℕ → List ℕ → List ℕ → ℕ → Event
event_at phase w senders values held i = event_by phase w senders values (get_or held i 0) i

-- the record of which each truck is brought up to date by what round k is to it
abbrev pub turned_fleet : Phase → List ℕ → ℕ → List ℕ → ℕ → Fleet → Fleet
turned_fleet phase w senders values k f =
    record {
      n = f.n;
      done = k;
      trucks = filled (λ i. turned k (event_by phase w senders values (estimates f.trucks i) i) (truck f.trucks i)) f.n f.trucks;
    }

-- an array of events before any is known
abbrev pub no_events : List Event
no_events = replicate 32 Stop
