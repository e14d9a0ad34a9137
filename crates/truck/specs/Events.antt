-- What a round makes of one truck (document 01, 'The fleet and its rounds'; document 02, F-4).
use Rattle.std.specs.Prelude.{ℕ, Bool, false, ◌&&◌, List, ltb, get_or}
use Rattle.basics.specs.Lists.{filled}
use Rattle.protocol.specs.Cycles.{turn}
use Rattle.protocol.specs.declared.Fleet.{Fleet}
use Rattle.protocol.specs.declared.Truck.{Truck}
use Rattle.protocol.specs.Rules.{stops, proposed, vetoed, truck}
use Rattle.protocol.specs.Six.{stops_six, after_prepare, after_bit, after_accept}
use Rattle.truck.specs.declared.Event.{Event}
use Rattle.truck.specs.declared.Event.TheVariants.{Stop, Proposals, Vetoes, StopSix, Prepare, Bit, Accept}

-- it sends and its count of that kind has room: a byte holds at most 255, and refusal 7 lets no count above 200 pass
abbrev pub adds : Bool → ℕ → Bool
adds sends c = sends && ltb c 255

-- of a running truck in round k
abbrev pub happened : ℕ → Event → Truck → Truck
happened k Stop t = stops k t
happened k (Proposals sends m h v) t = proposed (adds sends t.sent.proposals) m h v t
happened k (Vetoes sends m veto) t = vetoed k (adds sends t.sent.vetoes) m veto t
happened k StopSix t = stops_six k t
happened k (Prepare m v) t = after_prepare m v t
happened k (Bit b noticed) t = after_bit b noticed t
happened k (Accept noticed) t = after_accept k noticed t

-- of any truck: one that isn't running is left alone
abbrev pub turned : ℕ → Event → Truck → Truck
turned k e t = turn t.state false t (happened k e t) t

-- a fleet whose first n trucks are now what round k makes of them: element i of the list is what the round is to truck i
abbrev pub updated_first : Fleet → ℕ → ℕ → List Event → Fleet
updated_first f n k es = record { n = f.n; done = f.done; trucks = filled (λ i. turned k (get_or es i Stop) (truck f.trucks i)) n f.trucks }
