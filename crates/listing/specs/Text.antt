-- The printed text (document 01, 'Runs worked through'; document 02, F-5), as bytes.
use Rattle.std.specs.Prelude.{ℕ, zero, suc, ◌+◌, ◌/◌, ◌%◌, cond, List, [], ◌∷◌, ◌++◌, ltb, Option, Ok, Err, Some, None}
use Prim.Native.Char.{code}
use Prim.Native.String as string
use Prim.Native.String.{String}
use Rattle.basics.specs.Lists.{sum_below}
use Rattle.refusals.specs.Numbers.{number_of}
use Rattle.refusals.specs.Locations.{location_of}
use Rattle.refusals.specs.declared.Refusal.{Refusal}
use Rattle.refusals.specs.declared.Location.{Location}
use Rattle.refusals.specs.Outcomes.{Outcome}
use Rattle.protocol.specs.declared.State.{State}
use Rattle.protocol.specs.declared.State.TheVariants.{Running, Stopped, Decided}
use Rattle.protocol.specs.declared.Truck.{Truck}
use Rattle.protocol.specs.declared.Fleet.{Fleet}
use Rattle.protocol.specs.Rules.{truck}
use Rattle.protocol.specs.Fleets.{ran}

-- the bytes of a text
abbrev pub text : String → List ℕ
text string.[] = []
text (string.◌∷◌ c s) = code c ∷ text s

-- a number in decimal, of at most `digits` digits
unfoldable pub decimal_in : ℕ → ℕ → List ℕ
decimal_in zero k = []
decimal_in (suc digits) k =
    let more = decimal_in digits (k / 10) ++ ((48 + k % 10) ∷ []) in
    cond (ltb k 10) ((48 + k) ∷ []) more

-- a number in decimal; none that is printed has more than five digits
unfoldable pub decimal : ℕ → List ℕ
decimal k = decimal_in 5 k

-- state, crusher (a decision or the present estimate), and for decided or stopped trucks the round
unfoldable pub state_text : State → ℕ → List ℕ
state_text Running v = text "running " ++ decimal v
state_text (Stopped k) v = text "stopped " ++ decimal v ++ text " round " ++ decimal k
state_text (Decided k) v = text "decided " ++ decimal v ++ text " round " ++ decimal k

-- how much was sent: proposals and vetoes
unfoldable pub sent_text : ℕ → ℕ → List ℕ
sent_text proposals vetoes = text "sent " ++ decimal proposals ++ text " vetoes " ++ decimal vetoes

-- the line of truck i: truck, opening, state, crusher, round, and how much it sent
unfoldable pub truck_line : ℕ → Truck → List ℕ
truck_line i t =
    decimal i ++ text " opened " ++ decimal t.opening ++ text " " ++ state_text t.state t.estimate
    ++ text " " ++ sent_text t.sent.proposals t.sent.vetoes ++ text "\n"

-- the lines of the trucks below n
unfoldable pub truck_lines : List Truck → ℕ → List ℕ
truck_lines ts zero = []
truck_lines ts (suc i) = truck_lines ts i ++ truck_line i (truck ts i)

-- the last line: how much the trucks below n sent in total
unfoldable pub totals_line : List Truck → ℕ → List ℕ
totals_line ts n =
    sent_text (sum_below (λ i. (truck ts i).sent.proposals) n) (sum_below (λ i. (truck ts i).sent.vetoes) n) ++ text "\n"

-- the whole listing: the two header counts, then a line for each truck, then the totals
unfoldable pub listing_of : Fleet → List ℕ
listing_of f =
    text "trucks " ++ decimal f.n ++ text " rounds " ++ decimal f.done ++ text "\n" ++ truck_lines f.trucks f.n
    ++ totals_line f.trucks f.n

-- the round and the truck that a refusal names, where it names them
unfoldable pub location_text : Option Location → List ℕ
location_text None = []
location_text (Some p) = text " round " ++ decimal p.round ++ text " truck " ++ decimal p.truck

-- the one line of a refused recording
unfoldable pub refusal_text : Refusal → List ℕ
refusal_text r = text "refused " ++ decimal (number_of r) ++ location_text (location_of r) ++ text "\n"

-- the listing of a run, or the line of a refusal
abbrev pub printed_for : Outcome → Fleet → List ℕ
printed_for (Ok _) f = listing_of f
printed_for (Err r) f = refusal_text r

-- what is printed for a recording
unfoldable pub printed : List ℕ → List ℕ
printed s = let a = ran s in printed_for a.outcome a.fleet
