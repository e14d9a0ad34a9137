-- What is heard of a round, by sets of trucks.
use Rattle.std.specs.Prelude.{ℕ, ◌<◌, ◌^◌, Bool, cond, not, ◌&&◌, List, eqb, ltb, get_or}
use Rattle.std.specs.Int.Bits.{bit_and, bit_or}
use Rattle.basics.specs.Bits.{bit}
use Rattle.basics.specs.Lists.{first}
use Rattle.sets.specs.Sets.{Members, without}
use Rattle.protocol.specs.declared.Heard.TheVariants.{Nothing, One, Several}
use Rattle.protocol.specs.declared.Truck.{Truck}
use Rattle.protocol.specs.Rules.{truck}
use Rattle.playback.specs.declared.hearing.Values.{Values}

-- the senders that a truck hears: those whose loss bit in its row is clear, and itself, whose bit stands at a place
unfoldable pub heard_set : ℕ → ℕ → ℕ → ℕ
heard_set senders row place = bit_or (without senders row) (bit_and senders (2 ^ place))

-- of the senders heard, those that sent crusher c
abbrev pub sent_here : List ℕ → ℕ → ℕ → ℕ
sent_here values heard c = bit_and heard (get_or values c 0)

-- crusher c was heard
abbrev pub was_heard : List ℕ → ℕ → ℕ → Bool
was_heard values heard c = not (eqb (sent_here values heard c) 0)

-- what is known of the values heard, where values holds the senders of each crusher: the first crusher that was heard is the least value,
-- and it is the only one where it was sent by all that were heard; e is the value where none was heard
unfoldable pub values_of : List ℕ → ℕ → ℕ → Values
values_of values heard e =
    let c = first (was_heard values heard) 16 in
    cond (ltb c 16)
    (record { heard = cond (eqb (without heard (get_or values c 0)) 0) One Several; least = c })
    (record { heard = Nothing; least = e })

-- the senders of each crusher, where est gives what each sends
abbrev pub Sorted : List ℕ → ℕ → ℕ → (ℕ → ℕ) → Type 0
Sorted values n senders est = (c : ℕ) → c < 16 → Members (get_or values c 0) n (λ j. bit senders j && eqb (est j) c)

-- the estimate that truck j holds
abbrev pub estimates : List Truck → ℕ → ℕ
estimates ts j = (truck ts j).estimate
