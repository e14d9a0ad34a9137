-- What is heard of a round, by sets in packed order: the truck at place p is truck 31 - p. 32 bits are read from the start of its row on,
-- of which the senders leave those of the row.
use Rattle.std.specs.Prelude.{ℕ, ◌+◌, ◌*◌, ◌-◌, Bool, ◌||◌, List, get_or}
use Rattle.std.specs.Int.Bits.{bit_and, bit_or}
use Rattle.bitreader.specs.Bits.{bit_at, num_at}
use Rattle.protocol.specs.declared.Heard.{Heard}
use Rattle.protocol.specs.Rules.{is_one, is_several}
use Rattle.playback.specs.declared.hearing.Values.{Values}
use Rattle.sets.specs.Sets.{without}
use Rattle.playback.specs.Sets.{heard_set, values_of}

abbrev pub row_from : List ℕ → ℕ → ℕ → ℕ → ℕ
row_from s at n p = num_at (bit_at s) (at + (31 - p) * n) 32

-- what the truck at place p hears, where by holds the trucks of each crusher; the least value is 16 where it hears none
abbrev pub heard_from : List ℕ → ℕ → ℕ → ℕ → List ℕ → ℕ → Values
heard_from s at n senders by p = values_of by (heard_set senders (row_from s at n p) p) 16

-- some value was heard
abbrev pub some_value : Heard → Bool
some_value h = is_one h || is_several h

-- the trucks of crusher c, where those that change take what they heard
abbrev pub settled : List ℕ → List ℕ → ℕ → ℕ → ℕ
settled by taking changed c = bit_or (without (get_or by c 0) changed) (bit_and (get_or taking c 0) changed)
