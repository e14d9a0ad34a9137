-- A round in plain form (document 01, 'Bits of a recording'): 3 + n words of 32 bits, truck j at the bit worth 2 to the j.
use Rattle.std.specs.Prelude.{ℕ, ◌+◌, Bool, List, get_or}
use Rattle.basics.specs.Bits.{bit}

-- the stop bit, the active bit and the mark bit of truck i
abbrev pub stop_bit : List ℕ → ℕ → Bool
stop_bit w i = bit (get_or w 0 0) i

abbrev pub active_bit : List ℕ → ℕ → Bool
active_bit w i = bit (get_or w 1 0) i

abbrev pub mark_bit : List ℕ → ℕ → Bool
mark_bit w i = bit (get_or w 2 0) i

-- the loss bit of row i for truck j: truck i missed what truck j sent
abbrev pub loss_bit : List ℕ → ℕ → ℕ → Bool
loss_bit w i j = bit (get_or w (3 + i) 0) j
