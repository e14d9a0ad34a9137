-- 64 counts at once, by binary digits: bit p of word i is digit i of the count at place p.
use Rattle.std.specs.Prelude.{ℕ, zero, suc, ◌+◌, ◌*◌, ◌^◌, Bool, cond, List, eqb, get_or, set}
use Rattle.std.specs.Int.Bits.{bit_and, bit_xor}
use Rattle.basics.specs.Bits.{bit}

-- a digit as a number
abbrev pub digit_of : Bool → ℕ
digit_of b = cond b 1 0

-- the count at place p, by the first m words
unfoldable pub tally : List ℕ → ℕ → ℕ → ℕ
tally words zero p = 0
tally words (suc m) p = tally words m p + digit_of (bit (get_or words m 0) p) * 2 ^ m

-- where one more at the places of a set is carried to digit i: the digits below it are all 1
unfoldable pub carried : List ℕ → ℕ → ℕ → ℕ
carried words who zero = who
carried words who (suc i) = bit_and (get_or words i 0) (carried words who i)

-- the words with one more at the places of a set, as far as their first m digits
unfoldable pub raised : List ℕ → ℕ → ℕ → List ℕ
raised words who zero = words
raised words who (suc i) = set (raised words who i) i (bit_xor (get_or words i 0) (carried words who i))

-- all eight of them
abbrev pub counted_up : List ℕ → ℕ → List ℕ
counted_up words who = raised words who 8

-- of the first m words, how many there are up to the last that isn't 0
unfoldable pub in_use : List ℕ → ℕ → ℕ
in_use words zero = 0
in_use words (suc m) = cond (eqb (get_or words m 0) 0) (in_use words m) (suc m)
