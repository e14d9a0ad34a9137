-- Bits of a number.
use Rattle.std.specs.Prelude.{ℕ, ◌/◌, ◌%◌, ◌^◌, Bool, eqb}

-- the binary digit of w that is worth 2 to the j
abbrev pub digit : ℕ → ℕ → ℕ
digit w j = w / 2 ^ j % 2

-- it is 1
abbrev pub bit : ℕ → ℕ → Bool
bit w j = eqb (digit w j) 1

-- k is odd
abbrev pub odd : ℕ → Bool
odd k = eqb (k % 2) 1
