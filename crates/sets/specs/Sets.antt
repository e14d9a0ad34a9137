-- Words as sets of trucks: bit j says whether truck j is in the set.
use Rattle.std.specs.Prelude.{ℕ, ◌<◌, ◌^◌, ◌≡◌, Bool, true, cond, eqb}
use Rattle.std.specs.Int.Bits.{bit_and, bit_xor}
use Rattle.std.specs.Int.Count.{count_trailing_zeros}
use Rattle.basics.specs.Bits.{bit}

-- the set holds those below n that have p, and no others
pub record Members (set n : ℕ) (p : ℕ → Bool) : Type 0 where
  pub below : set < 2 ^ n
  pub each : (j : ℕ) → j < n → bit set j ≡ p j

-- a set without those of another
abbrev pub without : ℕ → ℕ → ℕ
without set other = bit_xor set (bit_and set other)

-- a set without its lowest truck
unfoldable pub rest_of : ℕ → ℕ
rest_of set = cond (eqb set 0) 0 (bit_xor set (2 ^ count_trailing_zeros 32 set))

-- the set of the lowest truck of a set
unfoldable pub lowest_only : ℕ → ℕ
lowest_only set = cond (eqb set 0) 0 (2 ^ count_trailing_zeros 32 set)

-- p is the lowest truck of the set left, and left' holds the others
pub record IsNext (left p left' : ℕ) : Type 0 where
  pub some : left ≡ 0 → ⊥
  pub lowest : p ≡ count_trailing_zeros 32 left
  pub below : p < 32
  pub held : bit left p ≡ true
  pub rest : left' ≡ rest_of left
