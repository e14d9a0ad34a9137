-- Two ways to gather bits: out of a word of eight bytes, and out of the single bytes in which the bits stand.
use Rattle.std.specs.Prelude.{◌≡◌, List, ℕ, zero, suc, ◌+◌, ◌*◌, ◌-◌, ◌/◌, ◌%◌, ◌^◌, ◌≤◌, ◌<◌, get_or, length}

-- the number that the m bytes from byte b on make, the first worth most; a byte past the end is 0
unfoldable pub bytes_from : List ℕ → ℕ → ℕ → ℕ
bytes_from s b zero = 0
bytes_from s b (suc m) = bytes_from s b m * 256 + get_or s (b + m) 0

-- w bits from place p, out of the m bytes from its byte on
abbrev pub out_of : ℕ → List ℕ → ℕ → ℕ → ℕ
out_of m s p w = bytes_from s (p / 8) m / 2 ^ (8 * m - p % 8 - w) % 2 ^ w

-- eight bytes remain at place p
abbrev pub EightRemain : List ℕ → ℕ → Type 0
EightRemain s p = p / 8 + 8 ≤ length s

-- the one way: out of a word of eight bytes
abbrev pub by_eight : List ℕ → ℕ → ℕ → ℕ
by_eight = out_of 8

-- how many bytes, from the byte of place p on, hold w bits from there
abbrev pub holding : ℕ → ℕ → ℕ
holding p w = (p % 8 + w + 7) / 8

-- the other way: out of the single bytes that hold the bits
abbrev pub by_bytes : List ℕ → ℕ → ℕ → ℕ
by_bytes s p w = out_of (holding p w) s p w

-- at every place where eight bytes remain, and for every width up to 32, both ways give the same bits
abbrev pub BothWays : Type 0
BothWays = (s : List ℕ) → ((i : ℕ) → get_or s i 0 < 256) → (p w : ℕ) → EightRemain s p → w ≤ 32 → by_eight s p w ≡ by_bytes s p w
