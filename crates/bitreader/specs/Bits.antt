-- The bits of a list of bytes, most significant first, and what a reader of them holds.
use Rattle.std.specs.Prelude.{ℕ, zero, suc, ◌+◌, ◌*◌, ◌-◌, ◌/◌, ◌%◌, ◌^◌, min, List, get_or}
use Rattle.basics.specs.Bits.{digit}
use Rattle.bitreader.specs.declared.Reader.{Reader}

-- bit p of the bytes, the most significant bit of the first byte being bit 0; 0 past the end
unfoldable pub bit_at : List ℕ → ℕ → ℕ
bit_at s p = digit (get_or s (p / 8) 0) (7 - p % 8)

-- k bits from place p as a number, the first worth most
unfoldable pub num_at : (ℕ → ℕ) → ℕ → ℕ → ℕ
num_at f p zero = 0
num_at f p (suc k) = num_at f p k * 2 + f (p + k)

-- k bits from place p as a word of plain form, the first worth 1: truck j at the bit worth 2 to the j
unfoldable pub row_at : (ℕ → ℕ) → ℕ → ℕ → ℕ
row_at f p zero = 0
row_at f p (suc k) = row_at f p k + f (p + k) * 2 ^ k

-- how many bits are read where k are asked for: 32 at most
abbrev pub bits_read : ℕ → ℕ
bits_read k = min k 32

-- the place of the next bit after those, which stays within 64 bits
abbrev pub place_after : ℕ → ℕ → ℕ
place_after p k = min (p + bits_read k) (2 ^ 64 - 1)

-- the digits of v below the k-th in reverse: the lowest becomes the highest
unfoldable pub mirrored : ℕ → ℕ → ℕ
mirrored k v = row_at (λ i. digit v (k - suc i)) 0 k

-- a reader that has read k bits
abbrev pub moved_by : Reader → ℕ → Reader
moved_by r k = record { bytes = r.bytes; at = place_after r.at k }
