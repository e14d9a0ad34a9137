-- What the steps of reading and of writing do to their buffer. Only private functions cite these.
use Rattle.std.specs.Prelude.{ℕ, zero, suc, ◌+◌, ◌*◌, ◌-◌, ◌/◌, ◌%◌, ◌^◌, ◌≡◌, Bool, List, set, get_or}
use Rattle.std.specs.Int.{w32, swap_bytes}
use Rattle.basics.specs.Bits.{bit}
use Rattle.basics.specs.Lists.{filled}
use Rattle.recording.specs.Packed.{bit_at, num_at, word_place, pack_bit}
use Rattle.bitreader.specs.Bits.{mirrored}

-- the own loss bit of truck i is 1 in the rows of a round, the first of which is that of truck 0
abbrev pub own_in_rows : List ℕ → ℕ → Bool
own_in_rows rows i = bit (get_or rows i 0) i

-- word w of the rounds of n trucks as it is gathered: the 32 bits from its place on, their bytes in reverse
abbrev pub gathered_word : List ℕ → ℕ → ℕ → ℕ
gathered_word s n w = swap_bytes w32 (num_at (bit_at s) (word_place n w) 32)

-- the word of plain form, of n bits, that was gathered so
abbrev pub turned_word : ℕ → ℕ → ℕ
turned_word n x = mirrored 32 (swap_bytes w32 x) % 2 ^ n

-- a list in which the m elements from place i on are g 0, g 1, ..
unfoldable pub over : (ℕ → ℕ) → ℕ → ℕ → List ℕ → List ℕ
over g i zero d = d
over g i (suc m) d = set (over g i m d) (i + m) (g m)

-- byte j of the first h digits of v
abbrev pub byte_of : ℕ → ℕ → ℕ → ℕ
byte_of v h j = v / 2 ^ (h - 8 * (j + 1)) % 256

-- byte q of the packed form
abbrev pub packed_byte : ℕ → ℕ → List ℕ → List ℕ → ℕ → ℕ
packed_byte n R openings words q = num_at (pack_bit n R openings words) (8 * q) 8

-- k digits of v behind those of a word of 64 bits, whose highest are lost
abbrev pub added : ℕ → ℕ → ℕ → ℕ
added acc v k = acc * 2 ^ k % 2 ^ 64 + v

-- the bits of f are put out up to a place, four bytes at a time: `at` bytes into a buffer that was d, and what is left is the lowest `have` digits of acc
pub record BitsPut (f : ℕ → ℕ) (place at have acc : ℕ) (d buf : List ℕ) : Type 0 where
  pub bytes : at ≡ 4 * (place / 32)
  pub left : have ≡ place % 32
  pub number : acc % 2 ^ have ≡ num_at f (8 * at) have
  pub buffer : buf ≡ filled (λ q. num_at f (8 * q) 8) at d
