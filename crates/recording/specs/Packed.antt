-- Document 01, 'Bits of a recording': where each field of the packed form stands, and the packed form of plain openings and words.
use Rattle.std.specs.Prelude.{ℕ, ◌+◌, ◌*◌, ◌-◌, ◌/◌, ◌%◌, min, cond, List, [], ◌∷◌, ◌++◌, ltb, get_or, length}
use Rattle.basics.specs.Bits.{digit}
use Rattle.basics.specs.Lists.{tab, filled}
use Rattle.recording.specs.declared.Counts.{Counts}
unfoldable pub use Rattle.bitreader.specs.Bits.{bit_at, num_at, row_at}

-- truck count n: 6 bits
unfoldable pub trucks_of : List ℕ → ℕ
trucks_of s = num_at (bit_at s) 0 6

-- rounds R: 10 bits
unfoldable pub rounds_of : List ℕ → ℕ
rounds_of s = num_at (bit_at s) 6 10

-- the two counts
abbrev pub counts_of : List ℕ → Counts
counts_of s = record { trucks = trucks_of s; rounds = rounds_of s }

-- the header: 6 bits of truck count, 10 bits of round count
abbrev pub header_bits : ℕ
header_bits = 16

-- the place of opening i; after n openings, that of the first word
abbrev pub opening_place : ℕ → ℕ
opening_place i = header_bits + 4 * i

-- the opening of truck i: 4 bits
unfoldable pub opening_at : List ℕ → ℕ → ℕ
opening_at s i = num_at (bit_at s) (opening_place i) 4

-- n openings, truck 0 first
unfoldable pub openings_of : List ℕ → List ℕ
openings_of s = tab (opening_at s) (trucks_of s)

-- lent places after the openings were put into them: as many as there are trucks and places
abbrev pub openings_into : List ℕ → List ℕ → List ℕ
openings_into s places = filled (opening_at s) (min (trucks_of s) (length places)) places

-- the words of a round in plain form: stop, active, mark, and a row of loss bits for each truck
abbrev pub round_words : ℕ → ℕ
round_words n = 3 + n

-- the rounds of n trucks follow their openings as one run of words of n bits: the place of word w
abbrev pub word_place : ℕ → ℕ → ℕ
word_place n w = opening_place n + w * n

-- and of round k, rounds counted from 0 here
abbrev pub round_place : ℕ → ℕ → ℕ
round_place n k = word_place n (k * round_words n)

-- word w of the rounds of n trucks, in a packed form whose bits are f
abbrev pub word_in : (ℕ → ℕ) → ℕ → ℕ → ℕ
word_in f n w = row_at f (word_place n w) n

-- word w of the rounds
unfoldable pub word_at : List ℕ → ℕ → ℕ
word_at s w = word_in (bit_at s) (trucks_of s) w

-- all rounds in plain form
unfoldable pub words_of : List ℕ → List ℕ
words_of s = tab (word_at s) (rounds_of s * round_words (trucks_of s))

-- one round in plain form, rounds counted from 0 here
unfoldable pub round_at : List ℕ → ℕ → List ℕ
round_at s k = tab (λ w. word_at s (k * round_words (trucks_of s) + w)) (round_words (trucks_of s))

-- total bits
unfoldable pub bits_for : ℕ → ℕ → ℕ
bits_for n R = header_bits + 4 * n + R * (3 * n + n * n)

-- and the bytes that hold them
unfoldable pub bytes_for : ℕ → ℕ → ℕ
bytes_for n R = (bits_for n R + 7) / 8

-- the bytes of the largest recording, of 32 trucks and 400 rounds
abbrev pub largest_recording : ℕ
largest_recording = 56018

-- m bytes from a function that gives each bit
unfoldable pub pack : (ℕ → ℕ) → ℕ → List ℕ
pack f m = tab (λ q. num_at f (8 * q) 8) m

-- bit q of the run of words
unfoldable pub round_bit : ℕ → List ℕ → ℕ → ℕ
round_bit n words q = digit (get_or words (q / n) 0) (q % n)

-- bit q of the openings
unfoldable pub opening_bit : List ℕ → ℕ → ℕ
opening_bit openings q = digit (get_or openings (q / 4) 0) (3 - q % 4)

-- bit p of the packed form: n, R, openings, rounds, and 0 for the bits left in the last byte
unfoldable pub pack_bit : ℕ → ℕ → List ℕ → List ℕ → ℕ → ℕ
pack_bit n R openings words p =
    cond (ltb p 6) (digit n (5 - p))
    (cond (ltb p header_bits) (digit R (15 - p))
    (cond (ltb p (opening_place n)) (opening_bit openings (p - header_bits))
    (cond (ltb p (bits_for n R)) (round_bit n words (p - opening_place n))
    0)))

-- the packed form of n, R, openings and words
unfoldable pub packed : ℕ → ℕ → List ℕ → List ℕ → List ℕ
packed n R openings words = pack (pack_bit n R openings words) (bytes_for n R)

-- rounds in plain form one after the other
unfoldable pub joined : List (List ℕ) → List ℕ
joined [] = []
joined (r ∷ rs) = r ++ joined rs
