-- Words gathered with the first bit worth most, and then turned round, are the words of the recording.
use mathlib.Core.Path.{◌≡◌, refl, ap, ◌∙◌}
use mathlib.Core.List.{List, ◌∷◌, map}
use Prim.Native.Nat.{ℕ, zero, suc, ◌<◌, ◌≤◌, ◌%◌, ◌^◌, min}
use native.Mathlib.Omega.{arith}
use lib.ListN.{get_or, length}
use Rattle.std.specs.Int.{w32, swap_bytes, to_le_bytes, to_be_bytes, from_le_bytes}
use Rattle.std.proofs.lemmas.Nat.{be_bytes_4, from_le_bytes-to_le_bytes_4}
use Rattle.basics.specs.Lists.{tab_from, tab}
use Rattle.basics.proofs.Laws.{tab_ext}
use Rattle.bitreader.specs.Bits.{mirrored}
use Rattle.bitreader.proofs.Digits.{bit_at_lt, num_at-lt, mirrored_num, row_at_low}
use Rattle.recording.specs.Packed.{bit_at, num_at, row_at, trucks_of, word_place, word_at}
use Rattle.recording.proofs.Rounds.{word_there}
use Rattle.plain.specs.Steps.{gathered_word, turned_word}

-- four bytes in reverse, twice
le_byte : (x i : ℕ) → get_or (to_le_bytes w32 x) i 0 < 256
le_byte x zero = omega arith
le_byte x (suc zero) = omega arith
le_byte x (suc (suc zero)) = omega arith
le_byte x (suc (suc (suc zero))) = omega arith
le_byte x (suc (suc (suc (suc i)))) = omega arith

other_way : (y : ℕ) → swap_bytes w32 y ≡ from_le_bytes w32 (to_be_bytes w32 y)
other_way y = omega arith

swap_twice : (x : ℕ) → x < 2 ^ 32 → swap_bytes w32 (swap_bytes w32 x) ≡ x
swap_twice x h =
    other_way (swap_bytes w32 x)
    ∙ ap (from_le_bytes w32) (be_bytes_4 (to_le_bytes w32 x) (swap_bytes w32 x) refl (le_byte x) refl)
    ∙ from_le_bytes-to_le_bytes_4 x h

-- a function of each number of a table
map_tab_from : (f g : ℕ → ℕ) (i m : ℕ) → map f (tab_from g i m) ≡ tab_from (λ k. f (g k)) i m
unfolding tab_from
map_tab_from f g i zero = refl
map_tab_from f g i (suc m) = ap (λ (l : List ℕ). f (g i) ∷ l) (map_tab_from f g (suc i) m)

map_tab : (f g : ℕ → ℕ) (m : ℕ) → map f (tab g m) ≡ tab (λ k. f (g k)) m
unfolding tab
map_tab f g m = map_tab_from f g 0 m

module _ (s : List ℕ) (n : ℕ) (counted : n ≡ trucks_of s) (few : n ≤ 32) where
  -- one word
  turned_word_lem : (w : ℕ) → turned_word n (gathered_word s n w) ≡ word_at s w
  turned_word_lem w =
      let p : ℕ = word_place n w in
      ap (λ (x : ℕ). mirrored 32 x % 2 ^ n) (swap_twice (num_at (bit_at s) p 32) (num_at-lt (bit_at s) (bit_at_lt s) p 32))
      ∙ ap (λ (x : ℕ). x % 2 ^ n) (mirrored_num (bit_at s) (bit_at_lt s) p 32)
      ∙ row_at_low (bit_at s) (bit_at_lt s) p n 32 few
      ∙ ap (row_at (bit_at s) p) (let e : n ≡ min n 32 = omega arith in e)
      ∙ word_there s n w p (row_at (bit_at s) p (min n 32)) counted few refl refl

  -- all words
  pub turned-all : (d e d' : List ℕ) → e ≡ tab (gathered_word s n) (length d) → d' ≡ map (turned_word n) e → d' ≡ tab (word_at s) (length d)
  turned-all d e d' h g =
      g
      ∙ ap (map (turned_word n)) h
      ∙ map_tab (turned_word n) (gathered_word s n) (length d)
      ∙ tab_ext (λ w. turned_word n (gathered_word s n w)) (word_at s) (length d) (λ w l. turned_word_lem w)
