-- The rounds of a list of words, each of 3 + n, taken off its front one after the other.
use mathlib.Core.Path.{◌≡◌, ap, sym, ◌∙◌}
use mathlib.Core.List.{List, ◌++◌}
use Prim.Native.Nat.{ℕ, ◌+◌, ◌*◌, ◌-◌, ◌/◌, ◌<◌, ◌≤◌}
use native.Mathlib.Nat.{le-div_iff_mul-le}
use native.Mathlib.Omega.{arith}
use lib.ListN.{length, get_or, take, drop, length-append, length-drop, get_or-append}
use lib.Seq.{drop-drop, drop-append_seam, get_or-drop}
use Rattle.std.proofs.lemmas.List.{length-take, get_or-take}
use Rattle.std.proofs.lemmas.Nat.{div-mul-add}

-- round r, and what is left after it
pub record Taken (words : List ℕ) (n r : ℕ) (round rest : List ℕ) : Type 0 where
  pub front : drop (r * (3 + n)) words ≡ round ++ rest
  pub whole : length round ≡ 3 + n

-- the rows of its first m trucks
abbrev pub rows : List ℕ → ℕ → List ℕ
rows round m = take (3 + m - 3) (drop 3 round)

module _ {words : List ℕ} {n r : ℕ} {round rest : List ℕ} (taken : Taken words n r round rest) where
  pub rows_count : (m : ℕ) → m ≤ n → length (rows round m) ≡ m
  rows_count m h = simp (length-take, length-drop) (omega (arith, taken.whole))

  -- a row is a word
  pub row-there : (m i : ℕ) → m ≤ n → i < length (rows round m) → get_or (rows round m) i 0 ≡ get_or words (r * (3 + n) + (3 + i)) 0
  row-there m i h l =
      get_or-take (3 + m - 3) (drop 3 round) i 0 (omega (arith, rows_count m h))
      ∙ get_or-drop 3 round i 0
      ∙ sym (get_or-append round rest 0 (3 + i) (omega (arith, rows_count m h, taken.whole)))
      ∙ ap (λ (l : List ℕ). get_or l (3 + i) 0) (sym taken.front)
      ∙ get_or-drop (r * (3 + n)) words (3 + i) 0

  -- what is left
  pub rest-there : rest ≡ drop ((r + 1) * (3 + n)) words
  rest-there =
      sym (drop-append_seam round rest)
      ∙ ap (λ (k : ℕ). drop k (round ++ rest)) taken.whole
      ∙ ap (drop (3 + n)) (sym taken.front)
      ∙ drop-drop (3 + n) (r * (3 + n)) words
      ∙ ap (λ (k : ℕ). drop k words) (let e : r * (3 + n) + (3 + n) ≡ (r + 1) * (3 + n) = omega arith in e)

  pub round_fits : (r + 1) * (3 + n) ≤ length words
  round_fits = omega (arith, taken.whole, sym (length-drop (r * (3 + n)) words) ∙ ap length taken.front ∙ length-append round rest)

  pub round_counted : r < length words / (3 + n)
  round_counted =
      let o : r + 1 ≤ length words / (3 + n) = (le-div_iff_mul-le (let o : 0 < 3 + n = omega arith in o)).1 round_fits in
      omega arith

-- no whole round is left
pub rounds_passed : (words : List ℕ) (n r : ℕ) → r * (3 + n) ≤ length words → length (drop (r * (3 + n)) words) < 3 + n → r ≡ length words / (3 + n)
rounds_passed words n r h l =
    let b : ℕ = length words - r * (3 + n) in
    sym (ap (λ (k : ℕ). k / (3 + n)) (let e : length words ≡ r * (3 + n) + b = omega arith in e) ∙ div-mul-add r (3 + n) b (omega (arith, length-drop (r * (3 + n)) words)))
