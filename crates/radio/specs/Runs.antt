-- Whole runs, by any rule for one round.
use Rattle.std.specs.Prelude.{ℕ, zero, suc, List}

-- what a start has become after k rounds. `rounds` gives the words of each round, counted from 0; `rule` takes a round's number, counted from 1, and its words
unfoldable pub state_at : {S : Type 0} → (ℕ → List ℕ → S → S) → S → (ℕ → List ℕ) → ℕ → S
state_at rule start rounds zero = start
state_at rule start rounds (suc k) = rule (suc k) (rounds k) (state_at rule start rounds k)
