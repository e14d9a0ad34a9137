-- `in_use` meets its contract: the words past the last that isn't 0 are 0.
use Rattle.std.proofs.Common.{◌≡◌, ◌≢◌, ℕ, ◌+◌, ◌<◌, Option, Some, None, MatchOption, List, get_or, sym, ◌∙◌, rules, add-one}
use Rattle.std.proofs.lemmas.Grind.{common_steps}
use Rattle.counters.specs.Counters.{in_use}
use Rattle.counters.proofs.Counts.{in_use-last, in_use-none}
use Rattle.counters.proofs.in_use.Goals as goal

-- one more than the place of that word, or 0 where there is none
counted : (words : List ℕ) (n : ℕ) (r : Option ℕ)
    → MatchOption r ((k : ℕ) → k < 8 → get_or words k 0 ≡ 0) (λ i. (i < 8) × (get_or words i 0 ≢ 0) × ((k : ℕ) → i < k → k < 8 → get_or words k 0 ≡ 0))
    → MatchOption r (n ≡ 0) (λ i. n ≡ i + 1) → n ≡ in_use words 8
counted words n None h e = e ∙ sym (in_use-none words 8 h)
counted words n (Some i) h e = e ∙ add-one i ∙ sym (in_use-last words i 8 h.0 h.1 h.2)

pub returns : goal.returns
returns c = counted c.args.words.now c.map_or.result c.rposition.result (search (rules, common_steps)) (search rules)
