-- Chains of refusals: conditions asked in a fixed order, of which the first that holds decides the outcome.
use Rattle.std.specs.Prelude.{Bool, true, false, ⊤, Result, Ok, Err}
use Rattle.refusals.specs.declared.Refusal.{Refusal}

-- what a check of an input finds: nothing, or why it is refused
abbrev pub Outcome : Type 0
Outcome = Result ⊤ Refusal

-- a guard: the refusal where its condition holds, else what the later conditions give
abbrev pub refuse : Bool → Refusal → Outcome → Outcome
refuse true r o = Err r
refuse false r o = o

-- one chain after another: the second outcome where the first is no refusal
abbrev pub and_then : Outcome → Outcome → Outcome
and_then (Ok _) o = o
and_then (Err r) o = Err r
