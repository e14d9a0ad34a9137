-- Document 01 numbers its refusals from 1 to 14, each differently.
use mathlib.Core.Path.{◌≡◌, refl, ap₂, sym, ◌∙◌}
use Prim.Native.Nat.{◌≤◌}
use native.Mathlib.Omega.{arith}
use Rattle.std.specs.Prelude.{Ok, Err}
use Rattle.refusals.specs.Numbers.{number_of, outcome_number}
use Rattle.refusals.specs.Locations.{location_of}
use Rattle.refusals.specs.declared.Refusal.{Refusal}
use Rattle.refusals.proofs.Listed.{refusal_of, listed}
use Rattle.refusals.specs.Outcomes.{Outcome}

pub number_range : (r : Refusal) → (1 ≤ number_of r) × (number_of r ≤ 14)
number_range r = (listed r).range

-- so 0 stands for no refusal
pub outcome_0 : (o : Outcome) → outcome_number o ≡ 0 → o ≡ Ok tt
outcome_0 (Ok _) h = refl
outcome_0 (Err r) h = absurd (omega (arith, (number_range r).0))

-- no two refusals have the same number: with what it names, it tells which one it is
pub number_tells : (r q : Refusal) → number_of r ≡ number_of q → location_of r ≡ location_of q → r ≡ q
number_tells r q number location = sym (listed r).back ∙ ap₂ refusal_of number location ∙ (listed q).back
