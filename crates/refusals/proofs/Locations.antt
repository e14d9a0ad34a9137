-- Refusal 6 alone names a round and a truck, and nothing else has that number.
use mathlib.Core.Path.{◌≡◌, refl, ap, sym, ◌∙◌}
use mathlib.Core.Logic.{◌⊎◌, inl, inr}
use Prim.Native.Nat.{ℕ}
use native.Mathlib.Omega.{arith}
use Rattle.std.specs.Prelude.{Option, Ok, Err, Some, None}
use Rattle.refusals.specs.declared.Refusal.{Refusal}
use Rattle.refusals.specs.declared.Refusal.TheVariants.{OwnLoss}
use Rattle.refusals.specs.declared.Location.{Location}
use Rattle.refusals.specs.Numbers.{number_of, outcome_number}
use Rattle.refusals.specs.Locations.{location_at, location_of, location_number}
use Rattle.refusals.proofs.Listed.{own_loss_at, refusal_of, listed}
use Rattle.refusals.specs.Outcomes.{Outcome}

unnamed_not : {A : Type 0} (round truck : ℕ) → None ≡ location_at round truck → A
unnamed_not round truck h = let z : ◌≡◌ {A = ℕ} 0 1 = cc in absurd (omega arith)

-- whatever is not it names nothing
pub unnamed_by : (r : Refusal) → ((round truck : ℕ) → r ≡ OwnLoss round truck → ⊥) → None ≡ location_of r
unnamed_by r other = go (listed r).place
  where
    go : (location_of r ≡ None) ⊎ ((round : ℕ) × (truck : ℕ) × (r ≡ OwnLoss round truck)) → None ≡ location_of r
    go (inl e) = sym e
    go (inr p) = absurd (other p.0 p.1 p.2)

pub named_6 : (r : Refusal) (round truck : ℕ) → location_of r ≡ location_at round truck → r ≡ OwnLoss round truck
named_6 r round truck h = go (listed r).place
  where
    go : (location_of r ≡ None) ⊎ ((a : ℕ) × (b : ℕ) × (r ≡ OwnLoss a b)) → r ≡ OwnLoss round truck
    go (inl e) = unnamed_not round truck (sym e ∙ h)
    go (inr p) = p.2 ∙ same p.0 p.1 (sym (ap location_of p.2) ∙ h)
      where
        same : (a b : ℕ) → location_at a b ≡ location_at round truck → OwnLoss a b ≡ OwnLoss round truck
        same a b e = ap own_loss_at e

-- the number of a location computed: none; round 1 and truck 0; round 400 and truck 31
pub location_numbers : (location_number None ≡ 0) × (location_number (location_at 1 0) ≡ 256) × (location_number (location_at 400 31) ≡ 102431)
location_numbers = (refl, refl, refl)

-- and it alone has the number 6
refusal_6 : (r : Refusal) → number_of r ≡ 6 → (round : ℕ) × (truck : ℕ) × (r ≡ OwnLoss round truck)
refusal_6 r h =
    let p = at (location_of r) in
    (p.0, p.1, sym (listed r).back ∙ ap (λ (k : ℕ). refusal_of k (location_of r)) h ∙ p.2)
  where
    at : (p : Option Location) → (round : ℕ) × (truck : ℕ) × (own_loss_at p ≡ OwnLoss round truck)
    at None = (0, 0, refl)
    at (Some q) = (q.round, q.truck, refl)

pub outcome_6 : (o : Outcome) → outcome_number o ≡ 6 → (round : ℕ) × (truck : ℕ) × (o ≡ Err (OwnLoss round truck))
outcome_6 (Ok _) h = absurd (omega arith)
outcome_6 (Err r) h = let s = refusal_6 r h in (s.0, s.1, ap Err s.2)
