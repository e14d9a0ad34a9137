-- Laws of chains of refusals: a chain accepts exactly where none of its conditions holds.
use mathlib.Core.Path.{◌≡◌, refl, ap}
use mathlib.Core.Bool.{Bool, true, false}
use Prim.Native.Nat.{ℕ}
use native.Mathlib.Omega.{arith}
use Rattle.std.specs.Prelude.{Ok, Err}
use Rattle.refusals.specs.declared.Refusal.{Refusal}
use Rattle.refusals.specs.Numbers.{number_of, outcome_number}
use Rattle.refusals.specs.Outcomes.{Outcome, refuse, and_then}

-- an outcome is not both
pub refused-not : {A : Type 0} (r : Refusal) → ◌≡◌ {A = Outcome} (Err r) (Ok tt) → A
refused-not r h = let z : ◌≡◌ {A = ℕ} 0 1 = cc in absurd (omega arith)

-- a guard that accepts: its condition fails, and the later ones accept
pub refuse-false : (b : Bool) (r : Refusal) (o : Outcome) → refuse b r o ≡ Ok tt → b ≡ false
refuse-false true r o h = refused-not r h
refuse-false false r o h = refl

pub refuse-rest : (b : Bool) (r : Refusal) (o : Outcome) → refuse b r o ≡ Ok tt → o ≡ Ok tt
refuse-rest true r o h = refused-not r h
refuse-rest false r o h = h

pub refuse-on : (b : Bool) (r : Refusal) (o : Outcome) → b ≡ false → o ≡ Ok tt → refuse b r o ≡ Ok tt
refuse-on b r o h e = rw (h, e)

-- a guard that refuses for another reason than its own: its condition fails, and a later one refuses
pub refuse_past : (b : Bool) (r q : Refusal) (o : Outcome) → (number_of r ≡ number_of q → ⊥) → refuse b r o ≡ Err q → (b ≡ false) × (o ≡ Err q)
refuse_past true r q o other h = absurd (other (ap outcome_number h))
refuse_past false r q o other h = (refl, h)

-- two chains one after the other
pub then-first : (a b : Outcome) → and_then a b ≡ Ok tt → a ≡ Ok tt
then-first (Ok _) b h = refl
then-first (Err r) b h = h

pub then_second : (a b : Outcome) → and_then a b ≡ Ok tt → b ≡ Ok tt
then_second (Ok _) b h = h
then_second (Err r) b h = refused-not r h

pub then-both : (a b : Outcome) → a ≡ Ok tt → b ≡ Ok tt → and_then a b ≡ Ok tt
then-both a b h e = rw (h, e)

-- a second outcome that accepts where the first does adds nothing
pub then_same : (o c : Outcome) → (o ≡ Ok tt → c ≡ Ok tt) → and_then o c ≡ o
then_same (Ok _) c h = h refl
then_same (Err r) c h = refl
