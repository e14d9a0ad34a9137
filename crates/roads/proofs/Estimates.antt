-- Laws of the estimates: the estimate of whole numbers is the exact time, rounded once.
use mathlib.Core.Path.{◌≡◌, refl, sym, ap, ap₂, ◌∙◌}
use mathlib.Core.Logic.{◌⊎◌, inl, inr}
use mathlib.Core.Bool.{Bool, true, false, cond}
use Prim.Native.Nat.{ℕ, ◌*◌, ◌^◌, ◌≤◌, ◌<◌}
use native.Mathlib.Nat.{mul-le-mul, eq-zero-or-pos}
use native.Mathlib.Omega.{arith}
use borrow.Author.Tests.{eq-eqb, ne_eqb, eqb-false}
use lib.Dec.{ltb, eqb}
use lib.Ieee.{Float, binary64, eq, lt, round, of_int, of_bits}
use lib.Ieee.Exact.{HasValue}
use Rattle.rounding.proofs.Order.{Small, order, equal}
use Rattle.rounding.proofs.Quotient.{whole, whole-eq, quotient}
use Rattle.roads.specs.declared.Leg.{Leg}
use Rattle.std.specs.Prelude.{Option, Some, None}
use Rattle.roads.specs.Estimates.{float, leg_of, quotient_of, estimate_of}
use Rattle.roads.specs.Opening.{Road, idle, passed_over, numerator, denominator}
use Rattle.roads.proofs.Roads.{length_0, longer, time_there}

-- ---- the three ways through the code
abbrev estimate_by : Leg → Bool → Bool → Option Float
estimate_by leg a b = cond a (Some (float 0)) (cond b None (Some (quotient_of leg)))

module _ (leg : Leg) where
  pub estimate-length_0 : eq leg.length (of_bits binary64 0) ≡ true → Some (of_bits binary64 0) ≡ estimate_of leg
  unfolding of_int of_bits
  estimate-length_0 h = sym (ap (λ (a : Bool). estimate_by leg a (eq leg.metres (float 0))) h)

  pub estimate-idle : eq leg.length (of_bits binary64 0) ≡ false → eq leg.metres (of_bits binary64 0) ≡ true → None ≡ estimate_of leg
  unfolding of_int of_bits
  estimate-idle g h = sym (ap₂ (estimate_by leg) g h)

  pub estimate-seconds : eq leg.length (of_bits binary64 0) ≡ false → eq leg.metres (of_bits binary64 0) ≡ false → Some (quotient_of leg) ≡ estimate_of leg
  unfolding of_int of_bits
  estimate-seconds g h = sym (ap₂ (estimate_by leg) g h)

-- the float 0 stands for exactly 0
pub float_0 : HasValue (float 0) false 0 1
float_0 = whole 0 (omega arith)

-- ---- of a road whose numbers have 16 bits

-- a road's leg
abbrev pub leg_for : Road → Leg
leg_for r = leg_of r.length r.metres r.seconds

-- its three numbers have 16 bits
abbrev pub SixteenBits : Road → Type 0
SixteenBits r = (r.length < 2 ^ 16) × (r.metres < 2 ^ 16) × (r.seconds < 2 ^ 16)

-- the exact time as a float
abbrev pub rounded : Road → Float
rounded r = round binary64 false (numerator r) (denominator r)

module _ (r : Road) (R : SixteenBits r) where
  -- the two tests of floats are tests of whole numbers
  estimate_tests : estimate_of (leg_for r) ≡ estimate_by (leg_for r) (eqb r.length 0) (idle r)
  estimate_tests = ap₂ (estimate_by (leg_for r)) (whole-eq r.length 0 (omega (arith, R.0)) (omega arith)) (whole-eq r.metres 0 (omega (arith, R.1)) (omega arith))

  -- none where it is passed over, else the exact time, rounded once
  pub estimate_exact : estimate_of (leg_for r) ≡ cond (passed_over r) None (Some (rounded r))
  unfolding of_int
  estimate_exact = estimate_tests ∙ go (eq-zero-or-pos r.length)
    where
      moved : (b : Bool) → idle r ≡ b → cond b None (Some (quotient_of (leg_for r))) ≡ cond b None (Some (round binary64 false (numerator r) r.metres))
      moved true h = refl
      moved false h = ap Some (quotient r.length r.metres r.seconds R.0 R.1 R.2 (omega (arith, eqb-false r.metres 0 h)))

      go : (r.length ≡ 0) ⊎ (0 < r.length) → estimate_by (leg_for r) (eqb r.length 0) (idle r) ≡ cond (passed_over r) None (Some (rounded r))
      go (inl e) =
          let z = length_0 r e in
          ap (λ (a : Bool). estimate_by (leg_for r) a (idle r)) (eq-eqb r.length 0 e)
          ∙ sym (ap₂ (λ (p : Bool) (t : Float). cond p None (Some t)) z.0 (ap₂ (round binary64 false) z.1 z.2))
      go (inr l) =
          let z = longer r l in
          ap (λ (a : Bool). estimate_by (leg_for r) a (idle r)) (ne_eqb r.length 0 (omega arith))
          ∙ moved (idle r) refl
          ∙ sym (ap₂ (λ (p : Bool) (d : ℕ). cond p None (Some (round binary64 false (numerator r) d))) z.0 z.1)

  -- the exact time of such a road, where it takes part, is in the range of the laws of rounding
  pub in_range : passed_over r ≡ false → Small (numerator r) (denominator r)
  in_range h =
      let a : r.length ≤ 65535 = omega (arith, R.0) in
      let b : r.seconds ≤ 65535 = omega (arith, R.2) in
      let c : numerator r ≤ 65535 * 65535 = mul-le-mul a b in
      let d : denominator r < 2 ^ 16 = elim (eq-zero-or-pos r.length) [
        | inl e ↦ omega (arith, (length_0 r e).2)
        | inr l ↦ omega (arith, (longer r l).1, R.1)
      ] in
      (time_there r h, d, omega arith)

  -- a number of seconds as estimate: the road takes part, and the float is its exact time, rounded once
  pub seconds_exact : (t : Float) → estimate_of (leg_for r) ≡ Some t → (passed_over r ≡ false) × (t ≡ rounded r)
  seconds_exact t e = go (passed_over r) (sym estimate_exact ∙ e)
    where
      go : (b : Bool) → cond b None (Some (rounded r)) ≡ Some t → (b ≡ false) × (t ≡ rounded r)
      go true h = (cc, cc)
      go false h = (refl, cc)

-- Of two roads with numbers of 16 bits whose estimates are numbers of seconds, the order of the estimates is the order of the exact times: a
-- smaller fraction gives a smaller float, and equal fractions give equal floats.
module _ (q r : Road) (Q : SixteenBits q) (R : SixteenBits r) (t u : Float) (a : estimate_of (leg_for q) ≡ Some t) (b : estimate_of (leg_for r) ≡ Some u) where
  pub estimate_order : lt t u ≡ ltb (numerator q * denominator r) (numerator r * denominator q)
  estimate_order =
      let x = seconds_exact q Q t a in
      let y = seconds_exact r R u b in
      ap₂ lt x.1 y.1 ∙ order (numerator q) (denominator q) (numerator r) (denominator r) (in_range q Q x.0) (in_range r R y.0)

  pub estimate_equal : numerator q * denominator r ≡ numerator r * denominator q → t ≡ u
  estimate_equal e =
      let x = seconds_exact q Q t a in
      let y = seconds_exact r R u b in
      x.1 ∙ equal (numerator q) (denominator q) (numerator r) (denominator r) (in_range q Q x.0) (in_range r R y.0) e ∙ sym y.1
