-- Laws of one road: whether it takes part, and its exact time.
use mathlib.Core.Path.{◌≡◌, sym, ap, ◌∙◌}
use mathlib.Core.Logic.{◌↔◌, inl, inr}
use mathlib.Core.Bool.{Bool, true, false, cond, ◌&&◌, and-true, and-false}
use Prim.Native.Nat.{ℕ, ◌*◌, ◌<◌}
use native.Mathlib.Nat.{zero-mul, mul-pos, eq-zero-or-pos}
use native.Mathlib.Omega.{arith}
use borrow.Author.Tests.{lt-ltb, le-ltb, ltb-true, eq-eqb, ne_eqb, eqb-true, eqb-false}
use lib.Dec.{ltb, eqb}
use Rattle.basics.proofs.Laws.{and_left, and_right, and_both}
use Rattle.roads.specs.Opening.{Road, idle, passed_over, numerator, denominator}

module _ (r : Road) where
  -- a road of length 0 takes part, idle or not, and takes 0 / 1 seconds
  pub length_0 : r.length ≡ 0 → (passed_over r ≡ false) × (numerator r ≡ 0) × (denominator r ≡ 1)
  length_0 e = (
    ap (λ (b : Bool). idle r && b) (le-ltb 0 r.length (omega arith)) ∙ and-false (idle r),
    ap (λ (l : ℕ). l * r.seconds) e ∙ zero-mul r.seconds,
    ap (λ (b : Bool). cond b 1 r.metres) (eq-eqb r.length 0 e),
  )

  -- a longer one takes part where it is not idle, and takes its length times its seconds, divided by its metres
  pub longer : 0 < r.length → (passed_over r ≡ idle r) × (denominator r ≡ r.metres)
  longer l = (
    ap (λ (b : Bool). idle r && b) (lt-ltb 0 r.length l) ∙ and-true (idle r),
    ap (λ (b : Bool). cond b 1 r.metres) (ne_eqb r.length 0 (omega arith)),
  )

  -- passed over: 0 metres, and longer than 0
  pub passed_over_lem : (passed_over r ≡ true) ↔ ((r.metres ≡ 0) × (0 < r.length))
  passed_over_lem = (
    λ h. (eqb-true r.metres 0 (and_left (idle r) (ltb 0 r.length) h), ltb-true 0 r.length (and_right (idle r) (ltb 0 r.length) h)),
    λ h. and_both (idle r) (ltb 0 r.length) (eq-eqb r.metres 0 h.0) (lt-ltb 0 r.length h.1),
  )

  -- the time of a road that takes part is a fraction
  pub time_there : passed_over r ≡ false → 0 < denominator r
  time_there h = elim (eq-zero-or-pos r.length) [
    | inl e ↦ omega (arith, (length_0 e).2)
    | inr l ↦ omega (arith, eqb-false r.metres 0 (sym (longer l).0 ∙ h), (longer l).1)
  ]

  -- that of a longer road that 12 does not refuse is above 0
  pub time_above_0 : 0 < r.length → passed_over r ≡ false → (ltb 0 r.metres && eqb r.seconds 0) ≡ false → 0 < numerator r
  time_above_0 l h e =
      let m : 0 < r.metres = omega (arith, eqb-false r.metres 0 (sym (longer l).0 ∙ h)) in
      let s : 0 < r.seconds = omega (arith, eqb-false r.seconds 0 (rw (lt-ltb 0 r.metres m) at e)) in
      mul-pos l s

  -- that of a road that is not idle is length times seconds, divided by metres, at length 0 too: by cross products
  pub time_fraction : numerator r * r.metres ≡ r.length * r.seconds * denominator r
  time_fraction = elim (eq-zero-or-pos r.length) [
    | inl e ↦ simp (e, zero-mul)
    | inr l ↦ ap (λ (d : ℕ). numerator r * d) (sym (longer l).1)
  ]
