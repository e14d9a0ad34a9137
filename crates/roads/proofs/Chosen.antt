-- The road that the code chooses by the estimates is the road of least exact time.
use mathlib.Core.Path.{◌≡◌, refl, sym, ap, ◌∙◌, subst}
use mathlib.Core.Bool.{Bool, true, false, cond, true≢false}
use Prim.Native.Nat.{ℕ, zero, suc, ◌*◌, ◌<◌}
use native.Mathlib.Omega.{arith}
use borrow.Author.Tests.{ltb-true, ltb-false}
use borrow.Author.Count.{below_more}
use lib.Dec.{ltb}
use lib.Ieee.{Float, binary64, round, lt}
use Rattle.rounding.proofs.Order.{Small, order}
use Rattle.std.specs.Prelude.{Option, Some, None}
use Rattle.roads.specs.declared.Fastest.{Fastest}
use Rattle.roads.specs.Opening.{LeastBelow}
use Rattle.roads.specs.Choice.{road_of, better_of, chosen_below}
use Rattle.roads.proofs.Least.{stays, begins, takes-over}

-- what a choice among the roads below n is to be
abbrev pub Chosen : (ℕ → Bool) → (ℕ → ℕ) → (ℕ → ℕ) → ℕ → Option Fastest → Type 0
Chosen passed num den n None = (j : ℕ) → j < n → passed j ≡ true
Chosen passed num den n (Some b) = (b.seconds ≡ round binary64 false (num b.road) (den b.road)) × LeastBelow passed num den n b.road

module _ (passed : ℕ → Bool) (num den : ℕ → ℕ) (small : (k : ℕ) → passed k ≡ false → Small (num k) (den k)) where
  -- one comparison of two estimates is one of the fractions
  compared : (n : ℕ) (f : Fastest) (b : Bool) → passed n ≡ false → Chosen passed num den n (Some f) → lt (round binary64 false (num n) (den n)) f.seconds ≡ b
      → Chosen passed num den (suc n) (cond b (Some (road_of n (round binary64 false (num n) (den n)))) (Some f))
  compared n f b p h e = go b (sym (order (num n) (den n) (num f.road) (den f.road) (small n p) (small f.road h.1.takes_part)) ∙ ap (lt (round binary64 false (num n) (den n))) (sym h.0) ∙ e)
    where
      go : (b : Bool) → ltb (num n * den f.road) (num f.road * den n) ≡ b → Chosen passed num den (suc n) (cond b (Some (road_of n (round binary64 false (num n) (den n)))) (Some f))
      go true l = (refl, takes-over passed num den (λ i q. (small i q).0) n f.road h.1 p (ltb-true (num n * den f.road) (num f.road * den n) l))
      go false l = (h.0, stays passed num den n f.road h.1 (λ q. ltb-false (num n * den f.road) (num f.road * den n) l))

  step : (n : ℕ) (b : Bool) (best : Option Fastest) → passed n ≡ b → Chosen passed num den n best
      → Chosen passed num den (suc n) (better_of best n (cond b None (Some (round binary64 false (num n) (den n)))))
  unfolding better_of
  step n true None p h = λ j l. below_more (λ i. passed i ≡ true) n h p j (omega arith)
  step n true (Some b) p h = (h.0, stays passed num den n b.road h.1 (λ q. absurd (true≢false (sym p ∙ q))))
  step n false None p h = (refl, begins passed num den n h p)
  step n false (Some b) p h = compared n b (lt (round binary64 false (num n) (den n)) b.seconds) p h refl

  pub chosen-least : (estimate : ℕ → Option Float) → ((k : ℕ) → estimate k ≡ cond (passed k) None (Some (round binary64 false (num k) (den k))))
      → (n : ℕ) → Chosen passed num den n (chosen_below estimate n)
  unfolding chosen_below
  chosen-least estimate exact zero = λ j l. absurd (omega arith)
  chosen-least estimate exact (suc n) =
      subst (λ (e : Option Float). Chosen passed num den (suc n) (better_of (chosen_below estimate n) n e)) (sym (exact n))
      (step n (passed n) (chosen_below estimate n) refl (chosen-least estimate exact n))
