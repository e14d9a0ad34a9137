-- The outcomes of the checks of plain form, one law for each return of the code.
use mathlib.Core.Path.{◌≡◌, refl, ap, ap₂, sym, ◌∙◌}
use mathlib.Core.Bool.{Bool, true, false, not}
use mathlib.Core.List.{List}
use Prim.Native.Nat.{ℕ, ◌+◌, ◌*◌, ◌/◌, ◌≤◌, ◌<◌}
use native.Mathlib.Nat.{mul-div_left}
use native.Mathlib.Omega.{arith}
use borrow.Author.Tests.{lt-ltb, le-ltb, eqb-true, not-false}
use lib.Dec.{eqb}
use lib.ListN.{length, get_or}
use Rattle.std.specs.Prelude.{Err}
use Rattle.refusals.specs.declared.Refusal.TheVariants.{TruckCount, RoundCount, Record, PlainRound}
use Rattle.refusals.specs.Outcomes.{Outcome, refuse}
use Rattle.basics.specs.Lists.{some_below}
use Rattle.basics.proofs.Laws.{or_left}
use Rattle.recording.specs.Checks.{bad_trucks, bad_rounds, bad_openings, bad_words, own_loss_check, high_bit, rounds_check, plain_check}

-- ---- 8 and 6
rounds_by : (n k R : ℕ) (words : List ℕ) (a : Bool) (o : Outcome) → bad_words n R words ≡ a → own_loss_check (λ w. get_or words w 0) n k R ≡ o
    → refuse a PlainRound o ≡ rounds_check n k R words
unfolding rounds_check
rounds_by n k R words a o p q = ap₂ (λ (b : Bool) (x : Outcome). refuse b PlainRound x) (sym p) (sym q)

module _ (n k R : ℕ) (words : List ℕ) (a : Bool) (tested : a ≡ bad_words n R words) where
  pub rounds_8 : a ≡ true → Err PlainRound ≡ rounds_check n k R words
  rounds_8 h = rounds_by n k R words true (own_loss_check (λ w. get_or words w 0) n k R) (sym tested ∙ h) refl

  words-counted : a ≡ false → length words ≡ R * (3 + n)
  unfolding bad_words
  words-counted h = eqb-true (length words) (R * (3 + n)) (not-false (eqb (length words) (R * (3 + n))) (or_left (not (eqb (length words) (R * (3 + n)))) (some_below (λ w. high_bit n (get_or words w 0)) (length words)) (sym tested ∙ h)))

  pub rounds-counted : a ≡ false → length words / (3 + n) ≡ R
  rounds-counted h = ap (λ (l : ℕ). l / (3 + n)) (words-counted h) ∙ mul-div_left R (let o : 0 < 3 + n = omega arith in o)

  pub rounds_rest : (o : Outcome) → a ≡ false → o ≡ own_loss_check (λ w. get_or words w 0) n k (length words / (3 + n)) → o ≡ rounds_check n k R words
  rounds_rest o h e =
      rounds_by n k R words false o (sym tested ∙ h) (ap (own_loss_check (λ w. get_or words w 0) n k) (sym (rounds-counted h)) ∙ sym e)

-- ---- 2, 3, 7, and then these
plain_by : (n R : ℕ) (openings words : List ℕ) (a b c : Bool) (o : Outcome) → bad_trucks n ≡ a → bad_rounds R ≡ b → bad_openings n openings ≡ c → rounds_check n 1 R words ≡ o
    → refuse a TruckCount (refuse b RoundCount (refuse c Record o)) ≡ plain_check n R openings words
unfolding plain_check
plain_by n R openings words a b c o p q r s = rw (← p, ← q, ← r, ← s)

module _ (n R : ℕ) (openings words : List ℕ) (a : Bool) (trucks : a ≡ bad_trucks n) where
  pub plain_2 : a ≡ true → Err TruckCount ≡ plain_check n R openings words
  plain_2 h = plain_by n R openings words true (bad_rounds R) (bad_openings n openings) (rounds_check n 1 R words) (sym trucks ∙ h) refl refl refl

  module _ (good : a ≡ false) where
    pub plain_3 : 400 < R → Err RoundCount ≡ plain_check n R openings words
    unfolding bad_rounds
    plain_3 h = plain_by n R openings words false true (bad_openings n openings) (rounds_check n 1 R words) (sym trucks ∙ good) (lt-ltb 400 R h) refl refl

    module _ (c : Bool) (few : R ≤ 400) (crushers : c ≡ bad_openings n openings) where
      pub plain_7 : c ≡ true → Err Record ≡ plain_check n R openings words
      unfolding bad_rounds
      plain_7 h = plain_by n R openings words false false true (rounds_check n 1 R words) (sym trucks ∙ good) (le-ltb 400 R few) (sym crushers ∙ h) refl

      pub plain-rest : (o : Outcome) → c ≡ false → o ≡ rounds_check n 1 R words → o ≡ plain_check n R openings words
      unfolding bad_rounds
      plain-rest o h e = plain_by n R openings words false false false o (sym trucks ∙ good) (le-ltb 400 R few) (sym crushers ∙ h) (sym e)
