-- A count that does not fit the library's type is handed on as the largest number of that type, and is refused as it would be itself.
use mathlib.Core.Path.{◌≡◌, refl, ap, sym, ◌∙◌}
use mathlib.Core.Bool.{Bool, true, false}
use mathlib.Core.List.{List}
use Prim.Native.Nat.{ℕ, min, ◌<◌}
use native.Mathlib.Nat.{min-eq_left, min-eq_right}
use native.Mathlib.Decide.{dec_lt}
use native.Mathlib.Omega.{arith}
use borrow.Author.Tests.{lt-ltb, ne_eqb}
use Rattle.std.specs.Prelude.{Err}
use Rattle.refusals.specs.declared.Refusal.TheVariants.{TruckCount, RoundCount}
use Rattle.recording.specs.Checks.{bad_trucks, bad_rounds, plain_check}
use Rattle.plain.specs.Forms.{after_write, write_check, write_plain}

pub many_trucks : (n : ℕ) → 32 < n → bad_trucks n ≡ true
unfolding bad_trucks
many_trucks n h = rw (ne_eqb n 0 (λ e. omega arith), lt-ltb 32 n h)

many_rounds : (R : ℕ) → 400 < R → bad_rounds R ≡ true
unfolding bad_rounds
many_rounds R h = lt-ltb 400 R h

-- two counts that are both refused, where one of them is handed on for the other, or one and the same count
pub narrowed {ℓ} : {A : Type ℓ} (f : ℕ → A) (bad : ℕ → Bool) (x : A) (n m most : ℕ)
    → m ≡ min n most → bad most ≡ true → (most < n → bad n ≡ true) → ((k : ℕ) → bad k ≡ true → f k ≡ x) → f m ≡ f n
narrowed f bad x n m most e top above same = go (dec_lt most n)
  where
    go : Dec (most < n) → f m ≡ f n
    go (yes l) = ap f (e ∙ min-eq_right (omega arith)) ∙ same most top ∙ sym (same n (above l))
    go (no l) = ap f (e ∙ min-eq_left (omega arith))

-- what two counts make, where 2 asks for the one and 3 for the other before anything else
module _ {ℓ} {A : Type ℓ} (f : ℕ → ℕ → A) (x y : A) (two : (n R : ℕ) → bad_trucks n ≡ true → f n R ≡ x) (three : (n R : ℕ) → bad_trucks n ≡ false → bad_rounds R ≡ true → f n R ≡ y) where
  narrow_rounds : (n R S : ℕ) → S ≡ min R 65535 → (b : Bool) → bad_trucks n ≡ b → f n S ≡ f n R
  narrow_rounds n R S e true h = two n S h ∙ sym (two n R h)
  narrow_rounds n R S e false h =
      narrowed (f n) bad_rounds y R S 65535 e (many_rounds 65535 (omega arith)) (λ l. many_rounds R (omega arith)) (λ k g. three n k h g)

  narrow_counts : (n R m S : ℕ) → m ≡ min n 255 → S ≡ min R 65535 → f m S ≡ f n R
  narrow_counts n R m S e h =
      narrow_rounds m R S h (bad_trucks m) refl
      ∙ narrowed (λ k. f k R) bad_trucks x n m 255 e (many_trucks 255 (omega arith)) (λ l. many_trucks n (omega arith)) (λ k g. two k R g)

pub narrow_check : (openings words : List ℕ) (n R m S : ℕ) → m ≡ min n 255 → S ≡ min R 65535 → plain_check m S openings words ≡ plain_check n R openings words
unfolding plain_check
narrow_check openings words =
    narrow_counts (λ n R. plain_check n R openings words) (Err TruckCount) (Err RoundCount) (λ n R h. rw h) (λ n R g h. rw (g, h))

pub narrow_write : (openings words buffer : List ℕ) (n R m S : ℕ) → m ≡ min n 255 → S ≡ min R 65535
    → write_plain m S openings words buffer ≡ write_plain n R openings words buffer
unfolding write_plain write_check plain_check
narrow_write openings words buffer =
    narrow_counts (λ n R. write_plain n R openings words buffer) (after_write (Err TruckCount) buffer) (after_write (Err RoundCount) buffer)
    (λ n R h. rw h) (λ n R g h. rw (g, h))
