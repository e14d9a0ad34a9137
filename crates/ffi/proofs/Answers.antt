-- What an exported function leaves, one law for each return of the code.
use mathlib.Core.Path.{◌≡◌, refl, ◌∙◌}
use mathlib.Core.List.{List, [], ◌∷◌}
use Prim.Native.Nat.{ℕ, min, ◌≤◌, ◌<◌}
use native.Mathlib.Omega.{arith}
use lib.ListN.{length, drop, set}
use borrow.Author.Tests.{lt-ltb, le-ltb}
use Rattle.std.specs.Prelude.{Result, Ok, Err, MatchResult}
use Rattle.refusals.specs.Numbers.{number_of}
use Rattle.refusals.specs.declared.Refusal.{Refusal}
use Rattle.refusals.specs.declared.Refusal.TheVariants.{ShortBuffer}
use Rattle.protocol.specs.declared.Grades.{Grades}
use Rattle.protocol.specs.Fleets.{Protocol, graded_in, grade_answer}
use Rattle.roads.specs.Opening.{opening_of}
use Rattle.plain.specs.Forms.{after_read, read_plain, after_write, write_plain}
use Rattle.listing.specs.Listed.{left, listed}
use Rattle.ffi.specs.Calls.{CallResult, call_result, list_call, grade_result, grade_call_in, opening_call, read_call, write_call}
use Rattle.ffi.proofs.Narrow.{narrow_write}
use Rattle.recording.specs.declared.Counts.{Counts}

-- ---- the value of an answer in its place, and the number, of which P holds by one law for each kind of answer

pub put_by : (o : Result ℕ Refusal) (before k v : ℕ) (P : ℕ → ℕ → Type 0)
    → ((x : ℕ) → o ≡ Ok x → P 0 x) → ((r : Refusal) (q : ℕ) → o ≡ Err r → q ≡ number_of r → P q before)
    → MatchResult o (λ x. (k ≡ 0) × (v ≡ x)) (λ r. (k ≡ number_of r) × (v ≡ before)) → P k v
put_by (Ok x) before k v P kept refused m = rw (m.0, m.1) (kept x refl)
put_by (Err r) before k v P kept refused m = rw m.1 (refused r k refl m.0)

-- ---- the opening crusher

module _ (lengths metres seconds : List ℕ) (crusher : ℕ) (o : Result ℕ Refusal) (found : o ≡ opening_of lengths metres seconds) where
  pub opening_call_0 : (k : ℕ) → o ≡ Ok k → call_result 0 [] (k ∷ []) ≡ opening_call lengths metres seconds crusher
  unfolding opening_call
  opening_call_0 k h = rw (← found, h)

  pub opening_call_refused : (r : Refusal) (k : ℕ) → o ≡ Err r → k ≡ number_of r → call_result k [] (crusher ∷ []) ≡ opening_call lengths metres seconds crusher
  unfolding opening_call
  opening_call_refused r k h e = rw (e, ← found, h)

-- ---- reading

module _ (bytes openings words : List ℕ) (trucks rounds : ℕ) (o : Result Counts Refusal) (left₁ left₂ : List ℕ) (done : after_read o left₁ left₂ ≡ read_plain bytes openings words) where
  pub read_call_0 : (c : Counts) → o ≡ Ok c → call_result 0 (left₁ ∷ left₂ ∷ []) (c.trucks ∷ c.rounds ∷ []) ≡ read_call bytes openings words trucks rounds
  unfolding read_call
  read_call_0 c h = rw (← done, h)

  pub read_call_refused : (r : Refusal) (k : ℕ) → o ≡ Err r → k ≡ number_of r → call_result k (left₁ ∷ left₂ ∷ []) (trucks ∷ rounds ∷ []) ≡ read_call bytes openings words trucks rounds
  unfolding read_call
  read_call_refused r k h e = rw (e, ← done, h)

-- ---- writing

module _ (n R m S : ℕ) (openings words bytes : List ℕ) (written : ℕ) (few : m ≡ min n 255) (short : S ≡ min R 65535) (o : Result ℕ Refusal) (left₁ : List ℕ)
    (done : after_write o left₁ ≡ write_plain m S openings words bytes) where
  written_as : after_write o left₁ ≡ write_plain n R openings words bytes
  written_as = done ∙ narrow_write openings words bytes n R m S few short

  pub write_call_0 : (k : ℕ) → o ≡ Ok k → call_result 0 (left₁ ∷ []) (k ∷ []) ≡ write_call n R openings words bytes written
  unfolding write_call
  write_call_0 k h = rw (← written_as, h)

  pub write_call_refused : (r : Refusal) (k : ℕ) → o ≡ Err r → k ≡ number_of r → call_result k (left₁ ∷ []) (written ∷ []) ≡ write_call n R openings words bytes written
  unfolding write_call
  write_call_refused r k h e = rw (e, ← written_as, h)

-- ---- a recording's listing

module _ (bytes text : List ℕ) (written : ℕ) (o : Result ℕ Refusal) (left₁ : List ℕ) (done : left o left₁ ≡ listed bytes text) where
  pub list_call_0 : (k : ℕ) → o ≡ Ok k → call_result 0 (left₁ ∷ []) (k ∷ []) ≡ list_call bytes text written
  unfolding list_call
  list_call_0 k h = rw (← done, h)

  pub list_call_refused : (r : Refusal) (k : ℕ) → o ≡ Err r → k ≡ number_of r → call_result k (left₁ ∷ []) (written ∷ []) ≡ list_call bytes text written
  unfolding list_call
  list_call_refused r k h e = rw (e, ← done, h)

-- ---- a recording's grading

four-put : (d : List ℕ) (a b c e : ℕ) → 4 ≤ length d → set (set (set (set d 0 a) 1 b) 2 c) 3 e ≡ a ∷ b ∷ c ∷ e ∷ drop 4 d
four-put [] a b c e h = absurd (omega arith)
four-put (x ∷ []) a b c e h = absurd (omega arith)
four-put (x ∷ y ∷ []) a b c e h = absurd (omega arith)
four-put (x ∷ y ∷ z ∷ []) a b c e h = absurd (omega arith)
four-put (x ∷ y ∷ z ∷ w ∷ d) a b c e h = refl

module _ (grades : List ℕ) (g : Result Grades Refusal) where
  pub grades-refused : (r : Refusal) (k : ℕ) → g ≡ Err r → k ≡ number_of r → call_result k (grades ∷ []) [] ≡ grade_result (grade_answer g) grades
  grades-refused r k h e = rw (e, h, le-ltb (length grades) 0 (omega arith))

  pub grades_9 : (x : Grades) (k : ℕ) → g ≡ Ok x → length grades < 4 → k ≡ number_of ShortBuffer → call_result k (grades ∷ []) [] ≡ grade_result (grade_answer g) grades
  grades_9 x k h l e = rw (e, h, lt-ltb (length grades) 4 l)

  pub grades_0 : (x : Grades) → g ≡ Ok x → 4 ≤ length grades
      → call_result 0 (set (set (set (set grades 0 x.complete) 1 x.majority) 2 x.zero) 3 x.accurate ∷ []) [] ≡ grade_result (grade_answer g) grades
  grades_0 x h l = rw (four-put grades x.complete x.majority x.zero x.accurate l, h, le-ltb (length grades) 4 l)

-- by the protocol in which the recording is graded
pub grade_put : (p : Protocol) (bytes grades : List ℕ) (g : Result Grades Refusal) (x : CallResult) → g ≡ graded_in p bytes → x ≡ grade_result (grade_answer g) grades → x ≡ grade_call_in p bytes grades
unfolding grade_call_in
grade_put p bytes grades g x e h = rw (← e) h
