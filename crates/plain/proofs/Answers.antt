-- What reading and writing answer, one law for each return of the code.
use mathlib.Core.Path.{◌≡◌, ap, ap₂, sym, ◌∙◌}
use mathlib.Core.Bool.{Bool, true, false, ◌||◌}
use mathlib.Core.List.{List, ◌++◌}
use Prim.Native.Nat.{ℕ, ◌+◌, ◌*◌, ◌≤◌, ◌<◌}
use native.Mathlib.Nat.{min-eq_left, mul-le-mul}
use native.Mathlib.Omega.{arith}
use borrow.Author.Tests.{ltb-false, lt-ltb, le-ltb}
use lib.Dec.{ltb}
use lib.ListN.{length, take, drop}
use Rattle.std.specs.Prelude.{Ok, Err}
use Rattle.refusals.specs.declared.Refusal.{Refusal}
use Rattle.refusals.specs.declared.Refusal.TheVariants.{ShortBuffer}
use Rattle.refusals.specs.Outcomes.{Outcome, refuse, and_then}
use Rattle.basics.specs.Lists.{tab, filled}
use Rattle.recording.specs.Packed.{trucks_of, rounds_of, counts_of, opening_at, openings_into, word_at, bytes_for, pack, packed}
use Rattle.recording.specs.Checks.{check_of, plain_check}
use Rattle.std.proofs.lemmas.List.{length-take}
use Rattle.basics.proofs.Laws.{or_left, or_right}
use Rattle.recording.specs.declared.Counts.{Counts}
use Rattle.recording.proofs.Accepted.{bytes_good}
use Rattle.plain.specs.Forms.{after_read, short_buffers, read_check, read_as, read_plain, after_write, write_check, write_as, write_plain}
use Rattle.plain.specs.Steps.{packed_byte}

-- ---- reading
pub read-refused : (s openings words : List ℕ) (f : Outcome) (r : Refusal) → f ≡ check_of s → f ≡ Err r → after_read (Err r) openings words ≡ read_plain s openings words
unfolding read_plain read_check
read-refused s openings words f r e h =
    ap (λ (o : Outcome). read_as (and_then o (refuse (short_buffers s (length openings) (length words)) ShortBuffer (Ok tt))) s openings words) (sym h ∙ e)

module _ (s openings words : List ℕ) (f : Outcome) (n R : ℕ) (checked : f ≡ check_of s) (kept : f ≡ Ok tt) (counted : n ≡ trucks_of s) (played : R ≡ rounds_of s) where
  pub read-most : n ≤ 32
  read-most = omega (arith, (bytes_good s (sym checked ∙ kept)).frame.most)

  read_by : (b : Bool) → (ltb (length openings) n || ltb (length words) (R * (3 + n))) ≡ b → read_as (refuse b ShortBuffer (Ok tt)) s openings words ≡ read_plain s openings words
  unfolding read_plain read_check short_buffers
  read_by b h =
      ap₂ (λ (o : Outcome) (x : Bool). read_as (and_then o (refuse x ShortBuffer (Ok tt))) s openings words) (sym kept ∙ checked)
      (sym h ∙ ap₂ (λ (a c : ℕ). ltb (length openings) a || ltb (length words) (c * (3 + a))) counted played)

  pub read_9 : (ltb (length openings) n || ltb (length words) (R * (3 + n))) ≡ true → after_read (Err ShortBuffer) openings words ≡ read_plain s openings words
  read_9 h = read_by true h

  module _ (room : (ltb (length openings) n || ltb (length words) (R * (3 + n))) ≡ false) where
    openings-room : n ≤ length openings
    openings-room = ltb-false (length openings) n (or_left (ltb (length openings) n) (ltb (length words) (R * (3 + n))) room)

    words-room : R * (3 + n) ≤ length words
    words-room = ltb-false (length words) (R * (3 + n)) (or_right (ltb (length openings) n) (ltb (length words) (R * (3 + n))) room)

    -- the part of the buffer that is lent for the words
    lent-count : length (take (R * (3 + n)) words) ≡ R * (3 + n)
    lent-count = simp length-take (omega (arith, words-room))

    pub lent-fits : length (take (R * (3 + n)) words) ≤ 16908030
    lent-fits =
        let frame = (bytes_good s (sym checked ∙ kept)).frame in
        let few : R ≤ 400 = omega (arith, frame.rounds) in
        let most : 3 + n ≤ 35 = omega (arith, read-most) in
        omega (arith, lent-count, mul-le-mul few most)

    pub read_0 : (front : Counts) (o w : List ℕ) → front ≡ counts_of s → o ≡ openings_into s openings → w ≡ tab (word_at s) (length (take (R * (3 + n)) words))
        → after_read (Ok front) o (w ++ drop (R * (3 + n)) words) ≡ read_plain s openings words
    unfolding filled
    read_0 front o w met p q =
        ap (λ (c : Counts). after_read (Ok c) o (w ++ drop (R * (3 + n)) words)) met
        ∙ ap₂ (λ (a b : List ℕ). after_read (Ok (counts_of s)) a b)
        (p ∙ ap (λ (k : ℕ). filled (opening_at s) k openings) (min-eq_left (omega (arith, openings-room))))
        (ap (λ (l : List ℕ). l ++ drop (R * (3 + n)) words) (q ∙ ap (tab (word_at s)) lent-count))
        ∙ ap (λ (k : ℕ). after_read (Ok (counts_of s)) (filled (opening_at s) (trucks_of s) openings) (filled (word_at s) k words)) (ap₂ (λ (a c : ℕ). c * (3 + a)) counted played)
        ∙ read_by false room

-- ---- writing
module _ (n R : ℕ) (openings words buf : List ℕ) (f : Outcome) (checked : f ≡ plain_check n R openings words) where
  pub write_refused : (r : Refusal) → f ≡ Err r → after_write (Err r) buf ≡ write_plain n R openings words buf
  unfolding write_plain write_check
  write_refused r h =
      ap (λ (o : Outcome). write_as (and_then o (refuse (ltb (length buf) (bytes_for n R)) ShortBuffer (Ok tt))) n R openings words buf) (sym h ∙ checked)

  module _ (m : ℕ) (kept : f ≡ Ok tt) (sized : m ≡ bytes_for n R) where
    write_by : (b : Bool) → ltb (length buf) m ≡ b → write_as (refuse b ShortBuffer (Ok tt)) n R openings words buf ≡ write_plain n R openings words buf
    unfolding write_plain write_check
    write_by b h =
        ap₂ (λ (o : Outcome) (x : Bool). write_as (and_then o (refuse x ShortBuffer (Ok tt))) n R openings words buf) (sym kept ∙ checked)
        (sym h ∙ ap (ltb (length buf)) sized)

    pub write_9 : length buf < m → after_write (Err ShortBuffer) buf ≡ write_plain n R openings words buf
    write_9 h = write_by true (lt-ltb (length buf) m h)

    pub plain-kept : plain_check n R openings words ≡ Ok tt
    plain-kept = sym checked ∙ kept

    module _ (room : m ≤ length buf) where
      pub bytes-room : bytes_for n R ≤ length buf
      bytes-room = omega arith

      pub write_0 : (l : List ℕ) → l ≡ filled (packed_byte n R openings words) (bytes_for n R) buf → after_write (Ok m) l ≡ write_plain n R openings words buf
      unfolding filled packed pack
      write_0 l e = ap₂ (λ (k : ℕ) (x : List ℕ). after_write (Ok k) x) sized e ∙ write_by false (le-ltb (length buf) m room)
