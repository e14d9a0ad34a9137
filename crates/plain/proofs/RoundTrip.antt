-- Reading and writing undo each other, with their buffers: both stated of the definitions that the contracts of `read` and `write` cite.
use mathlib.Core.Path.{◌≡◌, refl, ap, ap₂, sym, ◌∙◌}
use mathlib.Core.Bool.{Bool, false, ◌||◌}
use mathlib.Core.List.{List, [], ◌∷◌, ◌++◌}
use Prim.Native.Nat.{ℕ, ◌+◌, ◌*◌, ◌≤◌, ◌<◌}
use native.Mathlib.Omega.{arith}
use borrow.Author.Tests.{le-ltb}
use lib.Dec.{ltb}
use lib.ListN.{length, get_or, take, drop}
use lib.Seq.{take_at}
use Rattle.std.specs.Prelude.{Result, Ok, Err}
use Rattle.refusals.specs.declared.Refusal.{Refusal}
use Rattle.refusals.specs.declared.Refusal.TheVariants.{ShortBuffer}
use Rattle.refusals.specs.Numbers.{numbered}
use Rattle.refusals.specs.Outcomes.{Outcome, refuse}
use Rattle.refusals.proofs.Outcomes.{refuse-on, then-first, then-both}
use Rattle.basics.specs.Lists.{filled}
use Rattle.basics.proofs.Laws.{length-tab}
use Rattle.recording.specs.Packed.{counts_of, trucks_of, rounds_of, opening_at, openings_of, word_at, words_of, bytes_for, pack_bit, packed}
use Rattle.recording.specs.declared.Counts.{Counts}
use Rattle.recording.specs.Checks.{check_of, plain_check}
use Rattle.recording.proofs.Accepted.{plain-good, bytes_good}
use Rattle.recording.proofs.Packing.{length-pack}
use Rattle.recording.proofs.RoundTrip.{read_back, write_back}
use Rattle.plain.specs.Forms.{after_read, read_answer, short_buffers, read_check, read_as, read_plain, after_write, write_answer, write_check, write_as, write_plain}

-- ---- what an answer that is no refusal says
read_case : (o : Outcome) (s openings words : List ℕ) (n R : ℕ) → (read_as o s openings words).answer ≡ Ok (record { trucks = n; rounds = R }) → (o ≡ Ok tt) × (trucks_of s ≡ n) × (rounds_of s ≡ R)
read_case (Ok _) s openings words n R h = let e = ap (λ (a : Result Counts Refusal). (read_answer a).1) h in (refl, cc, cc)
read_case (Err r) s openings words n R h = let z : ◌≡◌ {A = ℕ} 0 1 = cc in absurd (omega arith)

write_case : (o : Outcome) (n R : ℕ) (openings words buf : List ℕ) (m : ℕ) → (write_as o n R openings words buf).answer ≡ Ok m → (o ≡ Ok tt) × (bytes_for n R ≡ m)
write_case (Ok _) n R openings words buf m h = (refl, cc)
write_case (Err r) n R openings words buf m h = let z : ◌≡◌ {A = ℕ} 0 1 = cc in absurd (omega arith)

-- ---- accepted, with room
module _ (s openings words : List ℕ) where
  pub read_whole : check_of s ≡ Ok tt → trucks_of s ≤ length openings → rounds_of s * (3 + trucks_of s) ≤ length words
      → read_plain s openings words
      ≡ after_read (Ok (counts_of s)) (openings_of s ++ drop (trucks_of s) openings) (words_of s ++ drop (rounds_of s * (3 + trucks_of s)) words)
  unfolding read_plain read_check short_buffers openings_of words_of filled
  read_whole h a b =
      let short : short_buffers s (length openings) (length words) ≡ false
      = ap₂ (λ (x y : Bool). x || y) (le-ltb (length openings) (trucks_of s) a) (le-ltb (length words) (rounds_of s * (3 + trucks_of s)) b) in
      ap (λ (o : Outcome). read_as o s openings words)
      (then-both (check_of s) (refuse (short_buffers s (length openings) (length words)) ShortBuffer (Ok tt)) h
      (refuse-on (short_buffers s (length openings) (length words)) ShortBuffer (Ok tt) short refl))

module _ (n R : ℕ) (openings words buf : List ℕ) where
  pub write_whole : plain_check n R openings words ≡ Ok tt → bytes_for n R ≤ length buf
      → write_plain n R openings words buf ≡ after_write (Ok (bytes_for n R)) (packed n R openings words ++ drop (bytes_for n R) buf)
  unfolding write_plain write_check
  write_whole h a =
      ap (λ (o : Outcome). write_as o n R openings words buf)
      (then-both (plain_check n R openings words) (refuse (ltb (length buf) (bytes_for n R)) ShortBuffer (Ok tt)) h
      (refuse-on (ltb (length buf) (bytes_for n R)) ShortBuffer (Ok tt) (le-ltb (length buf) (bytes_for n R) a) refl))

  length-packed : length (packed n R openings words) ≡ bytes_for n R
  unfolding packed
  length-packed = length-pack (pack_bit n R openings words) (bytes_for n R)

  -- the bytes written read as what was written
  pub written_reads : (m : ℕ) → (write_plain n R openings words buf).answer ≡ Ok m
      → (o w : List ℕ) → length openings ≤ length o → length words ≤ length w
      → read_plain (take m (write_plain n R openings words buf).buffer) o w ≡ after_read (Ok (record { trucks = n; rounds = R })) (openings ++ drop (length openings) o) (words ++ drop (length words) w)
  unfolding write_plain write_check
  written_reads m h o w a b =
      let c : (write_check n R openings words (length buf) ≡ Ok tt) × (bytes_for n R ≡ m) = write_case (write_check n R openings words (length buf)) n R openings words buf m h in
      let p : plain_check n R openings words ≡ Ok tt
      = then-first (plain_check n R openings words) (refuse (ltb (length buf) (bytes_for n R)) ShortBuffer (Ok tt)) c.0 in
      let back : (check_of (packed n R openings words) ≡ Ok tt)
      × (trucks_of (packed n R openings words) ≡ n)
      × (rounds_of (packed n R openings words) ≡ R)
      × (openings_of (packed n R openings words) ≡ openings)
      × (words_of (packed n R openings words) ≡ words)
      = read_back n R openings words p in
      let g = plain-good n R openings words p in
      let s : List ℕ = packed n R openings words in
      let e : take m (write_plain n R openings words buf).buffer ≡ s
      = ap (λ (x : Outcome). take m (write_as x n R openings words buf).buffer) c.0
      ∙ take_at s (drop (bytes_for n R) buf) m (length-packed ∙ c.1) in
      let i : trucks_of s ≡ length openings = back.1 ∙ sym g.openings-good.count in
      let j : rounds_of s * (3 + trucks_of s) ≡ length words
      = ap₂ (λ (x y : ℕ). x * (3 + y)) back.2 back.1 ∙ sym g.rounds_good.count in
      ap (λ (x : List ℕ). read_plain x o w) e
      ∙ read_whole s o w back.0 (omega arith) (omega arith)
      ∙ ap₂ (λ (x y : List ℕ). after_read (Ok (counts_of s)) x y)
      (ap₂ (λ (x : List ℕ) (k : ℕ). x ++ drop k o) back.3 i)
      (ap₂ (λ (x : List ℕ) (k : ℕ). x ++ drop k w) back.4 j)
      ∙ ap₂ (λ (x y : ℕ). after_read (Ok (record { trucks = x; rounds = y })) (openings ++ drop (length openings) o) (words ++ drop (length words) w)) back.1 back.2

-- what was read is written as the bytes read
pub read-writes : (s openings words buf : List ℕ) (n R : ℕ) → ((q : ℕ) → q < length s → get_or s q 0 < 256)
    → (read_plain s openings words).answer ≡ Ok (record { trucks = n; rounds = R }) → length s ≤ length buf
    → write_plain n R (take n (read_plain s openings words).openings) (take (R * (3 + n)) (read_plain s openings words).words) buf
    ≡ after_write (Ok (length s)) (s ++ drop (length s) buf)
unfolding read_plain read_check openings_of words_of filled
read-writes s openings words buf n R bytes h a =
    let o : Outcome = read_check s (length openings) (length words) in
    let c : (o ≡ Ok tt) × (trucks_of s ≡ n) × (rounds_of s ≡ R) = read_case o s openings words n R h in
    let k : check_of s ≡ Ok tt
    = then-first (check_of s) (refuse (short_buffers s (length openings) (length words)) ShortBuffer (Ok tt)) c.0 in
    let back : (plain_check (trucks_of s) (rounds_of s) (openings_of s) (words_of s) ≡ Ok tt) × (packed (trucks_of s) (rounds_of s) (openings_of s) (words_of s) ≡ s)
    = write_back s bytes k in
    let size : length s ≡ bytes_for (trucks_of s) (rounds_of s) = (bytes_good s k).frame.size in
    let p : take n (read_plain s openings words).openings ≡ openings_of s
    = ap (λ (x : Outcome). take n (read_as x s openings words).openings) c.0
    ∙ take_at (openings_of s) (drop (trucks_of s) openings) n (length-tab (opening_at s) (trucks_of s) ∙ c.1) in
    let q : take (R * (3 + n)) (read_plain s openings words).words ≡ words_of s
    = ap (λ (x : Outcome). take (R * (3 + n)) (read_as x s openings words).words) c.0
    ∙ take_at (words_of s) (drop (rounds_of s * (3 + trucks_of s)) words) (R * (3 + n))
    (length-tab (word_at s) (rounds_of s * (3 + trucks_of s)) ∙ ap₂ (λ (x y : ℕ). x * (3 + y)) c.2 c.1) in
    ap₂ (λ (x y : List ℕ). write_plain n R x y buf) p q
    ∙ ap₂ (λ (x y : ℕ). write_plain x y (openings_of s) (words_of s) buf) (sym c.1) (sym c.2)
    ∙ write_whole (trucks_of s) (rounds_of s) (openings_of s) (words_of s) buf back.0 (omega arith)
    ∙ ap₂ (λ (x : ℕ) (y : List ℕ). after_write (Ok x) (y ++ drop x buf)) (sym size) back.1

-- ---- answers by document 01's numbers and values: those of the checks, in its order
read_as_answer : (o : Outcome) (s openings words : List ℕ) → read_answer (read_as o s openings words).answer ≡ numbered o (trucks_of s ∷ rounds_of s ∷ [])
read_as_answer (Ok _) s openings words = refl
read_as_answer (Err r) s openings words = refl

pub read_answer_lem : (s openings words : List ℕ)
    → read_answer (read_plain s openings words).answer ≡ numbered (read_check s (length openings) (length words)) (trucks_of s ∷ rounds_of s ∷ [])
unfolding read_plain
read_answer_lem s openings words = read_as_answer (read_check s (length openings) (length words)) s openings words

write_as_answer : (o : Outcome) (n R : ℕ) (openings words buf : List ℕ) → write_answer (write_as o n R openings words buf).answer ≡ numbered o (bytes_for n R ∷ [])
write_as_answer (Ok _) n R openings words buf = refl
write_as_answer (Err r) n R openings words buf = refl

pub write_answer_lem : (n R : ℕ) (openings words buf : List ℕ)
    → write_answer (write_plain n R openings words buf).answer ≡ numbered (write_check n R openings words (length buf)) (bytes_for n R ∷ [])
unfolding write_plain
write_answer_lem n R openings words buf = write_as_answer (write_check n R openings words (length buf)) n R openings words buf

-- and a refusal leaves every buffer as it was
read_as_kept : (o : Outcome) (s openings words : List ℕ) → ((read_answer (read_as o s openings words).answer).0 ≡ 0 → ⊥) → ((read_as o s openings words).openings ≡ openings) × ((read_as o s openings words).words ≡ words)
read_as_kept (Ok _) s openings words h = absurd (h refl)
read_as_kept (Err r) s openings words h = (refl, refl)

pub read_kept : (s openings words : List ℕ) → ((read_answer (read_plain s openings words).answer).0 ≡ 0 → ⊥)
    → ((read_plain s openings words).openings ≡ openings) × ((read_plain s openings words).words ≡ words)
unfolding read_plain
read_kept s openings words h =
    read_as_kept (read_check s (length openings) (length words)) s openings words h

write_as_kept : (o : Outcome) (n R : ℕ) (openings words buf : List ℕ) → ((write_answer (write_as o n R openings words buf).answer).0 ≡ 0 → ⊥) → (write_as o n R openings words buf).buffer ≡ buf
write_as_kept (Ok _) n R openings words buf h = absurd (h refl)
write_as_kept (Err r) n R openings words buf h = refl

pub write_kept : (n R : ℕ) (openings words buf : List ℕ) → ((write_answer (write_plain n R openings words buf).answer).0 ≡ 0 → ⊥)
    → (write_plain n R openings words buf).buffer ≡ buf
unfolding write_plain
write_kept n R openings words buf h =
    write_as_kept (write_check n R openings words (length buf)) n R openings words buf h
