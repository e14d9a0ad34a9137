-- What the two calls leave in their buffers is what document 01 has printed; the sizes named for callers suffice; and input past the limit changes nothing.
use mathlib.Core.Path.{◌≡◌, refl, ap, sym, subst, ◌∙◌}
use mathlib.Core.Bool.{Bool, true, false, cond, false≢true, true≢false}
use mathlib.Core.List.{List, [], ◌∷◌, ◌++◌}
use Prim.Native.Nat.{ℕ, ◌≤◌, ◌<◌}
use native.Mathlib.Omega.{arith}
use native.Mathlib.Decide.{dec_le}
use borrow.Author.Tests.{le-leb, lt-leb, le-ltb, lt-ltb}
use lib.Dec.{ltb, leb}
use lib.ListN.{length, take, drop}
use lib.Seq.{take-append_seam}
use Rattle.std.specs.Prelude.{Result, Ok, Err}
use Rattle.refusals.specs.declared.Refusal.{Refusal}
use Rattle.refusals.specs.declared.Refusal.TheVariants.{ShortBuffer}
use Rattle.refusals.specs.Numbers.{numbered}
use Rattle.refusals.specs.Outcomes.{Outcome, refuse, and_then}
use Rattle.recording.specs.Packed.{trucks_of, rounds_of, openings_of, round_at}
use Rattle.recording.specs.Checks.{check_of}
use Rattle.protocol.specs.declared.Fleet.{Fleet}
use Rattle.protocol.specs.declared.Answer.{Answer}
use Rattle.protocol.specs.Fleets.{two_round, answer, blank, fleet_at, ran, ran_in}
use Rattle.protocol.proofs.Ran.{ran-fleet, ran_cut}
use Rattle.listing.specs.Text.{listing_of, refusal_text, printed_for, printed}
use Rattle.listing.specs.Listed.{Left, left, list_answer, text_in, listed_for, listed, list_check, refusal_listed}
use Rattle.listing.specs.Program.{longest_listing, longest_refusal, input_limit}
use Rattle.listing.proofs.Laws.{size_of}
use Rattle.listing.proofs.Sizes.{listing_size, refused_size}

-- a text in a buffer that is long enough for it
text_suffices : (t d : List ℕ) → length t ≤ length d → text_in t d ≡ left (Ok (length t)) (t ++ drop (length t) d)
unfolding text_in
text_suffices t d h = rw (le-leb (length t) (length d) h)

abbrev is_text : Result ℕ Refusal → Bool
is_text (Ok k) = true
is_text (Err r) = false

-- what a text leaves in a buffer up to its answer is the text
text-left : (t d : List ℕ) (k : ℕ) → (text_in t d).answer ≡ Ok k → take k (text_in t d).buffer ≡ t
unfolding text_in
text-left t d k = go (leb (length t) (length d))
  where
    go : (b : Bool) → (cond b (left (Ok (length t)) (t ++ drop (length t) d)) (left (Err ShortBuffer) d)).answer ≡ Ok k
        → take k (cond b (left (Ok (length t)) (t ++ drop (length t) d)) (left (Err ShortBuffer) d)).buffer ≡ t
    go true e = ap (λ (j : ℕ). take j (t ++ drop (length t) d)) (sym (ap size_of e)) ∙ take-append_seam t (drop (length t) d)
    go false e = absurd (false≢true (ap is_text e))

-- what `list` leaves in the buffer up to its answer is what is printed for the recording
pub listed-printed : (s d : List ℕ) (k : ℕ) → (listed s d).answer ≡ Ok k → take k (listed s d).buffer ≡ printed s
unfolding listed printed
listed-printed s d k = go (ran s).outcome
  where
    go : (o : Outcome) → (listed_for o (ran s).fleet d).answer ≡ Ok k → take k (listed_for o (ran s).fleet d).buffer ≡ printed_for o (ran s).fleet
    go (Ok _) e = text-left (listing_of (ran s).fleet) d k e
    go (Err r) e = absurd (false≢true (ap is_text e))

-- what `refusal_line` leaves up to its answer is the line of the refusal
pub refusal_printed : (r : Refusal) (d : List ℕ) (k : ℕ) → (refusal_listed r d).answer ≡ Ok k → take k (refusal_listed r d).buffer ≡ refusal_text r
unfolding refusal_listed
refusal_printed r d k e = text-left (refusal_text r) d k e

-- a buffer of the size named for a listing is never too short: a refusal is one of the recording
abbrev outcome_for : Result ℕ Refusal → Outcome
outcome_for (Ok k) = Ok tt
outcome_for (Err r) = Err r

pub list_suffices : (s d : List ℕ) (r : Refusal) → longest_listing ≤ length d → (listed s d).answer ≡ Err r → check_of s ≡ Err r
unfolding listed ran_in
list_suffices s d r h = go (check_of s) refl
  where
    f : Fleet
    f = fleet_at (trucks_of s) (openings_of s) (round_at s) (rounds_of s)

    go : (o : Outcome) → check_of s ≡ o → (listed_for (answer o f blank).outcome (answer o f blank).fleet d).answer ≡ Err r → o ≡ Err r
    go (Ok _) e a =
        let fits : length (listing_of f) ≤ longest_listing = subst (λ (g : Fleet). length (listing_of g) ≤ longest_listing) (ran-fleet two_round s e) (listing_size s e) in
        absurd (true≢false (sym (ap (λ (l : Left). is_text l.answer) (text_suffices (listing_of f) d (omega arith))) ∙ ap is_text a))
    go (Err q) e a = ap outcome_for a

-- nor is one of the size named for the line of a refused recording
line_suffices : (r : Refusal) (d : List ℕ) → length (refusal_text r) ≤ length d → (refusal_listed r d).answer ≡ Ok (length (refusal_text r))
unfolding refusal_listed
line_suffices r d h = ap (λ (l : Left). l.answer) (text_suffices (refusal_text r) d h)

pub refusal_suffices : (s : List ℕ) (r : Refusal) (d : List ℕ) → check_of s ≡ Err r → longest_refusal ≤ length d
    → (refusal_listed r d).answer ≡ Ok (length (refusal_text r))
refusal_suffices s r d e h = line_suffices r d (omega (arith, refused_size s r e))

-- a refused recording prints the line of its refusal
refused-printed : (s : List ℕ) (r : Refusal) → check_of s ≡ Err r → printed s ≡ refusal_text r
unfolding printed ran_in
refused-printed s r h = rw h

-- input past the limit changes nothing
pub printed_cut : (s : List ℕ) → printed (take input_limit s) ≡ printed s
unfolding printed
printed_cut s = ap (λ (a : Answer). printed_for a.outcome a.fleet) (ran_cut two_round s input_limit (omega arith))

-- as callers of the two functions have it: the text up to the answer is what is printed, and with buffers of these sizes only the recording is refused
module _ (s d d' : List ℕ) (l : Result ℕ Refusal) (left_so : left l d' ≡ listed s d) where
  answered : (listed s d).answer ≡ l
  answered = sym (ap (λ (x : Left). x.answer) left_so)

  pub list_text : (k : ℕ) → l ≡ Ok k → take k d' ≡ printed s
  list_text k h = ap (λ (x : Left). take k x.buffer) left_so ∙ listed-printed s d k (answered ∙ h)

  pub list_refused : (r : Refusal) → l ≡ Err r → longest_listing ≤ length d → refusal_text r ≡ printed s
  list_refused r h g = sym (refused-printed s r (list_suffices s d r g (answered ∙ h)))

  pub list_room : (r : Refusal) → l ≡ Err r → longest_listing ≤ length d → length (refusal_text r) ≤ length d
  list_room r h g = omega (arith, refused_size s r (list_suffices s d r g (answered ∙ h)))

module _ (r : Refusal) (d d' : List ℕ) (l : Result ℕ Refusal) (left_so : left l d' ≡ refusal_listed r d) where
  pub line_text : (k : ℕ) → l ≡ Ok k → take k d' ≡ refusal_text r
  line_text k h = ap (λ (x : Left). take k x.buffer) left_so ∙ refusal_printed r d k (sym (ap (λ (x : Left). x.answer) left_so) ∙ h)

  pub line_refused : (q : Refusal) → l ≡ Err q → length (refusal_text r) ≤ length d → ⊥
  line_refused q h g = true≢false (sym (ap is_text (line_suffices r d g)) ∙ ap (λ (x : Left). is_text x.answer) (sym left_so) ∙ ap is_text h)

-- ---- answers by document 01's number and values
text-answer : (t d : List ℕ) → list_answer (text_in t d).answer ≡ numbered (refuse (ltb (length d) (length t)) ShortBuffer (Ok tt)) (length t ∷ [])
unfolding text_in
text-answer t d = go (dec_le (length t) (length d))
  where
    go : Dec (length t ≤ length d)
        → list_answer (cond (leb (length t) (length d)) (left (Ok (length t)) (t ++ drop (length t) d)) (left (Err ShortBuffer) d)).answer
        ≡ numbered (refuse (ltb (length d) (length t)) ShortBuffer (Ok tt)) (length t ∷ [])
    go (yes h) = rw (le-leb (length t) (length d) h, le-ltb (length d) (length t) h)
    go (no h) =
        let l : length d < length t = omega arith in
        rw (lt-leb (length t) (length d) l, lt-ltb (length d) (length t) l)

pub list_answer_lem : (s d : List ℕ) → list_answer (listed s d).answer ≡ numbered (list_check s (length d)) (length (listing_of (ran s).fleet) ∷ [])
unfolding listed list_check ran_in
list_answer_lem s d = go (check_of s)
  where
    f : Fleet
    f = fleet_at (trucks_of s) (openings_of s) (round_at s) (rounds_of s)

    go : (o : Outcome)
        → list_answer (listed_for (answer o f blank).outcome (answer o f blank).fleet d).answer
        ≡ numbered (and_then o (refuse (ltb (length d) (length (listing_of (answer o f blank).fleet))) ShortBuffer (Ok tt)))
        (length (listing_of (answer o f blank).fleet) ∷ [])
    go (Ok _) = text-answer (listing_of f) d
    go (Err r) = refl

pub refusal_answer : (r : Refusal) (d : List ℕ)
    → list_answer (refusal_listed r d).answer ≡ numbered (refuse (ltb (length d) (length (refusal_text r))) ShortBuffer (Ok tt)) (length (refusal_text r) ∷ [])
unfolding refusal_listed
refusal_answer r d = text-answer (refusal_text r) d
