-- A number by its digits; the parts of a line; that no run has too many trucks for the listing's buffer; and that a text that is answered lies within the lent buffer.
use mathlib.Core.Path.{◌≡◌, refl, ap, sym, ◌∙◌}
use mathlib.Core.Bool.{Bool, true, false, cond}
use mathlib.Core.List.{List, [], ◌∷◌, ◌++◌, append_assoc}
use Prim.Native.Nat.{ℕ, zero, suc, ◌+◌, ◌/◌, ◌%◌, ◌^◌, ◌≤◌, ◌<◌}
use native.Mathlib.Omega.{arith}
use borrow.Author.Tests.{lt-ltb, le-ltb, leb-true}
use lib.Dec.{leb, ltb}
use Rattle.std.specs.Prelude.{Result, Ok, Err}
use Rattle.std.specs.Fmt as fmt
use Rattle.std.proofs.lemmas.Fmt.{decimal_from_appends, decimal_digit, decimal_step, length-decimal-le}
use lib.ListN.{length, drop, length-append}
use Rattle.protocol.specs.declared.Truck.{Truck}
use Rattle.listing.specs.Text.{text, decimal_in, decimal, state_text, sent_text, truck_line, listing_of, refusal_text}
use Rattle.refusals.specs.declared.Refusal.TheVariants.{ShortBuffer}
use Rattle.refusals.specs.declared.Refusal.{Refusal}
use Rattle.refusals.specs.Outcomes.{Outcome}
use Rattle.listing.specs.Listed.{Left, left, text_in, listed_for, listed, refusal_listed}
use Rattle.recording.specs.Packed.{trucks_of, rounds_of, openings_of, round_at}
use Rattle.recording.specs.Checks.{check_of}
use Rattle.recording.proofs.Accepted.{bytes_good}
use Rattle.protocol.specs.declared.Fleet.{Fleet}
use Rattle.protocol.specs.declared.Answer.{Answer}
use Rattle.protocol.specs.Fleets.{answer, blank, fleet_at, ran, ran_in, fleet_in}
use Rattle.listing.specs.Writing.{opening_text, spaced, sent_line}

-- a number in decimal is std's, and so has its laws
decimal_is : (k : ℕ) → k < 2 ^ 16 → decimal k ≡ fmt.decimal k
unfolding decimal decimal_in
decimal_is k h =
    decimal_from_appends decimal_in (record { one = λ f n l. rw (lt-ltb n 10 l); more = λ f n l. rw (le-ltb n 10 l) }) 5 k (omega arith)
    (length-decimal-le 5 k (omega arith) (omega arith) (omega arith))

pub decimal_small : (k : ℕ) → k < 10 → decimal k ≡ (48 + k % 10) ∷ []
decimal_small k h = decimal_is k (omega arith) ∙ decimal_digit k h ∙ ap (λ (x : ℕ). (48 + x) ∷ []) (let e : k ≡ k % 10 = omega arith in e)

pub decimal_more : (k : ℕ) → 10 ≤ k → k < 2 ^ 16 → decimal k ≡ decimal (k / 10) ++ ((48 + k % 10) ∷ [])
decimal_more k h l =
    decimal_is k l ∙ decimal_step k h (omega arith) ∙ ap (λ (x : List ℕ). x ++ ((48 + k % 10) ∷ [])) (sym (decimal_is (k / 10) (omega arith)))

-- no number takes more than five places, and none of 16 bits more than four before its last digit
length_in : (f k : ℕ) → length (decimal_in f k) ≤ f
unfolding decimal_in
length_in zero k = omega arith
length_in (suc f) k = go (ltb k 10) (length_in f (k / 10))
  where
    go : (b : Bool) → length (decimal_in f (k / 10)) ≤ f
        → length (cond b ((48 + k) ∷ []) (decimal_in f (k / 10) ++ ((48 + k % 10) ∷ []))) ≤ suc f
    go true h = omega arith
    go false h = omega (arith, length-append (decimal_in f (k / 10)) ((48 + k % 10) ∷ []))

pub length_decimal : (k : ℕ) → length (decimal k) ≤ 5
unfolding decimal
length_decimal k = length_in 5 k

pub length_tenth : (k : ℕ) → k < 2 ^ 16 → length (decimal (k / 10)) ≤ 4
length_tenth k h = rw (decimal_is (k / 10) (omega arith)) (length-decimal-le 4 (k / 10) (omega arith) (omega arith) (omega arith))

-- the line of a truck, part by part
pub line_text : (i : ℕ) (t : Truck)
    → opening_text i t.opening ++ spaced (state_text t.state t.estimate) ++ text " " ++ sent_line t.sent.proposals t.sent.vetoes ≡ truck_line i t
unfolding truck_line
line_text i t =
    let a = opening_text i t.opening in
    let b = state_text t.state t.estimate in
    let c = sent_text t.sent.proposals t.sent.vetoes in
    ap (λ (x : List ℕ). x ++ text " " ++ (c ++ text "\n")) (sym (append_assoc a (text " ") b)) ∙ sym (append_assoc (a ++ text " " ++ b ++ text " ") c (text "\n"))

-- no run has more than 32 trucks
pub run_small : (s : List ℕ) (a : Answer) → a ≡ ran s → a.fleet.n ≤ 32
unfolding ran_in fleet_in blank
run_small s a e = rw e (go (check_of s) refl)
  where
    f : Fleet
    f = fleet_at (trucks_of s) (openings_of s) (round_at s) (rounds_of s)

    go : (o : Outcome) → check_of s ≡ o → (answer o f blank).fleet.n ≤ 32
    go (Ok _) h = (bytes_good s h).frame.most
    go (Err r) h = omega arith

-- an answer's text lies within the buffer
abbrev pub size_of : Result ℕ Refusal → ℕ
size_of (Ok k) = k
size_of (Err r) = 0

text-fits : (t d : List ℕ) → size_of (text_in t d).answer ≤ length d
unfolding text_in
text-fits t d = go (leb (length t) (length d)) refl
  where
    go : (b : Bool) → leb (length t) (length d) ≡ b
        → size_of (cond b (left (Ok (length t)) (t ++ drop (length t) d)) (left (Err ShortBuffer) d)).answer ≤ length d
    go true e = leb-true (length t) (length d) e
    go false e = omega arith

pub listed-fits : (s d d' : List ℕ) (r : Result ℕ Refusal) (k : ℕ) → left r d' ≡ listed s d → r ≡ Ok k → k ≤ length d
unfolding listed
listed-fits s d d' r k e h = rw (ap size_of (sym h) ∙ ap (λ (l : Left). size_of l.answer) e) (go (ran s).outcome)
  where
    go : (o : Outcome) → size_of (listed_for o (ran s).fleet d).answer ≤ length d
    go (Ok _) = text-fits (listing_of (ran s).fleet) d
    go (Err r) = omega arith

pub refusal_fits : (r : Refusal) (d d' : List ℕ) (l : Result ℕ Refusal) (k : ℕ) → left l d' ≡ refusal_listed r d → l ≡ Ok k → k ≤ length d
unfolding refusal_listed
refusal_fits r d d' l k e h = rw (ap size_of (sym h) ∙ ap (λ (l : Left). size_of l.answer) e) (text-fits (refusal_text r) d)
