-- What the listing functions answer, with the lent buffer as they leave it.
use Rattle.std.specs.Prelude.{ℕ, cond, List, [], ◌∷◌, ◌++◌, ltb, leb, length, drop, Result, Ok, Err}
use Rattle.refusals.specs.Numbers.{number_of}
use Rattle.refusals.specs.declared.Refusal.{Refusal}
use Rattle.refusals.specs.declared.Refusal.TheVariants.{ShortBuffer}
use Rattle.refusals.specs.Outcomes.{Outcome, refuse, and_then}
use Rattle.recording.specs.Checks.{check_of}
use Rattle.protocol.specs.declared.Fleet.{Fleet}
use Rattle.protocol.specs.Fleets.{ran}
use Rattle.listing.specs.Text.{listing_of, refusal_text}

pub record Left : Type 0 where
  pub answer : Result ℕ Refusal
  pub buffer : List ℕ

abbrev pub left : Result ℕ Refusal → List ℕ → Left
left r d = record { answer = r; buffer = d }

-- an answer by document 01's number and values: the number of bytes of the text, where it is no refusal
abbrev pub list_answer : Result ℕ Refusal → ℕ × List ℕ
list_answer (Ok k) = (0, k ∷ [])
list_answer (Err r) = (number_of r, [])

-- a text in a lent buffer, which keeps everything past it; 9 where the buffer is too short
unfoldable pub text_in : List ℕ → List ℕ → Left
text_in t d = cond (leb (length t) (length d)) (left (Ok (length t)) (t ++ drop (length t) d)) (left (Err ShortBuffer) d)

abbrev pub listed_for : Outcome → Fleet → List ℕ → Left
listed_for (Ok _) f d = text_in (listing_of f) d
listed_for (Err r) f d = left (Err r) d

-- the listing of a recording's run: 1 to 6, then 9; nothing is written on a refusal
unfoldable pub listed : List ℕ → List ℕ → Left
listed s d = let a = ran s in listed_for a.outcome a.fleet d

-- the same as a check: 1 to 6, then 9, for a buffer of this length
unfoldable pub list_check : List ℕ → ℕ → Outcome
list_check s m = and_then (check_of s) (refuse (ltb m (length (listing_of (ran s).fleet))) ShortBuffer (Ok tt))

-- the line of a refused recording
unfoldable pub refusal_listed : Refusal → List ℕ → Left
refusal_listed r d = text_in (refusal_text r) d
