-- What refusal 6 names of a recording, of a round and of rounds in plain form: the bit that it names is 1, no earlier round has one that is, and in that round
-- no lower truck has.
use mathlib.Core.Path.{◌≡◌, refl, ap, sym, ◌∙◌}
use mathlib.Core.Bool.{Bool, false}
use mathlib.Core.List.{List}
use Prim.Native.Nat.{ℕ, zero, suc, ◌≤◌, ◌<◌}
use native.Mathlib.Omega.{arith}
use lib.ListN.{length, get_or}
use Rattle.std.specs.Prelude.{Ok, Err}
use Rattle.refusals.specs.declared.Refusal.{Refusal}
use Rattle.refusals.specs.declared.Refusal.TheVariants.{ShortRecording, TruckCount, RoundCount, RecordingLength, EndBit, OwnLoss, Record, PlainRound}
use Rattle.refusals.specs.Outcomes.{Outcome, refuse, and_then}
use Rattle.refusals.proofs.Outcomes.{refused-not, refuse_past}
use Rattle.recording.specs.Packed.{bit_at, trucks_of, rounds_of, word_at}
use Rattle.recording.specs.Checks.{too_short, bad_trucks, bad_rounds, bad_length, end_bit, bad_openings, bad_words, FirstOwn, FirstOwnAt, frame_check, own_check, own_loss_check, check_of, rounds_check, round_check, plain_check}
use Rattle.recording.proofs.Accepted.{frame_good}
use Rattle.recording.proofs.OwnLoss.{own_named, own_names}

-- none of 1 to 5 is 6
frame_other : {A : Type 0} (s : List ℕ) (round truck : ℕ) → frame_check s ≡ Err (OwnLoss round truck) → A
unfolding frame_check
frame_other s round truck h =
    let q : Refusal = OwnLoss round truck in
    let wrong : Bool = bad_length (length s) (trucks_of s) (rounds_of s) in
    let ended : Bool = end_bit (bit_at s) (length s) (trucks_of s) (rounds_of s) in
    let r_5 : Outcome = refuse ended EndBit (Ok tt) in
    let r_4 : Outcome = refuse wrong RecordingLength r_5 in
    let r_3 : Outcome = refuse (bad_rounds (rounds_of s)) RoundCount r_4 in
    let r_2 : Outcome = refuse (bad_trucks (trucks_of s)) TruckCount r_3 in
    let h₂ = (refuse_past (too_short s) ShortRecording q r_2 (λ e. omega arith) h).1 in
    let h₃ = (refuse_past (bad_trucks (trucks_of s)) TruckCount q r_3 (λ e. omega arith) h₂).1 in
    let h₄ = (refuse_past (bad_rounds (rounds_of s)) RoundCount q r_4 (λ e. omega arith) h₃).1 in
    let h₅ = (refuse_past wrong RecordingLength q r_5 (λ e. omega arith) h₄).1 in
    refused-not q (sym (refuse_past ended EndBit q (Ok tt) (λ e. omega arith) h₅).1)

-- a recording: 1 to 5 accept it, and the bit is the first
module _ (s : List ℕ) (round truck : ℕ) where
  abbrev first_of : Type 0
  first_of = FirstOwnAt (word_at s) (trucks_of s) 1 (rounds_of s) round truck

  pub check_names : check_of s ≡ Err (OwnLoss round truck) → (frame_check s ≡ Ok tt) × FirstOwnAt (word_at s) (trucks_of s) 1 (rounds_of s) round truck
  unfolding check_of own_check
  check_names h = go (frame_check s) refl h
    where
      go : (o : Outcome) → frame_check s ≡ o → and_then o (own_check s) ≡ Err (OwnLoss round truck) → (frame_check s ≡ Ok tt) × first_of
      go (Ok _) e g = (e, own_names (word_at s) (trucks_of s) 1 (rounds_of s) round truck g)
      go (Err r) e g = frame_other s round truck (e ∙ g)

  pub check_named : frame_check s ≡ Ok tt → FirstOwnAt (word_at s) (trucks_of s) 1 (rounds_of s) round truck → check_of s ≡ Err (OwnLoss round truck)
  unfolding check_of own_check
  check_named e f = ap (λ (o : Outcome). and_then o (own_check s)) e ∙ own_named (word_at s) (trucks_of s) 1 (rounds_of s) round truck f

  -- it is a round of the recording, and one of its trucks
  pub check_in : check_of s ≡ Err (OwnLoss round truck) → (round ≤ 400) × (truck < 32)
  check_in h = go (check_names h)
    where
      go : (frame_check s ≡ Ok tt) × first_of → (round ≤ 400) × (truck < 32)
      go (e, (r, c, f)) =
          let g = frame_good s e in
          (omega (arith, f.round, g.rounds), omega (arith, f.truck, g.most))

-- R rounds in plain form whose first is round k
rounds_names : (n k R : ℕ) (words : List ℕ) (round truck : ℕ) → rounds_check n k R words ≡ Err (OwnLoss round truck)
    → FirstOwnAt (λ w. get_or words w 0) n k R round truck
unfolding rounds_check
rounds_names n k R words round truck h =
    own_names (λ w. get_or words w 0) n k R round truck
    (refuse_past (bad_words n R words) PlainRound (OwnLoss round truck) (own_loss_check (λ w. get_or words w 0) n k R) (λ e. omega arith) h).1

-- one round
pub round_names : (n k : ℕ) (words : List ℕ) (round truck : ℕ) → round_check n k words ≡ Err (OwnLoss round truck)
    → (round ≡ k) × FirstOwn (λ w. get_or words w 0) n 1 0 truck
unfolding round_check
round_names n k words round truck h = go (rounds_names n k 1 words round truck h)
  where
    go : FirstOwnAt (λ w. get_or words w 0) n k 1 round truck → (round ≡ k) × FirstOwn (λ w. get_or words w 0) n 1 0 truck
    go (zero, e, f) = (omega arith, f)
    go (suc r, e, f) = absurd (omega (arith, f.round))

-- what writing asks: 2, 3, 7 and 8 of all rounds come before
pub plain_names : (n R : ℕ) (openings words : List ℕ) (round truck : ℕ) → plain_check n R openings words ≡ Err (OwnLoss round truck)
    → (bad_trucks n ≡ false) × (bad_rounds R ≡ false) × (bad_openings n openings ≡ false) × (bad_words n R words ≡ false)
    × FirstOwnAt (λ w. get_or words w 0) n 1 R round truck
unfolding plain_check rounds_check
plain_names n R openings words round truck h =
    let q : Refusal = OwnLoss round truck in
    let own : Outcome = own_loss_check (λ w. get_or words w 0) n 1 R in
    let r-8 : Outcome = refuse (bad_words n R words) PlainRound own in
    let r-7 : Outcome = refuse (bad_openings n openings) Record r-8 in
    let r_3 : Outcome = refuse (bad_rounds R) RoundCount r-7 in
    let h₃ = refuse_past (bad_trucks n) TruckCount q r_3 (λ e. omega arith) h in
    let h₇ = refuse_past (bad_rounds R) RoundCount q r-7 (λ e. omega arith) h₃.1 in
    let h₈ = refuse_past (bad_openings n openings) Record q r-8 (λ e. omega arith) h₇.1 in
    let h₆ = refuse_past (bad_words n R words) PlainRound q own (λ e. omega arith) h₈.1 in
    (h₃.0, h₇.0, h₈.0, h₆.0, own_names (λ w. get_or words w 0) n 1 R round truck h₆.1)
