-- Where refusal 6 finds an own loss bit, for callers in other languages: what the three functions answer; and where a call answers 6, the function beside it names
-- the earliest round and, in it, the lowest truck.
use mathlib.Core.Path.{◌≡◌, refl, ap, sym, ◌∙◌}
use mathlib.Core.Bool.{Bool, true, false, cond, ◌||◌}
use mathlib.Core.List.{List, [], ◌∷◌, ◌++◌}
use Prim.Native.Nat.{ℕ, ◌+◌, ◌*◌, ◌≤◌, min}
use native.Mathlib.Omega.{arith}
use borrow.Author.Tests.{ltb-false, le-ltb, ne_eqb}
use lib.Dec.{ltb, eqb}
use lib.ListN.{length, get_or, drop}
use Rattle.std.specs.Prelude.{Ok, Err}
use Rattle.basics.proofs.Laws.{or_left, or_right, or-none}
use Rattle.refusals.specs.declared.Refusal.TheVariants.{ShortBuffer}
use Rattle.refusals.specs.Numbers.{number_of, outcome_number, numbered}
use Rattle.refusals.specs.Outcomes.{Outcome, refuse, and_then}
use Rattle.refusals.specs.Locations.{outcome_location, location_number}
use Rattle.refusals.proofs.Locations.{outcome_6}
use Rattle.recording.specs.Packed.{trucks_of, rounds_of, openings_of, round_at, word_at, bytes_for}
use Rattle.recording.specs.Checks.{bad_trucks, bad_rounds, check_of, round_check, plain_check, FirstOwn, FirstOwnAt}
use Rattle.recording.proofs.Accepted.{trucks_in_lem}
use Rattle.recording.proofs.Named.{check_names, plain_names}
use Rattle.plain.specs.Forms.{read_check, short_buffers, write_check}
use Rattle.plain.proofs.RoundTrip.{read_answer_lem, write_answer_lem}
use Rattle.protocol.specs.declared.Fleet.{Fleet}
use Rattle.protocol.specs.Fleets.{Protocol, blank, ran, step_check_in, stepped_in, ran_in, fleet_in}
use Rattle.protocol.proofs.Ran.{grade_answer_lem}
use Rattle.protocol.proofs.Steps.{answer-outcome, step_checked, step_names}
use Rattle.listing.specs.Text.{listing_of}
use Rattle.listing.specs.Listed.{list_check}
use Rattle.listing.proofs.Prints.{list_answer_lem}
use Rattle.recordbytes.specs.Layout.{size_for, damaged, record_of, no_record, unpacked}
use Rattle.ffi.specs.Calls.{read_call, write_call, list_call, call_result, grade_result, grade_call_in, store_call, run_call_in, step_call_in, recording_own_loss, write_own_loss, round_own_loss}
use Rattle.ffi.proofs.Narrow.{many_trucks, narrowed, narrow_check}
use Rattle.ffi.proofs.Records.{record_number}

-- ---- a law for each return
abbrev own_loss : Outcome → ℕ
own_loss o = location_number (outcome_location o)

pub recording_own : (s : List ℕ) (o : Outcome) (k : ℕ) → o ≡ check_of s → k ≡ location_number (outcome_location o) → k ≡ recording_own_loss s
unfolding recording_own_loss
recording_own s o k h e = e ∙ ap own_loss h

pub write_own : (n R m S : ℕ) (openings words : List ℕ) (o : Outcome) (k : ℕ) → m ≡ min n 255 → S ≡ min R 65535 → o ≡ plain_check m S openings words
    → k ≡ location_number (outcome_location o) → k ≡ write_own_loss n R openings words
unfolding write_own_loss
write_own n R m S openings words o k few short h e = e ∙ ap own_loss (h ∙ narrow_check openings words n R m S few short)

-- a round that passes the test is one of 400
pub round-few : (a : Bool) (k : ℕ) → (a || ltb 400 k) ≡ false → k ≤ 400
round-few a k h = ltb-false 400 k (or_right a (ltb 400 k) h)

-- a number of trucks that is handed on is one that 2 refuses too, or the same one
module _ (n m k : ℕ) (words : List ℕ) (few : m ≡ min n 255) where
  same-trucks : bad_trucks m ≡ bad_trucks n
  same-trucks =
      narrowed bad_trucks bad_trucks true n m 255 few (many_trucks 255 (omega arith)) (λ l. many_trucks n (omega arith)) (λ j h. h)

  -- what is answered, by the test that the code makes
  round_by : (b t : Bool) → b ≡ bad_trucks m → (b || eqb k 0 || ltb 400 k) ≡ t → round_own_loss n k words ≡ cond t 0 (own_loss (round_check n k words))
  unfolding round_own_loss bad_rounds
  round_by b t e h =
      ap (λ (x : Bool). cond (x || eqb k 0 || ltb 400 k) 0 (own_loss (round_check n k words))) (sym same-trucks ∙ sym e)
      ∙ ap (λ (x : Bool). cond x 0 (own_loss (round_check n k words))) h

  pub round-none : (b : Bool) → b ≡ bad_trucks m → (b || eqb k 0 || ltb 400 k) ≡ true → 0 ≡ round_own_loss n k words
  round-none b e h = sym (round_by b true e h)

  module _ (b : Bool) (e : b ≡ bad_trucks m) (h : (b || eqb k 0 || ltb 400 k) ≡ false) where
    same_number : m ≡ n
    same_number =
        let i = trucks_in_lem m (sym e ∙ or_left b (eqb k 0) (or_left (b || eqb k 0) (ltb 400 k) h)) in
        omega (arith, i.1)

    pub round-own : (o : Outcome) (j : ℕ) → o ≡ round_check m k words → j ≡ location_number (outcome_location o) → j ≡ round_own_loss n k words
    round-own o j c g = g ∙ ap own_loss (c ∙ ap (λ (i : ℕ). round_check i k words) same_number) ∙ sym (round_by b false e h)

-- ---- what they answer where a call answers 6
number_of_lem : (o : Outcome) (values : List ℕ) → (numbered o values).0 ≡ outcome_number o
number_of_lem (Ok _) values = refl
number_of_lem (Err r) values = refl

-- a buffer that is too short is not what is answered 6 for
before_9 : (o : Outcome) (b : Bool) → outcome_number (and_then o (refuse b ShortBuffer (Ok tt))) ≡ 6 → outcome_number o ≡ 6
before_9 (Ok _) true h = absurd (omega arith)
before_9 (Ok _) false h = absurd (omega arith)
before_9 (Err r) b h = h

module _ (s : List ℕ) where
  -- the first own loss bit of a recording, as it is answered
  abbrev pub RecordingNamed : Type 0
  RecordingNamed = (round : ℕ) × (truck : ℕ) × (recording_own_loss s ≡ round * 256 + truck) × FirstOwnAt (word_at s) (trucks_of s) 1 (rounds_of s) round truck

  named : outcome_number (check_of s) ≡ 6 → RecordingNamed
  unfolding recording_own_loss
  named h = let (round, truck, e) = outcome_6 (check_of s) h in (round, truck, ap own_loss e, (check_names s round truck e).1)

  pub read_6 : (openings words : List ℕ) (trucks rounds : ℕ) → (read_call s openings words trucks rounds).number ≡ 6 → RecordingNamed
  unfolding read_call read_check
  read_6 openings words trucks rounds h =
      named
      (before_9 (check_of s) (short_buffers s (length openings) (length words))
      (sym (ap (λ (x : ℕ × List ℕ). x.0) (read_answer_lem s openings words) ∙ number_of_lem (read_check s (length openings) (length words)) (trucks_of s ∷ rounds_of s ∷ [])) ∙ h))

  pub list_6 : (text : List ℕ) (written : ℕ) → (list_call s text written).number ≡ 6 → RecordingNamed
  unfolding list_call list_check
  list_6 text written h =
      let short = ltb (length text) (length (listing_of (ran s).fleet)) in
      named
      (before_9 (check_of s) short
      (sym (ap (λ (x : ℕ × List ℕ). x.0) (list_answer_lem s text) ∙ number_of_lem (list_check s (length text)) (length (listing_of (ran s).fleet) ∷ [])) ∙ h))

  pub run_6 : (p : Protocol) (d : List ℕ) → (run_call_in p s d).number ≡ 6 → RecordingNamed
  unfolding run_call_in store_call ran_in
  run_6 p d h =
      let short = ltb (length d) (size_for 32) in
      let f : Fleet = fleet_in p (trucks_of s) (openings_of s) (round_at s) (rounds_of s) in
      let ran-6 = before_9 (ran_in p s).outcome short (sym (record_number (and_then (ran_in p s).outcome (refuse short ShortBuffer (Ok tt))) 32 (ran_in p s).fleet d) ∙ h) in
      named (sym (ap outcome_number (answer-outcome (check_of s) f blank)) ∙ ran-6)

  pub grade_6 : (p : Protocol) (grades : List ℕ) → (grade_call_in p s grades).number ≡ 6 → RecordingNamed
  unfolding grade_call_in
  grade_6 p grades h = named (go (check_of s) _ (sym (ap (λ (x : ℕ × List ℕ). (grade_result x grades).number) (grade_answer_lem p s)) ∙ h))
    where
      short : (b : Bool) (values : List ℕ) → (cond b (call_result (number_of ShortBuffer) (grades ∷ []) []) (call_result 0 ((values ++ drop (length values) grades) ∷ []) [])).number ≡ 6 → ◌≡◌ {A = ℕ} 0 6
      short true values e = absurd (omega arith)
      short false values e = e

      go : (o : Outcome) (values : List ℕ) → (grade_result (numbered o values) grades).number ≡ 6 → outcome_number o ≡ 6
      go (Ok _) values e = short (ltb (length grades) (length values)) values e
      go (Err r) values e = rw (le-ltb (length grades) 0 (omega arith)) at e

-- writing
pub write_6 : (n R : ℕ) (openings words bytes : List ℕ) (written : ℕ) → (write_call n R openings words bytes written).number ≡ 6
    → (round : ℕ) × (truck : ℕ) × (write_own_loss n R openings words ≡ round * 256 + truck) × FirstOwnAt (λ w. get_or words w 0) n 1 R round truck
unfolding write_call write_check write_own_loss
write_6 n R openings words bytes written h =
    let six = before_9 (plain_check n R openings words) (ltb (length bytes) (bytes_for n R))
    (sym (ap (λ (x : ℕ × List ℕ). x.0) (write_answer_lem n R openings words bytes) ∙ number_of_lem (write_check n R openings words (length bytes)) (bytes_for n R ∷ [])) ∙ h) in
    let (round, truck, e) = outcome_6 (plain_check n R openings words) six in
    (round, truck, ap own_loss e, (plain_names n R openings words round truck e).4)

-- bytes that are no record are refused 7
whole_6 : {A : Type 0} (d : List ℕ) → outcome_number (unpacked d).outcome ≡ 6 → A
unfolding unpacked
whole_6 {A} d = go (damaged d)
  where
    go : (b : Bool) → outcome_number (cond b no_record (record { outcome = Ok tt; fleet = record_of d })).outcome ≡ 6 → A
    go true h = absurd (omega arith)
    go false h = absurd (omega arith)

-- a step: the round is the one after those done
pub step_6 : (p : Protocol) (d w : List ℕ) → (step_call_in p d w).number ≡ 6
    → (truck : ℕ) × (round_own_loss (unpacked d).fleet.n ((unpacked d).fleet.done + 1) w ≡ ((unpacked d).fleet.done + 1) * 256 + truck)
    × FirstOwn (λ k. get_or w k 0) (unpacked d).fleet.n 1 0 truck
unfolding step_call_in round_own_loss bad_rounds
step_6 p d w h = go (unpacked d).outcome refl (sym (record_number (and_then (unpacked d).outcome (stepped_in p f w).outcome) (stepped_in p f w).fleet.n (stepped_in p f w).fleet d) ∙ h)
  where
    f : Fleet
    f = (unpacked d).fleet

    k : ℕ
    k = f.done + 1

    go : (o : Outcome) → (unpacked d).outcome ≡ o → outcome_number (and_then o (stepped_in p f w).outcome) ≡ 6
        → (truck : ℕ) × (cond (bad_trucks f.n || eqb k 0 || ltb 400 k) 0 (own_loss (round_check f.n k w)) ≡ k * 256 + truck) × FirstOwn (λ j. get_or w j 0) f.n 1 0 truck
    go (Ok _) e g =
        let (round, truck, r) = outcome_6 (step_check_in p f w) (sym (ap outcome_number (step_checked p f w)) ∙ g) in
        let n = step_names p f w round truck r in
        let within : (bad_trucks f.n || eqb k 0 || ltb 400 k) ≡ false =
        or-none (bad_trucks f.n || eqb k 0) (ltb 400 k) (or-none (bad_trucks f.n) (eqb k 0) n.trucks (ne_eqb k 0 (λ z. omega arith))) (le-ltb 400 k (omega (arith, n.room))) in
        (truck, ap (λ (t : Bool). cond t 0 (own_loss (round_check f.n k w))) within ∙ ap own_loss n.own ∙ ap (λ (j : ℕ). j * 256 + truck) n.round-next, n.first)
    go (Err r) e g = whole_6 d (ap outcome_number e ∙ g)
