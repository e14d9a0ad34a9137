-- Demand 3 on bytes, from demand 3 of the records that they are; and agreement by a grade of 0.
use mathlib.Core.Path.{◌≡◌, refl, ap, sym, subst, ◌∙◌}
use mathlib.Core.Bool.{Bool, true, false, cond}
use mathlib.Core.List.{List, [], ◌∷◌}
use Prim.Native.Nat.{ℕ, ◌≤◌}
use native.Mathlib.Omega.{arith}
use lib.Dec.{ltb}
use lib.ListN.{length, get_or, drop}
use Rattle.std.specs.Prelude.{Result, Ok, Err}
use Rattle.refusals.specs.declared.Refusal.{Refusal}
use Rattle.basics.specs.Lists.{filled}
use Rattle.basics.proofs.Laws.{get_or-filled, filled_ext}
use Rattle.refusals.specs.Numbers.{number_of, outcome_number}
use Rattle.refusals.specs.declared.Refusal.TheVariants.{ShortBuffer}
use Rattle.refusals.proofs.Numbers.{number_range}
use Rattle.recording.specs.Packed.{trucks_of, rounds_of, openings_of, round_at}
use Rattle.protocol.specs.declared.Fleet.{Fleet}
use Rattle.protocol.specs.declared.Answer.{Answer}
use Rattle.protocol.specs.declared.Grades.{Grades}
use Rattle.protocol.specs.Fleets.{Protocol, two_round, six_round, started, ran_in, graded_in, grade_answer}
use Rattle.protocol.specs.Steps.{last_record_in, taken, round_in, recording_of}
use Rattle.protocol.specs.Claims.{Agreed, Marks, Claim, agrees_with, decides_in, HoldsIn, SameIn, DemandIn, MajorityMarks, MixedMarks, ZeroMarks, counts_sent}
use Rattle.protocol.specs.Claims.{Class, Complete, MajorityComplete, ZeroComplete, Accurate, grade_of, AgreesByGrade}
use Rattle.protocol.proofs.Demand3.{demand_3, mixed_agreement}
use Rattle.protocol.proofs.SixDemand.{six-demand}
use Rattle.protocol.proofs.Gradings.{two_grade, six_grade}
use Rattle.protocol.proofs.Counts.{sent-counts}
use Rattle.recordbytes.specs.Layout.{size_for, record_byte, unpacked}
use Rattle.ffi.specs.Calls.{CallResult, call_result, buffer_of, grade_result, grade_call_in, store_call, start_call, run_call_in}
use Rattle.ffi.specs.Claims.{RecordWith, bytes_of, HoldsOnBytes, SameOnBytes, DemandOnBytes, BytesDemand, SixBytesDemand, MixedBytesAgreement, BytesSentCounts}
use Rattle.ffi.specs.Claims.{grade_place, BytesAgreeByGrade}
use Rattle.ffi.proofs.Answers.{grades-refused}
use Rattle.ffi.proofs.Records.{store_whole, store_accepted}
use Rattle.ffi.proofs.Lists.{bytes_hold, bytes-laid, next-number, run_holds}

-- a start and a run that answer 0 were accepted, and the buffer had room
start-accepted : (n : ℕ) (openings d : List ℕ) → (start_call n openings d).number ≡ 0 → ((started n openings).outcome ≡ Ok tt) × (size_for 32 ≤ length d)
unfolding start_call
start-accepted n openings d z = store_accepted (started n openings) d z

run-accepted : (p : Protocol) (s d : List ℕ) → (run_call_in p s d).number ≡ 0 → ((ran_in p s).outcome ≡ Ok tt) × (size_for 32 ≤ length d)
unfolding run_call_in
run-accepted p s d z = store_accepted (ran_in p s) d z

-- what is claimed of a record is claimed of the bytes that are it
record_with : (claimed : Fleet → Type 0) (bytes : List ℕ) (f : Fleet) → unpacked bytes ≡ record { outcome = Ok tt; fleet = f } → claimed f → RecordWith claimed bytes
record_with claimed bytes f e c =
    record { whole = ap (λ (a : Answer). a.outcome) e; claim = subst (λ (a : Answer). claimed a.fleet) (sym e) c }

module _ (p : Protocol) where
  -- a claim that holds of lists of steps and of runs holds of them on bytes
  pub holds-on-bytes : (claim : Claim) → HoldsIn p claim → HoldsOnBytes p claim
  holds-on-bytes claim h =
      record {
        steps = λ n openings d steps z.
            (let a = start-accepted n openings d z in
            record_with (claim n openings (round_in (taken n steps)) (length (taken n steps))) (bytes_of p n openings d steps)
            (last_record_in p (started n openings).fleet steps) (bytes_hold p n openings d a.0 a.1 steps) (h.steps n openings steps a.0));
        run = λ s d z.
            (let a = run-accepted p s d z in
            record_with (claim (trucks_of s) (openings_of s) (round_at s) (rounds_of s)) (buffer_of (run_call_in p s d)) (ran_in p s).fleet (run_holds p s d a.0 a.1)
            (h.run s a.0));
      }

  module _ (n : ℕ) (openings d : List ℕ) (steps : List (List ℕ)) (accepted : (started n openings).outcome ≡ Ok tt) (room : size_for 32 ≤ length d)
      (same : SameIn p n openings steps) where
    abbrev last : Fleet
    last = last_record_in p (started n openings).fleet steps

    -- the recording is run into a buffer e
    as_run_lem : (e : List ℕ) → size_for 32 ≤ length e
        → run_call_in p (recording_of n openings steps) e ≡ call_result 0 (filled (λ k. get_or (bytes_of p n openings d steps) k 0) (size_for 32) e ∷ []) []
    unfolding run_call_in
    as_run_lem e fits =
        ap (λ (a : Answer). store_call a e) same.as_run
        ∙ store_whole (record { outcome = Ok tt; fleet = last }) e refl fits
        ∙ ap (λ (l : List ℕ). call_result 0 (l ∷ []) []) (filled_ext (record_byte last) (λ k. get_or (bytes_of p n openings d steps) k 0) (size_for 32) e (λ k l.
        sym (ap (λ (b : List ℕ). get_or b k 0) (bytes-laid p n openings d accepted room steps) ∙ get_or-filled (record_byte last) (size_for 32) d k 0 l)))

    pub same-on-bytes : SameOnBytes p n openings d steps
    same-on-bytes =
        record {
          next_step = λ w. next-number p n openings d accepted room steps w ∙ ap outcome_number (same.next_step w);
          as_run = as_run_lem;
          same_record = λ e fits.
              run_holds p (recording_of n openings steps) e (ap (λ (a : Answer). a.outcome) same.as_run) fits
              ∙ ap (λ (a : Answer). record { outcome = Ok tt; fleet = a.fleet }) same.as_run
              ∙ sym (bytes_hold p n openings d accepted room steps);
        }

  -- the whole of demand 3
  pub demand-on-bytes : (marks : Marks) → DemandIn p marks → DemandOnBytes p marks
  demand-on-bytes marks demand =
      record {
        agreement = holds-on-bytes (agrees_with marks) demand.agreement;
        deciding = holds-on-bytes (decides_in p) demand.deciding;
        same = λ n openings d steps z.
            (let a = start-accepted n openings d z in
            same-on-bytes n openings d steps a.0 a.1 (demand.same n openings steps a.0));
      }

pub bytes-demand : BytesDemand
bytes-demand = demand-on-bytes two_round MajorityMarks demand_3

pub six-bytes-demand : SixBytesDemand
six-bytes-demand = demand-on-bytes six_round ZeroMarks six-demand

pub mixed_bytes-agreement : MixedBytesAgreement
mixed_bytes-agreement = holds-on-bytes two_round (agrees_with MixedMarks) mixed_agreement

pub bytes-sent-counts : BytesSentCounts
bytes-sent-counts = holds-on-bytes two_round counts_sent sent-counts

-- ---- by a grade

-- each grade stands in its place
grade_placed : (c : Class) (g : Grades) (rest : List ℕ) → get_or (g.complete ∷ g.majority ∷ g.zero ∷ g.accurate ∷ rest) (grade_place c) 0 ≡ grade_of c g
grade_placed Complete g rest = refl
grade_placed MajorityComplete g rest = refl
grade_placed ZeroComplete g rest = refl
grade_placed Accurate g rest = refl

-- a grading that answers 0 was given
grade_accepted : (p : Protocol) (c : Class) (s d : List ℕ) → (grade_call_in p s d).number ≡ 0
    → (g : Grades) × (graded_in p s ≡ Ok g) × (get_or (buffer_of (grade_call_in p s d)) (grade_place c) 0 ≡ grade_of c g)
unfolding grade_call_in
grade_accepted p c s d z = go (graded_in p s) z
  where
    fits : (b : Bool) (g : Grades) → let values = g.complete ∷ g.majority ∷ g.zero ∷ g.accurate ∷ drop 4 d in
        let l = cond b (call_result (number_of ShortBuffer) (d ∷ []) []) (call_result 0 (values ∷ []) []) in
        l.number ≡ 0 → get_or (buffer_of l) (grade_place c) 0 ≡ grade_of c g
    fits true g z = absurd (omega arith)
    fits false g z = grade_placed c g (drop 4 d)

    go : (x : Result Grades Refusal) → (grade_result (grade_answer x) d).number ≡ 0
        → (g : Grades) × (x ≡ Ok g) × (get_or (buffer_of (grade_result (grade_answer x) d)) (grade_place c) 0 ≡ grade_of c g)
    go (Ok g) z = (g, refl, fits (ltb (length d) 4) g z)
    go (Err r) z =
        let e : number_of r ≡ 0 = ap (λ (x : CallResult). x.number) (grades-refused d (Err r) r (number_of r) refl refl) ∙ z in
        absurd (omega (arith, (number_range r).0))

pub grade_on-bytes : (p : Protocol) (c : Class) → AgreesByGrade p c → BytesAgreeByGrade p c
grade_on-bytes p c agrees =
    record {
      steps = λ n openings d grades steps z h.
          (let a = start-accepted n openings d z in
          let g = grade_accepted p c (recording_of n openings steps) grades h.0 in
          record_with (Agreed n openings) (bytes_of p n openings d steps) (last_record_in p (started n openings).fleet steps)
          (bytes_hold p n openings d a.0 a.1 steps) (agrees.steps n openings steps g.0 a.0 g.1 (sym g.2 ∙ h.1)));
      run = λ s d grades z h.
          (let a = run-accepted p s d z in
          let g = grade_accepted p c s grades h.0 in
          record_with (Agreed (trucks_of s) (openings_of s)) (buffer_of (run_call_in p s d)) (ran_in p s).fleet (run_holds p s d a.0 a.1)
          (agrees.run s g.0 g.1 (sym g.2 ∙ h.1)));
    }

-- in the two-round cycle where the grade of majority complete is 0, in the six-round cycle where that of zero complete is
pub two_grade_bytes : BytesAgreeByGrade two_round MajorityComplete
two_grade_bytes = grade_on-bytes two_round MajorityComplete two_grade

pub six_grade_bytes : BytesAgreeByGrade six_round ZeroComplete
six_grade_bytes = grade_on-bytes six_round ZeroComplete six_grade
