-- A run by sets, from round to round and to its end.
use mathlib.Core.Path.{◌≡◌, refl, ap, ap₂, sym, subst, subst₂, ◌∙◌}
use mathlib.Core.Bool.{Bool, true, false, cond, not, ◌&&◌, ◌||◌, and-false, true≢false, false≢true}
use mathlib.Core.List.{List, []}
use Prim.Native.Nat.{ℕ, suc, ◌+◌, ◌*◌, ◌-◌, ◌%◌, ◌^◌, ◌≤◌, ◌<◌}
use native.Mathlib.Nat.{mul-le-mul}
use native.Mathlib.Numerals.{add-one}
use native.Mathlib.Decide.{dec_lt, ℕ_discrete}
use native.Mathlib.Omega.{arith}
use borrow.Author.Tests.{eq-eqb, ne_eqb, eqb-true, eqb-false, lt-ltb, le-ltb, not-false}
use lib.Bits.{bit_and, bit_or, and_le_l, and_zero_l, and_zero_r}
use lib.Pow.{pow-lt}
use lib.Dec.{eqb, ltb, lit<}
use lib.ListN.{length, get_or, replicate}
use lib.Seq.{ext_get_or}
use Rattle.std.specs.Prelude.{Ok}
use Rattle.radio.specs.Runs.{state_at}
use Rattle.basics.specs.Bits.{bit, odd}
use Rattle.basics.specs.Lists.{filled, first}
use Rattle.basics.proofs.Laws.{zeros, or_left, or_right, odd-suc, first_unique, get_or-filled, get_or-filled_past, length-filled, length-tab, get_or-tab}
use Rattle.basics.proofs.Bits.{bit-and, bit-or}
use Rattle.sets.proofs.Words.{bit_power, bit-zero, no_bits}
use Rattle.recording.specs.Packed.{trucks_of, rounds_of, counts_of, opening_at, openings_into, openings_of, word_place, round_place, round_at}
use Rattle.recording.specs.declared.Counts.{Counts}
use Rattle.recording.specs.Checks.{frame_check}
use Rattle.recording.proofs.Fronts.{counts-trucks, front-opening, front-small}
use Rattle.recording.proofs.Accepted.{frame_good}
use Rattle.protocol.specs.declared.Cycle.{Cycle}
use Rattle.protocol.specs.declared.Cycle.TheVariants.{TwoRound, SixRound}
use Rattle.protocol.specs.declared.Heard.{Heard}
use Rattle.protocol.specs.declared.Heard.TheVariants.{Nothing}
use Rattle.protocol.specs.declared.Sent.{Sent}
use Rattle.protocol.specs.declared.Truck.{Truck}
use Rattle.protocol.specs.Cycles.{Rules, after_in}
use Rattle.protocol.specs.Rules.{recorded, opened, truck, is_one, is_several, two_rules}
use Rattle.protocol.specs.Runs.{opened_trucks, trucks_in}
use Rattle.protocol.specs.Fleets.{Protocol, fleet_in, two_round, chosen}
use Rattle.radio.specs.Round.{active_bit}
use Rattle.protocol.proofs.Opened.{length-opened, truck_unopened}
use Rattle.protocol.proofs.OneRound.{sound_two}
use Rattle.protocol.proofs.SixRound.{sound-six}
use Rattle.protocol.proofs.Good.{good-at}
use Rattle.protocol.proofs.Rules.{counts-few}
use Rattle.protocol.proofs.AnyRound.{Takes}
use Rattle.protocol.proofs.AnyRun.{at_suc, opened-truck, throughout, estimates-open, kept}
use Rattle.playback.specs.declared.replay.Proposed.{Proposed}
use Rattle.playback.specs.declared.replay.Vetoed.{Vetoed}
use Rattle.playback.specs.declared.replay.Sets.{Sets}
use Rattle.sets.specs.Sets.{without}
use Rattle.counters.specs.Counters.{counted_up, in_use}
use Rattle.counters.proofs.Counts.{tally-none, tally_used}
use Rattle.playback.specs.Sets.{Sorted, was_heard}
use Rattle.recording.proofs.RoundTrip.{openings-read}
use Rattle.playback.specs.Sets.{estimates}
use Rattle.playback.specs.Replays.{fleet_after, grades_after, FoundAfter}
use Rattle.playback.specs.Grading.{carried_by, RadioSets, Judges}
use Rattle.protocol.specs.declared.Grades.{Grades}
use Rattle.playback.proofs.Graded.{radio_after, grades-next, grades-idle}
use Rattle.playback.specs.Standing.{AsRecorded, ReadsAs, Active, word_from, next_trucks, holds, trucks_after, state_of, memory_of, standing, sent_by, truck_by, fleet_by, Stands, Proposes, Vetoes, noted, Fresh, Due, Halted, all_of, Opens}
use Rattle.playback.proofs.Reading.{word_here, place-small, place-next}
use Rattle.playback.proofs.Places.{read-bit, everyone_lt, everyone_in, everyone_out, turn-back}
use Rattle.playback.proofs.Stood.{runs_is, memory_back}
use Rattle.playback.proofs.StoodTwo.{proposal_stands, veto-stands, veto_ended, proposal_radio, veto-radio}

-- estimates are openings or heard, in the cycle that a caller chose
pub takes_in : (c : Cycle) → Takes (chosen c).rules
takes_in TwoRound = sound_two.takes
takes_in SixRound = sound-six.takes

-- what the rounds of a recording have in common
module _ (s : List ℕ) (good : frame_check s ≡ Ok tt) where
  pub few : trucks_of s ≤ 32
  few = (frame_good s good).most

  pub small : (rules : Rules recorded) (rounds : ℕ → List ℕ) → Takes rules → (k j : ℕ) → j < trucks_of s → estimates (trucks_after rules rounds s k) j < 16
  small rules rounds takes k j l =
      let e = estimates-open rules (trucks_of s) (openings_of s) rounds few takes k j l in
      omega (arith, e.2, (openings-read s).opening e.0 e.1)

  -- in the two-round cycle no count comes near 255
  room : (rounds : ℕ → List ℕ) (k j : ℕ) → k ≤ 400 → j < trucks_of s → ((truck (trucks_after two_rules rounds s k) j).sent.proposals < 255) × ((truck (trucks_after two_rules rounds s k) j).sent.vetoes < 255)
  room rounds k j few-rounds l =
      let g = good-at two_round sound_two (trucks_of s) (openings_of s) few (openings-read s) rounds k j l in
      let c = counts-few k (truck (trucks_after two_rules rounds s k) j).sent few-rounds g.counts in
      (omega (arith, c.0), omega (arith, c.1))

  pub read_as_lem : (rounds : ℕ → List ℕ) → AsRecorded rounds s → (k at : ℕ) → at ≡ round_place (trucks_of s) k → ReadsAs s at (trucks_of s) (rounds k)
  read_as_lem rounds words k at e i j ne li l =
      read-bit s (at + i * trucks_of s) (trucks_of s) j few l
      ∙ ap (λ (x : ℕ). bit x j) (word_here s k i (at + i * trucks_of s) li (ap (λ (x : ℕ). x + i * trucks_of s) e) ∙ sym (words k i ne))

  -- who is active, by the active bits
  pub read-active : (k at running : ℕ) → at ≡ round_place (trucks_of s) k → Active (trucks_of s) running (round_at s k) (word_from s (at + trucks_of s))
  read-active k at running e j l r =
      read-bit s (at + trucks_of s) (trucks_of s) j few l
      ∙ ap (λ (x : ℕ). bit x j) (word_here s k 1 (at + trucks_of s) (omega arith) (omega (arith, e)))

-- ---- round by round
module _ {rules : Rules recorded} {rounds : ℕ → List ℕ} {s : List ℕ} {at n left k : ℕ} {by ends sent : List ℕ} {running decided marked one several unwilling until : ℕ}
    (d : Due rules rounds s at n left k by ends sent running decided marked one several unwilling until) where
  pub due-few : n ≤ 32
  due-few = omega (arith, d.count, few s d.good)

  pub at_place : at ≡ round_place (trucks_of s) k
  at_place = d.place ∙ ap (λ (m : ℕ). round_place m k) d.count

  -- the run has come to its end
  pub halts : (eqb left 0 || eqb running 0 || not (eqb (bit_and decided until) 0)) ≡ true
      → Halted rules rounds s (k + left) by ends sent until
      (record { running = running; decided = decided; marked = marked; one = one; several = several; unwilling = unwilling; done = k })
  halts h =
      record {
        good = d.good;
        stands = d.stands;
        most = omega arith;
        over = λ some none. go (eqb left 0) refl (eqb running 0) refl (eqb (bit_and decided until) 0) (eq-eqb (bit_and decided until) 0 none) h some;
        fresh = d.fresh;
      }
    where
      go : (x : Bool) → eqb left 0 ≡ x → (y : Bool) → eqb running 0 ≡ y → (z : Bool) → z ≡ true → (x || y || not z) ≡ true → (running ≡ 0 → ⊥) → k ≡ k + left
      go true ex y ey z ez e some = omega (arith, eqb-true left 0 ex)
      go false ex true ey z ez e some = absurd (some (eqb-true running 0 ey))
      go false ex false ey true ez e some = absurd (false≢true e)
      go false ex false ey false ez e some = absurd (false≢true ez)

  module _ (on : (eqb left 0 || eqb running 0 || not (eqb (bit_and decided until) 0)) ≡ false) where
    pub due-left : left ≡ 0 → ⊥
    due-left = eqb-false left 0 (or_left (eqb left 0) (eqb running 0) (or_left (eqb left 0 || eqb running 0) (not (eqb (bit_and decided until) 0)) on))

    -- none of `until` has decided yet
    none_yet : bit_and decided until ≡ 0
    none_yet = eqb-true (bit_and decided until) 0 (not-false (eqb (bit_and decided until) 0) (or_right (eqb left 0 || eqb running 0) (not (eqb (bit_and decided until) 0)) on))

    due_more : 0 < left
    due_more = go (dec_lt 0 left)
      where
        go : Dec (0 < left) → 0 < left
        go (yes l) = l
        go (no h) = absurd (due-left (omega arith))

    -- the numbers of the next round are small
    pub due_room : (n ≤ 32) × (((3 + n) * n ≤ 35 * 32) × ((at < 450000) × ((0 < left) × (k < 400))))
    due_room = (
      due-few,
      (
        mul-le-mul (let z : 3 + n ≤ 35 = omega (arith, due-few) in z) due-few,
        (omega (arith, at_place, place-small s k (few s d.good) (omega (arith, due_more, d.most))), (due_more, omega (arith, due_more, d.most))),
      ),
    )

    further : at + (3 + n) * n ≡ round_place n (k + 1)
    further =
        ap₂ (λ (x m : ℕ). x + (3 + m) * m) at_place d.count ∙ place-next s k ∙ sym (ap (λ (m : ℕ). round_place m (k + 1)) d.count)

    -- the sets after the next round, as the code counts
    pub recount : (who : ℕ) {by' sent' : List ℕ} {running' decided' marked' one' several' unwilling' : ℕ} (ends' : List ℕ) (left' : ℕ) → ends' ≡ filled (noted ends who (k + 1)) 32 ends → left' ≡ left - 1
        → Stands (trucks_of s) (k + left) (suc k) (opening_at s) (next_trucks rules (trucks_of s) k (rounds k) (trucks_after rules rounds s k)) by' (filled (noted ends who (suc k)) 32 ends) sent' running' decided' marked' one' several' unwilling'
        → Fresh (trucks_of s) (suc k) (filled (noted ends who (suc k)) 32 ends) decided' until
        → Due rules rounds s (at + (3 + n) * n) n left' (k + 1) by' ends' sent' running' decided' marked' one' several' unwilling' until
    recount who {by'} {sent'} {running'} {decided'} {marked'} {one'} {several'} {unwilling'} ends' left' ee el st fr =
        let f : k + left ≡ k + 1 + left' = omega (arith, due_more, el) in
        record {
          good = d.good;
          words = d.words;
          stands = subst (λ (x : List ℕ). Stands (trucks_of s) (k + 1 + left') (k + 1) (opening_at s) (trucks_after rules rounds s (k + 1)) by' x sent' running' decided' marked' one' several' unwilling') (sym ee)
              (subst₂ (λ (x y : ℕ). Stands (trucks_of s) x y (opening_at s) (trucks_after rules rounds s y) by' (filled (noted ends who y) 32 ends) sent' running' decided' marked' one' several' unwilling') f (sym (add-one k))
              (subst (λ (x : List Truck). Stands (trucks_of s) (k + left) (suc k) (opening_at s) x by' (filled (noted ends who (suc k)) 32 ends) sent' running' decided' marked' one' several' unwilling') (sym (at_suc rules (trucks_of s) (openings_of s) rounds k)) st));
          most = omega (arith, f, d.most);
          count = d.count;
          place = further;
          fresh = subst (λ (x : List ℕ). Fresh (trucks_of s) (k + 1) x decided' until) (sym ee)
              (subst (λ (y : ℕ). Fresh (trucks_of s) y (filled (noted ends who y) 32 ends) decided' until) (sym (add-one k)) fr);
        }

    -- the grades with the round
    pub graded-next : (judging : Bool) {going senders mark : ℕ} → RadioSets (radio_after rules rounds s k) s (at + 3 * trucks_of s) (trucks_of s) going senders mark → {l l' : List ℕ} → FoundAfter rules rounds s judging k l
        → Judges judging s (at + 3 * n) n (k + 1) going senders mark l l' → FoundAfter rules rounds s judging (k + 1) l'
    graded-next judging {going} {senders} {mark} radio_sets {l} {l'} found h =
        record {
          four = h.four;
          grades = h.grades (radio_after rules rounds s k) (subst (λ (m : ℕ). RadioSets (radio_after rules rounds s k) s (at + 3 * m) m going senders mark) (sym d.count) radio_sets)
              ∙ ap₂ (λ (x : Grades) (j : ℕ). cond judging (carried_by x (radio_after rules rounds s k) j) x) found.grades (add-one k)
              ∙ sym (ap (grades_after rules rounds s judging) (add-one k) ∙ grades-next rules rounds s judging k);
        }

    pub same_end : {by' ends' sent' : List ℕ} {r : Sets} → Halted rules rounds s (k + 1 + (left - 1)) by' ends' sent' until r → Halted rules rounds s (k + left) by' ends' sent' until r
    same_end {by'} {ends'} {sent'} {r} h = subst (λ (x : ℕ). Halted rules rounds s x by' ends' sent' until r) (let e : k + 1 + (left - 1) ≡ k + left = omega (arith, due_more) in e) h

-- ---- a round of the two-round cycle
module _ {rounds : ℕ → List ℕ} {s : List ℕ} {at n left k : ℕ} {by ends sent : List ℕ} {running decided marked one several until : ℕ} (d : Due two_rules rounds s at n left k by ends sent running decided marked one several 0 until) where
  pub due-small : (j : ℕ) → j < trucks_of s → estimates (trucks_after two_rules rounds s k) j < 16
  due-small = small s d.good two_rules rounds sound_two.takes k

  pub due-counts : (j : ℕ) → j < trucks_of s → ((truck (trucks_after two_rules rounds s k) j).sent.proposals < 255) × ((truck (trucks_after two_rules rounds s k) j).sent.vetoes < 255)
  due-counts j l = room s d.good rounds k j (omega (arith, d.most)) l

module _ {rounds : ℕ → List ℕ} {s : List ℕ} {at n left k : ℕ} {by ends sent : List ℕ} {running decided marked one several until : ℕ} (d : Due two_rules rounds s at n left k by ends sent running decided marked one several 0 until)
    (on : (eqb left 0 || eqb running 0 || not (eqb (bit_and decided until) 0)) ≡ false) where
  pub proposal_next : odd k ≡ false → {active : ℕ} → Active (trucks_of s) running (rounds k) active → {by' : List ℕ} {r : Proposed} → Proposes s at n left running active by by' r → (who : ℕ) (ends' sent' : List ℕ) → who ≡ without running r.going
      → ends' ≡ filled (noted ends who (k + 1)) 32 ends → sent' ≡ counted_up sent r.senders
      → Due two_rules rounds s (at + (3 + n) * n) n (left - 1) (k + 1) by' ends' sent' r.going decided r.mark r.one r.several 0 until × (odd (k + 1) ≡ true)
  proposal_next o {active} actives {by'} {r} p who ends' sent' ew ee es = (
    recount d on (without running r.going) ends' (left - 1) (ee ∙ ap (λ (x : ℕ). filled (noted ends x (k + 1)) 32 ends) ew) refl
        (subst (λ (x : List ℕ). Stands (trucks_of s) (k + left) (suc k) (opening_at s) (next_trucks two_rules (trucks_of s) k (rounds k) (trucks_after two_rules rounds s k)) by' (filled (noted ends (without running r.going) (suc k)) 32 ends) x r.going decided r.mark r.one r.several 0) (sym es)
        (proposal_stands d.stands (few s d.good) (due-small d) (due-counts d) s at (rounds k) (read_as_lem s d.good rounds d.words k at (at_place d)) (odd-suc k ∙ ap not o) left refl active actives (subst (λ (m : ℕ). Proposes s at m left running active by by' r) d.count p)))
        (λ j l h. absurd (true≢false (sym h ∙ ap (λ (x : ℕ). holds x j) (none_yet d on) ∙ bit-zero (31 - j)))),
    ap odd (add-one k) ∙ odd-suc k ∙ ap not o,
  )

  pub veto-next : odd k ≡ true → {r : Vetoed} → Vetoes s at n running marked one several r → (who : ℕ) (ends' sent' : List ℕ) → who ≡ without running r.on
      → ends' ≡ filled (noted ends who (k + 1)) 32 ends → sent' ≡ counted_up sent (r.senders * 2 ^ 32 % 2 ^ 64)
      → Due two_rules rounds s (at + (3 + n) * n) n (left - 1) (k + 1) by ends' sent' r.on (bit_or decided r.done) 0 0 0 0 until × (odd (k + 1) ≡ false)
  veto-next o {r} p who ends' sent' ew ee es = (
    recount d on (without running r.on) ends' (left - 1) (ee ∙ ap (λ (x : ℕ). filled (noted ends x (k + 1)) 32 ends) ew) refl
        (subst (λ (x : List ℕ). Stands (trucks_of s) (k + left) (suc k) (opening_at s) (next_trucks two_rules (trucks_of s) k (rounds k) (trucks_after two_rules rounds s k)) by (filled (noted ends (without running r.on) (suc k)) 32 ends) x r.on (bit_or decided r.done) 0 0 0 0) (sym es)
        (veto-stands d.stands (few s d.good) (due-small d) (due-counts d) s at (rounds k) (read_as_lem s d.good rounds d.words k at (at_place d)) (odd-suc k ∙ ap not o) (subst (λ (m : ℕ). Vetoes s at m running marked one several r) d.count p)))
        (λ j l h.
        veto_ended d.stands (few s d.good) (due-small d) (due-counts d) s at (rounds k) (read_as_lem s d.good rounds d.words k at (at_place d)) (odd-suc k ∙ ap not o) (subst (λ (m : ℕ). Vetoes s at m running marked one several r) d.count p) j l
        (new (holds decided j) (holds r.done j) (holds until j) (sym (bit-and decided until (31 - j)) ∙ ap (λ (x : ℕ). holds x j) (none_yet d on) ∙ bit-zero (31 - j))
        (sym (bit-and (bit_or decided r.done) until (31 - j) ∙ ap (λ (b : Bool). b && holds until j) (bit-or decided r.done (31 - j))) ∙ h))),
    ap odd (add-one k) ∙ odd-suc k ∙ ap not o,
  )
    where
      new : (x y u : Bool) → (x && u) ≡ false → ((x || y) && u) ≡ true → y ≡ true
      new true y true e f = absurd (true≢false e)
      new true y false e f = absurd (false≢true f)
      new false true u e f = refl
      new false false u e f = absurd (false≢true f)

  pub proposal_graded : odd k ≡ false → {active : ℕ} → Active (trucks_of s) running (rounds k) active → {by' : List ℕ} {r : Proposed} → Proposes s at n left running active by by' r → (judging : Bool) {l l' : List ℕ}
      → FoundAfter two_rules rounds s judging k l → Judges judging s (at + 3 * n) n (k + 1) r.going r.senders r.mark l l' → FoundAfter two_rules rounds s judging (k + 1) l'
  proposal_graded o {active} actives {by'} {r} p judging =
      graded-next d on judging (proposal_radio d.stands (few s d.good) (due-small d) (due-counts d) s at (rounds k) (read_as_lem s d.good rounds d.words k at (at_place d)) (odd-suc k ∙ ap not o) left refl active actives (subst (λ (m : ℕ). Proposes s at m left running active by by' r) d.count p))

  pub veto-graded : odd k ≡ true → {r : Vetoed} → Vetoes s at n running marked one several r → (judging : Bool) {l l' : List ℕ}
      → FoundAfter two_rules rounds s judging k l → Judges judging s (at + 3 * n) n (k + 1) r.going r.senders r.mark l l' → FoundAfter two_rules rounds s judging (k + 1) l'
  veto-graded o {r} p judging =
      graded-next d on judging (veto-radio d.stands (few s d.good) (due-small d) (due-counts d) s at (rounds k) (read_as_lem s d.good rounds d.words k at (at_place d)) (odd-suc k ∙ ap not o) (subst (λ (m : ℕ). Vetoes s at m running marked one several r) d.count p))

-- the same for a run of the rounds as they were recorded
module _ {rules : Rules recorded} {s : List ℕ} {at n left k : ℕ} {by ends sent : List ℕ} {running decided marked one several unwilling until : ℕ}
    (d : Due rules (round_at s) s at n left k by ends sent running decided marked one several unwilling until) where
  pub due-active : Active (trucks_of s) running (round_at s k) (word_from s (at + n))
  due-active j l r = ap (λ (m : ℕ). holds (word_from s (at + m)) j) d.count ∙ read-active s d.good k at running (at_place d) j l r

-- ---- the record at the end
-- the places of a run's record
module _ (rules : Rules recorded) (n : ℕ) (openings : List ℕ) (rounds : ℕ → List ℕ) (m : n ≤ 32) where
  length-after : (active : ℕ → Bool) (k : ℕ) (w : List ℕ) (ts : List Truck) → length ts ≡ 32 → length (after_in rules n active k w ts) ≡ 32
  unfolding after_in
  length-after active k w ts e = length-filled _ n ts (omega arith) ∙ e

  places : (k : ℕ) → length (trucks_in rules n openings rounds k) ≡ 32
  unfolding trucks_in state_at
  places k =
      throughout rules n openings rounds (λ k ts. length ts ≡ 32) k start (λ j l h. length-after (active_bit (rounds j)) (suc j) (rounds j) (trucks_in rules n openings rounds j) h) k (omega arith)
    where
      start : length (trucks_in rules n openings rounds 0) ≡ 32
      start = length-opened openings

-- crusher c is that of the truck at place q
own_there : (b q : ℕ) (x : Bool) → q < 32 → bit b q ≡ x → not (eqb (bit_and (2 ^ q) b) 0) ≡ x
own_there b q true l e =
    ap not (ne_eqb (bit_and (2 ^ q) b) 0 (λ z. true≢false (sym (bit-and (2 ^ q) b q ∙ ap₂ ◌&&◌ (bit_power q q ∙ eq-eqb q q refl) e) ∙ ap (λ (w : ℕ). bit w q) z ∙ bit-zero q)))
own_there b q false l e =
    ap not (eq-eqb (bit_and (2 ^ q) b) 0 (no_bits (bit_and (2 ^ q) b) 32 (omega (arith, and_le_l (2 ^ q) b, pow-lt l))
    (λ j lj. bit-and (2 ^ q) b j ∙ ap (λ (y : Bool). y && bit b j) (bit_power q j) ∙ go j (ℕ_discrete q j))))
  where
    go : (j : ℕ) → Dec (q ≡ j) → (eqb q j && bit b j) ≡ false
    go j (yes h) = ap (λ (y : Bool). eqb q j && y) (ap (bit b) (sym h) ∙ e) ∙ and-false (eqb q j)
    go j (no h) = ap (λ (y : Bool). y && bit b j) (ne_eqb q j h)

-- places past the trucks
unused : (rules : Rules recorded) (rounds : ℕ → List ℕ) (s : List ℕ) (k j : ℕ) → trucks_of s ≤ j → truck (trucks_after rules rounds s k) j ≡ opened 0
unfolding trucks_in state_at openings_of after_in
unused rules rounds s k j h =
    throughout rules (trucks_of s) (openings_of s) rounds (λ i ts. truck ts j ≡ opened 0) k
    (truck_unopened (openings_of s) j (omega (arith, h, length-tab (opening_at s) (trucks_of s))))
    (λ i l e. get_or-filled_past _ (trucks_of s) (trucks_after rules rounds s i) j (opened 0) h ∙ e) k (omega arith)

module _ (p : Protocol) {rounds : ℕ → List ℕ} {s : List ℕ} {last until : ℕ} {by ends sent : List ℕ} {b : Sets} (takes : Takes p.rules) (h : Halted p.rules rounds s last by ends sent until b) where
  abbrev then-held : List Truck
  then-held = trucks_after p.rules rounds s b.done

  pub estimate_is : (j : ℕ) → j < trucks_of s → first (was_heard by (2 ^ (31 - j))) 16 ≡ (truck (trucks_after p.rules rounds s b.done) j).estimate
  estimate_is j l =
      first_unique (was_heard by (2 ^ (31 - j))) 16 (truck then-held j).estimate (omega (arith, small s h.good p.rules rounds takes b.done j l))
      (λ c o. is c (omega (arith, small s h.good p.rules rounds takes b.done j l)) ∙ ne_eqb (truck then-held j).estimate c (λ e. omega arith)) (λ o. is (truck then-held j).estimate o ∙ eq-eqb (truck then-held j).estimate (truck then-held j).estimate refl)
    where
      is : (c : ℕ) → c < 16 → was_heard by (2 ^ (31 - j)) c ≡ eqb (truck then-held j).estimate c
      is c lc =
          own_there (get_or by c 0) (31 - j) (eqb (truck then-held j).estimate c) (omega arith)
          (h.stands.sorted c lc j (omega (arith, few s h.good)) ∙ ap (λ (y : Bool). y && eqb (truck then-held j).estimate c) (lt-ltb j (trucks_of s) l))

module _ (p : Protocol) {rounds : ℕ → List ℕ} {s : List ℕ} {last : ℕ} {by ends sent : List ℕ} {b : Sets} (takes : Takes p.rules) (h : Halted p.rules rounds s last by ends sent 0 b) where
  abbrev then : List Truck
  then = trucks_after p.rules rounds s b.done

  -- the rounds that are left leave the trucks as they are
  stays : (j : ℕ) → j < trucks_of s → truck (trucks_after p.rules rounds s last) j ≡ truck then j
  stays j l = go (ℕ_discrete b.running 0)
    where
      go : Dec (b.running ≡ 0) → truck (trucks_after p.rules rounds s last) j ≡ truck then j
      go (no some) = ap (λ (k : ℕ). truck (trucks_after p.rules rounds s k) j) (sym (h.over some (and_zero_r b.decided)))
      go (yes none) =
          ap (λ (k : ℕ). truck (trucks_after p.rules rounds s k) j) (let e : last ≡ b.done + (last - b.done) = omega (arith, h.most) in e)
          ∙ kept p.rules (trucks_of s) (openings_of s) rounds j l b.done (last - b.done) (runs_is h.stands j l ∙ ap (λ (x : ℕ). holds x j) none ∙ bit-zero (31 - j))

  -- nor do they break a class
  grades_ended : (judging : Bool) → grades_after p.rules rounds s judging b.done ≡ grades_after p.rules rounds s judging last
  grades_ended judging = go (ℕ_discrete b.running 0)
    where
      go : Dec (b.running ≡ 0) → grades_after p.rules rounds s judging b.done ≡ grades_after p.rules rounds s judging last
      go (no some) = ap (grades_after p.rules rounds s judging) (h.over some (and_zero_r b.decided))
      go (yes none) =
          sym (ap (grades_after p.rules rounds s judging) (let e : last ≡ b.done + (last - b.done) = omega (arith, h.most) in e)
          ∙ grades-idle p.rules rounds s b.done (λ j l. runs_is h.stands j l ∙ ap (λ (x : ℕ). holds x j) none ∙ bit-zero (31 - j)) judging (last - b.done))

  pub found_ended : (judging : Bool) (l : List ℕ) {R : ℕ} → last ≡ R → FoundAfter p.rules rounds s judging b.done l → FoundAfter p.rules rounds s judging R l
  found_ended judging l e f = record { four = f.four; grades = f.grades ∙ grades_ended judging ∙ ap (grades_after p.rules rounds s judging) e }

  heard-then : (j : ℕ) → j < trucks_of s → (r : Bool) → holds b.running j ≡ r → cond r (truck then j).heard Nothing ≡ cond r (memory_of (holds b.one j) (holds b.several j)) Nothing
  heard-then j l true e =
      let m = h.stands.heard j l e (λ x. h.over (λ z. true≢false (sym e ∙ ap (λ (y : ℕ). holds y j) z ∙ bit-zero (31 - j))) (and_zero_r b.decided)) in
      sym (memory_back (truck then j).heard) ∙ ap₂ memory_of m.0 m.1
  heard-then j l false e = refl

  pub truck_ended : (j : ℕ) → j < trucks_of s
      → truck_by b by (opening_at s j) (get_or ends j 0) (sent_by sent (in_use sent 8) (31 - j)) (31 - j) ≡ truck (trucks_after p.rules rounds s last) j
  truck_ended j l =
      sym (stays j l ∙ h.stands.each j l
      ∙ ap₂ (λ (e : ℕ) (x : Heard). record { opening = opening_at s j; estimate = e; mark = holds b.running j && holds b.marked j; heard = x; unwilling = holds b.running j && holds b.unwilling j; state = state_of (holds b.running j) (holds b.decided j) (get_or ends j 0); sent = (truck then j).sent })
      (sym (estimate_is p takes h j l)) (heard-then j l (holds b.running j) refl)
      ∙ ap (λ (c : Sent). truck_by b by (opening_at s j) (get_or ends j 0) c (31 - j))
      (h.stands.counts j l ∙ sym (ap₂ (λ (x y : ℕ). record { proposals = x; vetoes = y }) (tally_used sent 8 (31 - j)) (tally_used sent 8 (32 + (31 - j))))))

  -- the record is that of the run
  pub fleet_ended : (c : Counts) (openings : List ℕ) → c ≡ counts_of s → ((j : ℕ) → j < trucks_of s → get_or openings j 0 ≡ opening_at s j) → c.rounds ≡ last → fleet_by c openings b by ends sent ≡ fleet_after p rounds s last
  unfolding fleet_in
  fleet_ended c openings met opens done =
      ap₂ (λ (m k : ℕ). record { n = m; done = k; trucks = filled built m (opened_trucks []) }) count done
      ∙ ap (λ (x : List Truck). record { n = trucks_of s; done = last; trucks = x })
      (ext_get_or (opened 0) (filled built (trucks_of s) (opened_trucks [])) (trucks_after p.rules rounds s last)
      (length-filled built (trucks_of s) (opened_trucks []) (omega (arith, few s h.good, length-opened [])) ∙ length-opened []
      ∙ sym (places p.rules (trucks_of s) (openings_of s) rounds (few s h.good) last)) (λ j o. each j (dec_lt j (trucks_of s))))
    where
      count : c.trucks ≡ trucks_of s
      count = counts-trucks s c met

      built : ℕ → Truck
      built i = truck_by b by (get_or openings i 0) (get_or ends i 0) (sent_by sent (in_use sent 8) (31 - i)) (31 - i)

      each : (j : ℕ) → Dec (j < trucks_of s) → get_or (filled built (trucks_of s) (opened_trucks [])) j (opened 0) ≡ get_or (trucks_after p.rules rounds s last) j (opened 0)
      each j (yes l) =
          get_or-filled built (trucks_of s) (opened_trucks []) j (opened 0) l
          ∙ ap (λ (o : ℕ). truck_by b by o (get_or ends j 0) (sent_by sent (in_use sent 8) (31 - j)) (31 - j)) (opens j l)
          ∙ truck_ended j l
      each j (no l) =
          get_or-filled_past built (trucks_of s) (opened_trucks []) j (opened 0) (omega arith)
          ∙ truck_unopened [] j (omega arith) ∙ sym (unused p.rules rounds s last j (omega arith))

-- ---- before round 1
-- the openings as they were read
module _ (s : List ℕ) (good : frame_check s ≡ Ok tt) (openings : List ℕ) (read : openings ≡ openings_into s (replicate 32 0)) where
  pub openings_are : (j : ℕ) → j < trucks_of s → get_or openings j 0 ≡ opening_at s j
  openings_are j l = front-opening s (replicate 32 0) openings read j l (omega (arith, (frame_good s good).most))

  pub openings-small : (i : ℕ) → get_or openings i 0 < 16
  openings-small = front-small s (replicate 32 0) openings read (λ i. rw (zeros 32 i) (lit< tt))

pub first-few : (s : List ℕ) → frame_check s ≡ Ok tt → (n : ℕ) → n ≡ trucks_of s → (n ≤ 32) × (rounds_of s ≤ 400)
first-few s good n count = (omega (arith, count, (frame_good s good).most), (frame_good s good).rounds)

module _ (rules : Rules recorded) (rounds : ℕ → List ℕ) (s : List ℕ) (good : frame_check s ≡ Ok tt) (n : ℕ) (count : n ≡ trucks_of s) where
  opening-truck : (j : ℕ) → j < trucks_of s → truck (trucks_after rules rounds s 0) j ≡ opened (opening_at s j)
  unfolding openings_of
  opening-truck j l =
      opened-truck rules (trucks_of s) (openings_of s) rounds j (omega (arith, (frame_good s good).most)) ∙ ap opened (get_or-tab (opening_at s) (trucks_of s) j 0 l)

  -- any number of rounds up to 400 may be asked for
  pub first-due : {R : ℕ} → AsRecorded rounds s → (openings : List ℕ) → ((j : ℕ) → j < trucks_of s → get_or openings j 0 ≡ opening_at s j) → (at all until : ℕ) (by : List ℕ) → at ≡ word_place n 0 → R ≤ 400 → all ≡ all_of n → Sorted by 32 all (λ p. get_or openings (31 - p) 0) × (length by ≡ 16)
      → Due rules rounds s at n R 0 by (replicate 32 0) (replicate 8 0) all 0 0 0 0 0 until
  first-due {R} words openings opens at all until by ep most ea (sorted, long) =
      record {
        good = good;
        words = words;
        stands = record {
          crushers = long;
          places = refl;
          digits = refl;
          counts = λ j l.
              ap (λ (t : Truck). t.sent) (opening-truck j l)
              ∙ sym (ap₂ (λ (x y : ℕ). record { proposals = x; vetoes = y }) (tally-none (replicate 8 0) 8 (31 - j) (zeros 8)) (tally-none (replicate 8 0) 8 (32 + (31 - j)) (zeros 8)));
          fits = rw ea (everyone_lt n (first-few s good n count).0);
          none = λ j h l. ap (λ (x : ℕ). holds x j) ea ∙ everyone_out n j (omega (arith, count)) l;
          apart = λ j l h. bit-zero (31 - j);
          each = λ j l. let e = opening-truck j l in
              e ∙ sym (ap (λ (t : Truck). standing (opening_at s j) t.estimate t.heard true false false false 0 t.sent) e)
              ∙ bits j (truck (trucks_after rules rounds s 0) j).estimate (truck (trucks_after rules rounds s 0) j).heard (truck (trucks_after rules rounds s 0) j).sent (in_all j l);
          heard = λ j l r m. let e = ap (λ (t : Truck). t.heard) (opening-truck j l) in (ap is_one e ∙ sym (bit-zero (31 - j)), ap is_several e ∙ sym (bit-zero (31 - j)));
          sorted = λ c lc j l.
              (sorted c lc).each (31 - j) (omega arith) ∙ ap (λ (x : ℕ). holds all j && eqb (get_or openings x 0) c) (turn-back j l) ∙ go c j l (dec_lt j (trucks_of s));
        };
        most = omega arith;
        count = count;
        place = omega (arith, ep);
        fresh = λ j l h. absurd (true≢false (sym h ∙ ap (λ (x : ℕ). holds x j) (and_zero_l until) ∙ bit-zero (31 - j)));
      }
    where
      in_all : (j : ℕ) → j < trucks_of s → holds all j ≡ true
      in_all j l = ap (λ (x : ℕ). holds x j) ea ∙ everyone_in n j (first-few s good n count).0 (omega (arith, count))

      bits : (j e : ℕ) (x : Heard) (c : Sent) → holds all j ≡ true → standing (opening_at s j) e x true false false false 0 c ≡ standing (opening_at s j) e x (holds all j) (holds 0 j) (holds 0 j) (holds 0 j) (get_or (replicate 32 0) j 0) c
      bits j e x c i = rw (i, bit-zero (31 - j))

      go : (c j : ℕ) → j < 32 → Dec (j < trucks_of s) → (holds all j && eqb (get_or openings j 0) c) ≡ (ltb j (trucks_of s) && eqb (truck (trucks_after rules rounds s 0) j).estimate c)
      go c j l (yes o) =
          ap₂ (λ (x : Bool) (y : ℕ). x && eqb y c) (in_all j o ∙ sym (lt-ltb j (trucks_of s) o)) (opens j o ∙ sym (ap (λ (t : Truck). t.estimate) (opening-truck j o)))
      go c j l (no o) =
          ap (λ (x : Bool). x && eqb (get_or openings j 0) c) (ap (λ (x : ℕ). holds x j) ea ∙ everyone_out n j (omega (arith, count)) l)
          ∙ sym (ap (λ (x : Bool). x && eqb (truck (trucks_after rules rounds s 0) j).estimate c) (le-ltb j (trucks_of s) (omega arith)))

-- the same of a recording's trucks as they were read, in arrays that were lent as zeros
module _ {s openings by : List ℕ} {c : Counts} {all : ℕ} (good : frame_check s ≡ Ok tt) (o : Opens s openings by c all) where
  pub begun_count : c.trucks ≡ trucks_of s
  begun_count = counts-trucks s c o.counts

  pub begun_few : (c.trucks ≤ 32) × (rounds_of s ≤ 400)
  begun_few = first-few s good c.trucks begun_count

  pub begun_openings : (j : ℕ) → j < trucks_of s → get_or openings j 0 ≡ opening_at s j
  begun_openings = openings_are s good openings o.read

  pub begun_due : (rules : Rules recorded) (rounds : ℕ → List ℕ) → AsRecorded rounds s → (at R until : ℕ) (ends sent : List ℕ) → at ≡ word_place c.trucks 0 → R ≤ 400 → ends ≡ replicate 32 0 → sent ≡ replicate 8 0
      → Due rules rounds s at c.trucks R 0 by ends sent all 0 0 0 0 0 until
  begun_due rules rounds words at R until ends sent ep most ee es =
      rw (ee, es)
      (first-due rules rounds s good c.trucks begun_count words openings begun_openings at all until by ep most o.everyone (o.sorted, o.crushers))
