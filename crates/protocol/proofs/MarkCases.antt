-- What agreement asks of marks, computed on four recordings: it is met where marks are not majority complete, not complete and not accurate, and each half of it is
-- needed.
use mathlib.Core.Path.{◌≡◌, refl}
use mathlib.Core.Bool.{Bool, true, false, false≢true}
use mathlib.Core.List.{List, [], ◌∷◌}
use Prim.Native.Nat.{ℕ, zero, suc}
use native.Mathlib.Omega.{arith}
use Rattle.std.specs.Prelude.{Ok}
use Rattle.basics.specs.Bits.{odd}
use Rattle.basics.specs.Lists.{tab_from, tab, filled, all_below, who, first, some_below}
use Rattle.basics.proofs.Laws.{all_below-at}
use Rattle.radio.specs.Radio.{Radio, implies, sent, hears, heard_by, heard, misses, misses_any, judged, complete, majority_complete, zero_complete, accurate}
use Rattle.radio.specs.Runs.{state_at}
use Rattle.recording.specs.Packed.{bit_at, num_at, row_at, trucks_of, rounds_of, opening_at, openings_of, word_at, words_of, round_at, bits_for, bytes_for}
use Rattle.recording.specs.Checks.{too_short, bad_trucks, bad_rounds, bad_length, end_bit, own_bit, own_in, own_loss, own_round, own_truck, own_loss_check, frame_check, own_check, check_of}
use Rattle.protocol.specs.declared.State.{State}
use Rattle.protocol.specs.declared.State.TheVariants.{Running, Decided}
use Rattle.protocol.specs.Cycles.{radio_in, values_in, plays_in, after_in}
use Rattle.protocol.specs.Rules.{truck, all_same, different, least_or}
use Rattle.protocol.specs.Runs.{opened_in, trucks_in, radios_in}
use Rattle.protocol.specs.Fleets.{Protocol, blank, fleet_in, ran_in, ran, two_worth, two_round}
use Rattle.protocol.specs.Claims.{agrees_with, MarksIn, HoldsIn, MajorityMarks, MixedMarks}

-- two trucks open with 3 and 5 and hear each other in rounds 1 and 3; truck 0 has a false mark in round 1; in round 2 both veto, and each hears only its own veto,
-- which is half of two, without a mark
abbrev half_heard : List ℕ
half_heard = 0x08 ∷ 0x04 ∷ 0x35 ∷ 0x38 ∷ 0x00 ∷ 0x63 ∷ 0x00 ∷ 0x00 ∷ []

-- C2: two trucks open with 3 and 5, and in round 1 each hears only its own proposal without a mark
abbrev c2 : List ℕ
c2 = 0x08 ∷ 0x02 ∷ 0x35 ∷ 0x31 ∷ 0x80 ∷ 0x00 ∷ []

-- three trucks open with 5, 5 and 3; trucks 0 and 1 miss the 3 in round 1, hearing two of three, and the veto of truck 2 in round 2, without a mark
abbrev veto_missed : List ℕ
veto_missed = 0x0c ∷ 0x04 ∷ 0x55 ∷ 0x31 ∷ 0xc1 ∷ 0x20 ∷ 0x00 ∷ 0x48 ∷ 0x04 ∷ 0x00 ∷ 0x00 ∷ 0x00 ∷ 0x00 ∷ []

-- three trucks open with 4 and send it in round 1, where truck 0 misses truck 2, hearing two of three, without a mark; in round 2 truck 1 has a false mark
abbrev two_of_three : List ℕ
two_of_three = 0x0c ∷ 0x02 ∷ 0x44 ∷ 0x41 ∷ 0xc1 ∷ 0x00 ∷ 0x04 ∷ 0x00 ∷ []

-- of a recording, by any protocol
module _ (p : Protocol) where
  -- round k of it, counted from 1, on the radio
  abbrev round_of : List ℕ → ℕ → Radio
  round_of s k = radios_in p.rules (trucks_of s) (openings_of s) (round_at s) k

  -- whether the marks of each of its rounds are of a worth
  abbrev pub worths_in : (ℕ → Radio → Bool) → List ℕ → List Bool
  worths_in worth s = tab (λ e. worth (suc e) (round_of s (suc e))) (rounds_of s)

  -- how each of its trucks ends, and its crusher
  abbrev pub ends_in : List ℕ → List (State × ℕ)
  ends_in s = tab (λ i. ((truck (ran_in p s).fleet.trucks i).state, (truck (ran_in p s).fleet.trucks i).estimate)) (trucks_of s)

  -- what holds of its rounds one by one holds of each
  pub rounds_have : (worth : ℕ → Radio → Bool) (s : List ℕ)
      → all_below (λ e. worth (suc e) (radios_in p.rules (trucks_of s) (openings_of s) (round_at s) (suc e))) (rounds_of s) ≡ true
      → MarksIn p worth (trucks_of s) (openings_of s) (round_at s) (rounds_of s)
  rounds_have worth s h zero l m = absurd (omega arith)
  rounds_have worth s h (suc e) l m = all_below-at (λ e. worth (suc e) (round_of s (suc e))) (rounds_of s) h e (omega arith)

abbrev worths : (ℕ → Radio → Bool) → List ℕ → List Bool
worths = worths_in two_round

abbrev ends : List ℕ → List (State × ℕ)
ends = ends_in two_round

-- majority complete marks but for round 2, mixed marks throughout, false ones among them; both trucks decide 3 in round 4
pub half-heard : (worths (λ k. majority_complete) half_heard ≡ true ∷ false ∷ true ∷ true ∷ []) × (worths two_worth half_heard ≡ true ∷ true ∷ true ∷ true ∷ [])
    × (worths (λ k. accurate) half_heard ≡ false ∷ true ∷ true ∷ true ∷ []) × ((ran half_heard).outcome ≡ Ok tt) × (ends half_heard ≡ (Decided 4, 3) ∷ (Decided 4, 3) ∷ [])
unfolding tab_from tab filled all_below who first some_below sent hears heard_by heard judged majority_complete zero_complete state_at bit_at num_at row_at trucks_of rounds_of opening_at openings_of word_at words_of round_at all_same different least_or radio_in values_in plays_in after_in opened_in trucks_in radios_in misses misses_any accurate bits_for bytes_for too_short bad_trucks bad_rounds bad_length end_bit own_bit own_in own_loss own_round own_truck own_loss_check frame_check own_check check_of blank fleet_in ran_in
half-heard = (refl, refl, refl, refl, refl)

-- so what agreement asks is met, and what demand 3 asks is not
pub mixed_not_majority : MixedMarks (trucks_of half_heard) (openings_of half_heard) (round_at half_heard) (rounds_of half_heard)
    × (MajorityMarks (trucks_of half_heard) (openings_of half_heard) (round_at half_heard) (rounds_of half_heard) → ⊥)
unfolding tab_from tab filled all_below who first some_below sent hears heard_by heard judged majority_complete zero_complete state_at bit_at num_at row_at trucks_of rounds_of opening_at openings_of word_at words_of round_at all_same different least_or radio_in values_in plays_in after_in opened_in trucks_in radios_in
mixed_not_majority = (rounds_have two_round two_worth half_heard refl, λ marks. false≢true (marks 2 (omega arith) (omega arith)))

-- marks that are majority complete throughout, but neither complete nor accurate: demand 3 asks for no more
pub majority_alone : MajorityMarks (trucks_of two_of_three) (openings_of two_of_three) (round_at two_of_three) (rounds_of two_of_three)
    × (worths (λ k. complete) two_of_three ≡ false ∷ true ∷ []) × (worths (λ k. accurate) two_of_three ≡ true ∷ false ∷ []) × (ends two_of_three ≡ (Decided 2, 4) ∷ (Running, 4) ∷ (Decided 2, 4) ∷ [])
unfolding tab_from tab filled all_below who first some_below sent hears heard_by heard judged majority_complete zero_complete state_at bit_at num_at row_at trucks_of rounds_of opening_at openings_of word_at words_of round_at all_same different least_or radio_in values_in plays_in after_in opened_in trucks_in radios_in complete misses misses_any accurate bits_for bytes_for too_short bad_trucks bad_rounds bad_length end_bit own_bit own_in own_loss own_round own_truck own_loss_check frame_check own_check check_of blank fleet_in ran_in
majority_alone = (rounds_have two_round (λ k. majority_complete) two_of_three refl, refl, refl, refl)

-- in C2 only the marks of an odd round are too weak, and with a veto missed only those of an even one; in both, two trucks decide differently
pub too_weak : (worths two_worth c2 ≡ false ∷ true ∷ []) × (worths (λ k. zero_complete) c2 ≡ true ∷ true ∷ []) × (ends c2 ≡ (Decided 2, 3) ∷ (Decided 2, 5) ∷ [])
    × (worths two_worth veto_missed ≡ true ∷ false ∷ true ∷ true ∷ []) × (ends veto_missed ≡ (Decided 2, 5) ∷ (Decided 2, 5) ∷ (Decided 4, 3) ∷ [])
unfolding tab_from tab filled all_below who first some_below sent hears heard_by heard judged majority_complete zero_complete state_at bit_at num_at row_at trucks_of rounds_of opening_at openings_of word_at words_of round_at all_same different least_or radio_in values_in plays_in after_in opened_in trucks_in radios_in bits_for bytes_for too_short bad_trucks bad_rounds bad_length end_bit own_bit own_in own_loss own_round own_truck own_loss_check frame_check own_check check_of blank fleet_in ran_in
too_weak = (refl, refl, refl, refl, refl)

-- no agreement with marks that are zero complete in every round
pub majority_needed : HoldsIn two_round (agrees_with (MarksIn two_round (λ k. zero_complete))) → ⊥
unfolding tab_from tab filled all_below who first some_below sent hears heard_by heard judged majority_complete zero_complete state_at bit_at num_at row_at trucks_of rounds_of opening_at openings_of word_at words_of round_at all_same different least_or radio_in values_in plays_in after_in opened_in trucks_in radios_in bits_for bytes_for too_short bad_trucks bad_rounds bad_length end_bit own_bit own_in own_loss own_round own_truck own_loss_check frame_check own_check check_of blank fleet_in ran_in
majority_needed h =
    let e : ◌≡◌ {A = ℕ} 3 5 = (h.run c2 refl (rounds_have two_round (λ k. zero_complete) c2 refl)).same 0 1 (omega arith) (omega arith) refl refl in
    absurd (omega arith)

-- nor with marks that are majority complete in odd rounds and worth nothing in even ones
pub zero_needed : HoldsIn two_round (agrees_with (MarksIn two_round (λ k a. implies (odd k) (majority_complete a)))) → ⊥
unfolding tab_from tab filled all_below who first some_below sent hears heard_by heard judged majority_complete zero_complete state_at bit_at num_at row_at trucks_of rounds_of opening_at openings_of word_at words_of round_at all_same different least_or radio_in values_in plays_in after_in opened_in trucks_in radios_in bits_for bytes_for too_short bad_trucks bad_rounds bad_length end_bit own_bit own_in own_loss own_round own_truck own_loss_check frame_check own_check check_of blank fleet_in ran_in
zero_needed h =
    let e : ◌≡◌ {A = ℕ} 5 3 = (h.run veto_missed refl (rounds_have two_round (λ k a. implies (odd k) (majority_complete a)) veto_missed refl)).same 0 2 (omega arith) (omega arith) refl refl in
    absurd (omega arith)
