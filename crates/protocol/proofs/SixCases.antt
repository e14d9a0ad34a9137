-- The six-round cycle computed on cases: calm, yes and no, and what agreement asks of marks, by the definitions that the theorem cites.
use mathlib.Core.Path.{◌≡◌, refl}
use mathlib.Core.Bool.{Bool, true, false, cond, not, ◌||◌}
use mathlib.Core.List.{List, [], ◌∷◌}
use Prim.Native.Nat.{ℕ}
use native.Mathlib.Omega.{arith}
use lib.Dec.{eqb}
use Rattle.basics.specs.Lists.{tab_from, tab, filled, all_below, who, first, some_below}
use Rattle.radio.specs.Radio.{implies, sent, hears, heard_by, heard, misses, misses_any, judged, majority_complete, zero_complete, accurate, in_full, few_senders, some_running, calm_round, calm_for}
use Rattle.radio.specs.Runs.{state_at}
use Rattle.recording.specs.Packed.{bit_at, num_at, row_at, trucks_of, rounds_of, opening_at, openings_of, word_at, words_of, round_at, bits_for, bytes_for}
use Rattle.recording.specs.Checks.{too_short, bad_trucks, bad_rounds, bad_length, end_bit, own_bit, own_in, own_loss, own_round, own_truck, own_loss_check, frame_check, own_check, check_of}
use Rattle.protocol.specs.declared.State.{State}
use Rattle.protocol.specs.declared.State.TheVariants.{Running, Decided}
use Rattle.protocol.specs.Cycles.{radio_in, values_in, plays_in, after_in}
use Rattle.protocol.specs.Rules.{truck, least_or}
use Rattle.protocol.specs.Six.{is_prepare, is_accept, six_rules}
use Rattle.protocol.specs.Runs.{opened_in, trucks_in, radios_in}
use Rattle.protocol.specs.Fleets.{blank, fleet_in, ran_in, six_round}
use Rattle.protocol.specs.Claims.{agrees_with, MarksIn, calm_in, HoldsIn, ZeroMarks}
use Rattle.protocol.proofs.MarkCases.{worths_in, ends_in, rounds_have}

-- two trucks open with 3 and 5; both are active, nothing is lost or marked. Both take 3 in round 1, send its two 1-bits in rounds 4 and 5, and decide in round 6
abbrev plain : ℕ → List ℕ
plain k = 0 ∷ 3 ∷ 0 ∷ 0 ∷ 0 ∷ []

-- the same with other words in round k + 1
abbrev but : ℕ → List ℕ → ℕ → List ℕ
but k w j = cond (eqb j k) w (plain j)

abbrev asks : (ℕ → List ℕ) → ℕ → ℕ → ℕ → Bool
asks = calm_in six_round 2 (3 ∷ 5 ∷ [])

-- eleven rounds from S 1 are calm with b 2, since nobody runs in the prepare round 7; with b 1 they are not, nor from S 0, nor where round 11 is missing
pub calm-six : (asks plain 11 1 2 ≡ true) × (asks plain 11 1 1 ≡ false) × (asks plain 11 0 2 ≡ false) × (asks plain 10 1 2 ≡ false)
unfolding tab_from tab filled all_below who first some_below sent hears heard_by heard misses misses_any judged accurate in_full few_senders some_running calm_round calm_for state_at least_or radio_in values_in plays_in after_in opened_in trucks_in radios_in calm_in
calm-six = (refl, refl, refl, refl)

-- not calm: nobody sends in round 1, with trucks running; a mark in round 1 where nothing was missed; truck 0 misses what truck 1 sends in round 4
pub not-calm-six : (asks (but 0 (0 ∷ 0 ∷ 0 ∷ 0 ∷ 0 ∷ [])) 11 1 2 ≡ false) × (asks (but 0 (0 ∷ 3 ∷ 1 ∷ 0 ∷ 0 ∷ [])) 11 1 2 ≡ false) × (asks (but 3 (0 ∷ 0 ∷ 0 ∷ 2 ∷ 0 ∷ [])) 11 1 2 ≡ false)
unfolding tab_from tab filled all_below who first some_below sent hears heard_by heard misses misses_any judged accurate in_full few_senders some_running calm_round calm_for state_at least_or radio_in values_in plays_in after_in opened_in trucks_in radios_in calm_in
not-calm-six = (refl, refl, refl)

-- nobody sends in round 1: truck 0 becomes unwilling in round 3 and truck 1 in round 4, and both veto
abbrev late : ℕ → List ℕ
late = but 0 (0 ∷ 0 ∷ 0 ∷ 0 ∷ 0 ∷ [])

-- how truck i stands after R such rounds, and its crusher
abbrev standing : ℕ → ℕ → State × ℕ
standing i R = ((truck (trucks_in six_rules 2 (3 ∷ 5 ∷ []) late R) i).state, (truck (trucks_in six_rules 2 (3 ∷ 5 ∷ []) late R) i).estimate)

-- ten calm rounds are not enough: rounds 2 to 11 are calm, and both run on; with round 12, the eleventh, both decide
pub eleven_needed : (calm_for 9 is_prepare (radios_in six_rules 2 (3 ∷ 5 ∷ []) late) 11 2 2 ≡ true) × (standing 0 11 ≡ (Running, 3)) × (standing 1 11 ≡ (Running, 3))
    × (asks late 12 2 2 ≡ true) × (standing 0 12 ≡ (Decided 12, 3)) × (standing 1 12 ≡ (Decided 12, 3))
unfolding tab_from tab filled all_below who first some_below sent hears heard_by heard misses misses_any judged accurate in_full few_senders some_running calm_round calm_for state_at least_or radio_in values_in plays_in after_in opened_in trucks_in radios_in calm_in
eleven_needed = (refl, refl, refl, refl, refl, refl)

-- two trucks open with 3 and 1, nobody is active, and in round 4, for the bit worth 2, truck 0 sends. Truck 1 hears it, becomes unwilling and vetoes
abbrev heard_all : List ℕ
heard_all = 0x08 ∷ 0x06 ∷ 0x31 ∷ 0x00 ∷ 0x00 ∷ 0x00 ∷ 0x00 ∷ 0x00 ∷ 0x00 ∷ 0x00 ∷ 0x00 ∷ []

-- truck 1 misses it without a mark, and nobody vetoes
abbrev bit_missed : List ℕ
bit_missed = 0x08 ∷ 0x06 ∷ 0x31 ∷ 0x00 ∷ 0x00 ∷ 0x00 ∷ 0x00 ∷ 0x02 ∷ 0x00 ∷ 0x00 ∷ 0x00 ∷ []

-- truck 1 hears it, and truck 0 misses its veto in round 6 without a mark; truck 1 goes on alone
abbrev veto_missed : List ℕ
veto_missed =
    0x08 ∷ 0x0c ∷ 0x31 ∷ 0x00 ∷ 0x00 ∷ 0x00 ∷ 0x00 ∷ 0x00 ∷ 0x00 ∷ 0x00 ∷ 0x40 ∷ 0x00 ∷ 0x00 ∷ 0x00 ∷ 0x00 ∷ 0x00 ∷ 0x00 ∷ 0x00 ∷ []

-- zero complete marks in all rounds, and nobody decides; in all but a bit round, or all but accept, and two trucks decide differently
pub zero-six : (worths_in six_round (λ k. zero_complete) heard_all ≡ true ∷ true ∷ true ∷ true ∷ true ∷ true ∷ [])
    × (ends_in six_round heard_all ≡ (Running, 3) ∷ (Running, 1) ∷ [])
    × (worths_in six_round (λ k. zero_complete) bit_missed ≡ true ∷ true ∷ true ∷ false ∷ true ∷ true ∷ [])
    × (ends_in six_round bit_missed ≡ (Decided 6, 3) ∷ (Decided 6, 1) ∷ [])
    × (worths_in six_round (λ k. zero_complete) veto_missed ≡ true ∷ true ∷ true ∷ true ∷ true ∷ false ∷ true ∷ true ∷ true ∷ true ∷ true ∷ true ∷ [])
    × (ends_in six_round veto_missed ≡ (Decided 6, 3) ∷ (Decided 12, 1) ∷ [])
unfolding tab_from tab filled all_below who first some_below sent hears heard_by heard judged zero_complete state_at bit_at num_at row_at trucks_of rounds_of opening_at openings_of word_at words_of round_at least_or radio_in values_in plays_in after_in opened_in trucks_in radios_in bits_for bytes_for too_short bad_trucks bad_rounds bad_length end_bit own_bit own_in own_loss own_round own_truck own_loss_check frame_check own_check check_of blank fleet_in ran_in
zero-six = (refl, refl, refl, refl, refl, refl)

-- what agreement asks can be met
pub zero_met : ZeroMarks (trucks_of heard_all) (openings_of heard_all) (round_at heard_all) (rounds_of heard_all)
unfolding tab_from tab filled all_below who first some_below sent hears heard_by heard judged zero_complete state_at bit_at num_at row_at trucks_of rounds_of opening_at openings_of word_at words_of round_at least_or radio_in values_in plays_in after_in opened_in trucks_in radios_in
zero_met = rounds_have six_round (λ k. zero_complete) heard_all refl

-- three trucks open with 4 and send it in prepare, where truck 0 hears itself alone, one of three, without a mark; in accept truck 1 has a false mark
abbrev one_of_three : List ℕ
one_of_three = 0x0c ∷ 0x06 ∷ 0x44 ∷ 0x41 ∷ 0xc3 ∷ 0x00 ∷ 0x00 ∷ 0x00 ∷ 0x00 ∷ 0x00 ∷ 0x00 ∷ 0x00 ∷ 0x00 ∷ 0x00 ∷ 0x00 ∷ 0x04 ∷ 0x00 ∷ []

-- marks that are zero complete throughout, but neither majority complete nor accurate: agreement asks for no more
pub zero-alone : ZeroMarks (trucks_of one_of_three) (openings_of one_of_three) (round_at one_of_three) (rounds_of one_of_three)
    × (worths_in six_round (λ k. majority_complete) one_of_three ≡ false ∷ true ∷ true ∷ true ∷ true ∷ true ∷ [])
    × (worths_in six_round (λ k. accurate) one_of_three ≡ true ∷ true ∷ true ∷ true ∷ true ∷ false ∷ [])
    × (ends_in six_round one_of_three ≡ (Decided 6, 4) ∷ (Running, 4) ∷ (Decided 6, 4) ∷ [])
unfolding tab_from tab filled all_below who first some_below sent hears heard_by heard judged zero_complete state_at bit_at num_at row_at trucks_of rounds_of opening_at openings_of word_at words_of round_at least_or radio_in values_in plays_in after_in opened_in trucks_in radios_in majority_complete misses misses_any accurate bits_for bytes_for too_short bad_trucks bad_rounds bad_length end_bit own_bit own_in own_loss own_round own_truck own_loss_check frame_check own_check check_of blank fleet_in ran_in
zero-alone = (rounds_have six_round (λ k. zero_complete) one_of_three refl, refl, refl, refl)

-- no agreement with marks that are worth nothing in bit rounds
pub bits_need_marks : HoldsIn six_round (agrees_with (MarksIn six_round (λ k a. implies (is_prepare k || is_accept k) (zero_complete a)))) → ⊥
unfolding tab_from tab filled all_below who first some_below sent hears heard_by heard judged zero_complete state_at bit_at num_at row_at trucks_of rounds_of opening_at openings_of word_at words_of round_at least_or radio_in values_in plays_in after_in opened_in trucks_in radios_in bits_for bytes_for too_short bad_trucks bad_rounds bad_length end_bit own_bit own_in own_loss own_round own_truck own_loss_check frame_check own_check check_of blank fleet_in ran_in
bits_need_marks h =
    let e : ◌≡◌ {A = ℕ} 3 1 =
    (h.run bit_missed refl (rounds_have six_round (λ k a. implies (is_prepare k || is_accept k) (zero_complete a)) bit_missed refl)).same 0 1 (omega arith) (omega arith) refl refl in
    absurd (omega arith)

-- nor with marks that are worth nothing in accept
pub accept_needs_marks : HoldsIn six_round (agrees_with (MarksIn six_round (λ k a. implies (not (is_accept k)) (zero_complete a)))) → ⊥
unfolding tab_from tab filled all_below who first some_below sent hears heard_by heard judged zero_complete state_at bit_at num_at row_at trucks_of rounds_of opening_at openings_of word_at words_of round_at least_or radio_in values_in plays_in after_in opened_in trucks_in radios_in bits_for bytes_for too_short bad_trucks bad_rounds bad_length end_bit own_bit own_in own_loss own_round own_truck own_loss_check frame_check own_check check_of blank fleet_in ran_in
accept_needs_marks h =
    let e : ◌≡◌ {A = ℕ} 3 1 =
    (h.run veto_missed refl (rounds_have six_round (λ k a. implies (not (is_accept k)) (zero_complete a)) veto_missed refl)).same 0 1 (omega arith) (omega arith) refl refl in
    absurd (omega arith)
