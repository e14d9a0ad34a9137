-- A list of steps computed, refused ones included. Two trucks that open with crushers 3 and 5 are stepped by six rounds, of which three are refused: a round of four
-- words (8), one with truck 0's own loss bit (6), and one with a bit of a third truck (8). What is taken are the other three, and the recording holds these alone.
use mathlib.Core.Path.{◌≡◌, refl}
use mathlib.Core.Bool.{false, not}
use mathlib.Core.List.{List, [], ◌∷◌}
use Prim.Native.Nat.{ℕ}
use Rattle.basics.specs.Bits.{odd}
use Rattle.basics.specs.Lists.{tab_from, tab, filled, all_below, who, first, some_below}
use Rattle.radio.specs.Radio.{hears, heard_by, heard, times_sent}
use Rattle.radio.specs.Runs.{state_at}
use Rattle.recording.specs.Packed.{joined, packed, pack, pack_bit, round_bit, opening_bit, bits_for, bytes_for, num_at}
use Rattle.recording.specs.Checks.{bad_trucks, bad_openings, high_bit, bad_words, own_bit, own_in, own_loss, own_round, own_truck, own_loss_check, rounds_check, round_check}
use Rattle.protocol.specs.declared.Heard.TheVariants.{One}
use Rattle.protocol.specs.declared.State.TheVariants.{Running}
use Rattle.protocol.specs.declared.Sent.{Sent}
use Rattle.protocol.specs.Cycles.{radio_in, values_in, plays_in, after_in}
use Rattle.protocol.specs.Rules.{truck, all_same, different, least_or}
use Rattle.protocol.specs.Runs.{opened_in, trucks_in, radios_in, radio_at}
use Rattle.protocol.specs.Fleets.{start_check, started, good_truck_in, good_fleet_in, step_check_in, next_fleet_in, stepped_in}
use Rattle.protocol.specs.Steps.{last_record_in, last_record, is_taken, taken_from, taken, round_in, recording_of}

abbrev both : List ℕ
both = 0 ∷ 3 ∷ 0 ∷ 0 ∷ 0 ∷ []

abbrev none : List ℕ
none = 0 ∷ 0 ∷ 0 ∷ 0 ∷ 0 ∷ []

abbrev steps : List (List ℕ)
steps = (0 ∷ 3 ∷ 0 ∷ 0 ∷ []) ∷ both ∷ (0 ∷ 0 ∷ 0 ∷ 1 ∷ 0 ∷ []) ∷ none ∷ (0 ∷ 4 ∷ 0 ∷ 0 ∷ 0 ∷ []) ∷ both ∷ []

pub taken_case : taken 2 steps ≡ both ∷ none ∷ both ∷ []
unfolding taken_from is_taken bad_trucks high_bit bad_words own_bit own_in own_loss own_round own_truck own_loss_check rounds_check round_check first some_below
taken_case = refl

-- 6 bits of 2, 10 of 3, openings 3 and 5, then the three rounds of ten bits
pub recording_case : recording_of 2 (3 ∷ 5 ∷ []) steps ≡ 0x08 ∷ 0x03 ∷ 0x35 ∷ 0x30 ∷ 0x00 ∷ 0x03 ∷ 0x00 ∷ []
unfolding recording_of taken_from is_taken high_bit bad_words own_bit own_in own_loss own_round own_truck own_loss_check rounds_check round_check first some_below joined packed pack pack_bit round_bit opening_bit bits_for bytes_for num_at tab tab_from
recording_case = refl

-- two proposals and a veto: both heard 3 and 5 in the first proposal round
abbrev two_one : Sent
two_one = record { proposals = 2; vetoes = 1 }

-- both trucks have come to crusher 3, run, and remember one value
pub record_case : ((last_record (started 2 (3 ∷ 5 ∷ [])).fleet steps).done ≡ 3)
    × (truck (last_record (started 2 (3 ∷ 5 ∷ [])).fleet steps).trucks 0 ≡ record { opening = 3; estimate = 3; mark = false; heard = One; unwilling = false; state = Running; sent = two_one })
    × (truck (last_record (started 2 (3 ∷ 5 ∷ [])).fleet steps).trucks 1 ≡ record { opening = 5; estimate = 3; mark = false; heard = One; unwilling = false; state = Running; sent = two_one })
unfolding bad_openings last_record_in stepped_in step_check_in next_fleet_in good_fleet_in good_truck_in started start_check bad_trucks high_bit bad_words own_bit own_in own_loss own_round own_truck own_loss_check rounds_check round_check first some_below all_below tab tab_from filled who hears heard_by heard radio_in values_in plays_in after_in opened_in all_same different least_or
record_case = (refl, refl, refl)

-- how often each sends, by the rounds on the radio: in both odd rounds, and in round 2, since it heard two values in round 1
pub times_case : (times_sent odd (radio_at 2 (3 ∷ 5 ∷ []) (round_in (taken 2 steps))) 0 3 ≡ 2) × (times_sent (λ k. not (odd k)) (radio_at 2 (3 ∷ 5 ∷ []) (round_in (taken 2 steps))) 1 3 ≡ 1)
unfolding times_sent radios_in trucks_in state_at taken_from is_taken bad_trucks high_bit bad_words own_bit own_in own_loss own_round own_truck own_loss_check rounds_check round_check first some_below tab tab_from filled who hears heard_by heard radio_in values_in plays_in after_in opened_in all_same different least_or
times_case = (refl, refl)
