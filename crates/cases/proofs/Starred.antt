-- Every row of the table holds, computed from the definitions.
use mathlib.Core.Path.{◌≡◌, refl}
use mathlib.Core.List.{map}
use Rattle.basics.specs.Lists.{tab_from, tab, filled, all_below, who, first, some_below, sum_below}
use Rattle.radio.specs.Radio.{sent, hears, heard_by, heard, misses, misses_any, judged, complete, majority_complete, zero_complete, accurate, first_break}
use Rattle.radio.specs.Runs.{state_at}
use Rattle.recording.specs.Packed.{bit_at, num_at, row_at, trucks_of, rounds_of, opening_at, openings_of, word_at, words_of, round_at, bits_for, bytes_for, pack, pack_bit, round_bit, opening_bit, packed}
use Rattle.recording.specs.Checks.{too_short, bad_trucks, bad_rounds, bad_length, end_bit, bad_openings, high_bit, bad_words, own_bit, own_in, own_loss, own_round, own_truck, own_loss_check, frame_check, own_check, check_of, rounds_check, round_check, plain_check}
use Rattle.protocol.specs.Cycles.{radio_in, values_in, plays_in, after_in}
use Rattle.protocol.specs.Rules.{all_same, different, least_or}
use Rattle.protocol.specs.Runs.{opened_in, trucks_in, radios_in, grades_for}
use Rattle.protocol.specs.Fleets.{blank, start_check, started, good_truck_in, good_fleet_in, step_check_in, next_fleet_in, stepped_in, fleet_in, ran_in, graded_in}
use Rattle.plain.specs.Forms.{short_buffers, read_check, read_plain, write_check, write_plain}
use Rattle.recordbytes.specs.Layout.{record_byte, place_byte, truck_at, damaged_at, damaged, record_of, unpacked}
use Rattle.fleet.specs.Bytes.{bytes_check_in, bytes_step_in}
use Rattle.listing.specs.Listed.{text_in, listed}
use Rattle.listing.specs.Text.{decimal_in, decimal, state_text, sent_text, truck_line, truck_lines, totals_line, listing_of, location_text, refusal_text, printed}
use Rattle.roads.specs.Opening.{least, opening_check, opening_of}
use Rattle.cases.specs.Questions.{reply}
use Rattle.cases.specs.Table.{Row, table}

pub starred : map (λ (r : Row). reply r.asks) table ≡ map (λ (r : Row). r.gets) table
unfolding table reply tab_from tab filled all_below who first some_below sum_below sent hears heard_by heard misses misses_any judged complete majority_complete zero_complete accurate first_break state_at bit_at num_at row_at trucks_of rounds_of opening_at openings_of word_at words_of round_at bits_for bytes_for pack pack_bit round_bit opening_bit packed too_short bad_trucks bad_rounds bad_length end_bit bad_openings high_bit bad_words own_bit own_in own_loss own_round own_truck own_loss_check frame_check own_check check_of rounds_check round_check plain_check good_truck_in good_fleet_in step_check_in next_fleet_in stepped_in all_same different least_or radio_in values_in plays_in after_in opened_in trucks_in radios_in blank fleet_in ran_in graded_in decimal_in decimal state_text sent_text truck_line truck_lines totals_line listing_of location_text refusal_text printed least opening_check opening_of grades_for start_check started short_buffers read_check read_plain write_check write_plain record_byte place_byte truck_at damaged_at damaged record_of unpacked bytes_check_in bytes_step_in text_in listed
starred = refl
