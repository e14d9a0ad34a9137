-- Calm computed on cases, yes and no, by the definitions that the theorem cites. Two trucks that open with crushers 3 and 5: both propose in odd rounds; in round 1
-- each hears two values, so both veto in round 2; in round 3 they hear one, and decide in round 4.
use mathlib.Core.Path.{◌≡◌, refl}
use mathlib.Core.Bool.{Bool, true, false, cond}
use mathlib.Core.List.{List, [], ◌∷◌}
use Prim.Native.Nat.{ℕ}
use lib.Dec.{eqb}
use Rattle.basics.specs.Bits.{odd}
use Rattle.basics.specs.Lists.{tab_from, tab, filled, all_below, who, first, some_below}
use Rattle.radio.specs.Radio.{sent, hears, heard_by, heard, misses, misses_any, judged, accurate, in_full, few_senders, some_running, calm_round, calm_for}
use Rattle.radio.specs.Runs.{state_at}
use Rattle.protocol.specs.Cycles.{radio_in, values_in, plays_in, after_in}
use Rattle.protocol.specs.Rules.{all_same, different, least_or}
use Rattle.protocol.specs.Runs.{opened_in, trucks_in, radios_in, calm}

-- the words of a round counted from 0: both trucks are active in rounds 1, 3, ..; nothing is lost or marked
abbrev plain : ℕ → List ℕ
plain k = cond (odd k) (0 ∷ 0 ∷ 0 ∷ 0 ∷ 0 ∷ []) (0 ∷ 3 ∷ 0 ∷ 0 ∷ 0 ∷ [])

-- the same with other words in round k + 1
abbrev but : ℕ → List ℕ → ℕ → List ℕ
but k w j = cond (eqb j k) w (plain j)

abbrev asks : (ℕ → List ℕ) → ℕ → ℕ → ℕ → Bool
asks = calm 2 (3 ∷ 5 ∷ [])

-- S 1 with b 2 is calm, and with any larger b; with b 1 it is not, since two send; nor from S 0, nor where round S + 4 is missing; an even S may be calm
pub calm_cases : (asks plain 5 1 2 ≡ true) × (asks plain 5 1 40 ≡ true) × (asks plain 5 1 1 ≡ false) × (asks plain 5 0 2 ≡ false) × (asks plain 4 1 2 ≡ false) × (asks plain 6 2 2 ≡ true)
unfolding tab_from tab filled all_below who first some_below sent hears heard_by heard misses misses_any judged accurate in_full few_senders some_running calm_round calm_for state_at all_same different least_or radio_in values_in plays_in after_in opened_in trucks_in radios_in calm
calm_cases = (refl, refl, refl, refl, refl, refl)

-- not calm: a mark in round 1 where nothing was missed; truck 0 misses truck 1's veto in round 2; nobody proposes in round 1, with trucks running
pub not_calm : (asks (but 0 (0 ∷ 3 ∷ 1 ∷ 0 ∷ 0 ∷ [])) 5 1 2 ≡ false) × (asks (but 1 (0 ∷ 0 ∷ 0 ∷ 2 ∷ 0 ∷ [])) 5 1 2 ≡ false) × (asks (but 0 (0 ∷ 0 ∷ 0 ∷ 0 ∷ 0 ∷ [])) 5 1 2 ≡ false)
unfolding tab_from tab filled all_below who first some_below sent hears heard_by heard misses misses_any judged accurate in_full few_senders some_running calm_round calm_for state_at all_same different least_or radio_in values_in plays_in after_in opened_in trucks_in radios_in calm
not_calm = (refl, refl, refl)

-- calm: both trucks stop in round 1, or have decided before round S, and rounds in which nobody runs ask for nothing, even with b 0
pub calm-idle : (asks (but 0 (3 ∷ 0 ∷ 0 ∷ 0 ∷ 0 ∷ [])) 5 1 0 ≡ true) × (asks plain 10 6 0 ≡ true)
unfolding tab_from tab filled all_below who first some_below sent hears heard_by heard misses misses_any judged accurate in_full few_senders some_running calm_round calm_for state_at all_same different least_or radio_in values_in plays_in after_in opened_in trucks_in radios_in calm
calm-idle = (refl, refl)

-- rounds of more than b senders need not be heard in full: both veto in round 2, truck 0 misses the other veto, and truck 0 alone proposes in round 3
abbrev veto_missed : ℕ → List ℕ
veto_missed k = cond (eqb k 1) (0 ∷ 0 ∷ 0 ∷ 2 ∷ 0 ∷ []) (cond (eqb k 2) (0 ∷ 1 ∷ 0 ∷ 0 ∷ 0 ∷ []) (plain k))

-- stopped trucks need not hear: truck 1 stops in round 1, where nobody proposes, and misses what truck 0 proposes in round 3
abbrev stopped_deaf : ℕ → List ℕ
stopped_deaf k = cond (eqb k 0) (2 ∷ 0 ∷ 0 ∷ 0 ∷ 0 ∷ []) (cond (eqb k 2) (0 ∷ 1 ∷ 0 ∷ 0 ∷ 1 ∷ []) (plain k))

-- nor decided ones: truck 0 alone proposes in round 1 and decides in round 2, where truck 1 has a mark; truck 0 misses what truck 1 proposes in round 3
abbrev decided_deaf : ℕ → List ℕ
decided_deaf k = cond (eqb k 0) (0 ∷ 1 ∷ 0 ∷ 0 ∷ 0 ∷ []) (cond (eqb k 1) (0 ∷ 0 ∷ 2 ∷ 0 ∷ 0 ∷ []) (cond (eqb k 2) (0 ∷ 2 ∷ 0 ∷ 2 ∷ 0 ∷ []) (plain k)))

-- with b 1 the first is calm from S 2, and with b 2 it is not; the others are calm from S 3 with b 1
pub calm-unheard : (asks veto_missed 6 2 1 ≡ true) × (asks veto_missed 6 2 2 ≡ false) × (asks stopped_deaf 7 3 1 ≡ true) × (asks decided_deaf 7 3 1 ≡ true)
unfolding tab_from tab filled all_below who first some_below sent hears heard_by heard misses misses_any judged accurate in_full few_senders some_running calm_round calm_for state_at all_same different least_or radio_in values_in plays_in after_in opened_in trucks_in radios_in calm
calm-unheard = (refl, refl, refl, refl)
