-- Whole lists of steps (document 01, 'Whole lists of steps').
use Rattle.std.specs.Prelude.{ℕ, suc, ◌+◌, Bool, cond, ◌&&◌, List, [], ◌∷◌, ltb, length, get_or}
use Rattle.refusals.specs.Numbers.{accepted}
use Rattle.recording.specs.Packed.{joined, packed}
use Rattle.recording.specs.Checks.{round_check}
use Rattle.protocol.specs.declared.Fleet.{Fleet}
use Rattle.protocol.specs.Fleets.{Protocol, two_round, stepped_in}

-- the record returned last by a list of steps, each on what the step before it returned
unfoldable pub last_record_in : Protocol → Fleet → List (List ℕ) → Fleet
last_record_in p f [] = f
last_record_in p f (w ∷ ws) = last_record_in p (stepped_in p f w).fleet ws

abbrev pub last_record : Fleet → List (List ℕ) → Fleet
last_record = last_record_in two_round

-- a round is taken if neither 8 nor 6 holds of it and fewer than 400 were taken before; c were
unfoldable pub is_taken : ℕ → ℕ → List ℕ → Bool
is_taken n c w = accepted (round_check n (c + 1) w) && ltb c 400

-- the taken rounds of a list, in their order
unfoldable pub taken_from : ℕ → ℕ → List (List ℕ) → List (List ℕ)
taken_from n c [] = []
taken_from n c (w ∷ ws) = cond (is_taken n c w) (w ∷ taken_from n (suc c) ws) (taken_from n c ws)

abbrev pub taken : ℕ → List (List ℕ) → List (List ℕ)
taken n ws = taken_from n 0 ws

-- the words of round k of a list of rounds, counted from 0
abbrev pub round_in : List (List ℕ) → ℕ → List ℕ
round_in rs k = get_or rs k []

-- the recording of a list: its n, its openings and its taken rounds
unfoldable pub recording_of : ℕ → List ℕ → List (List ℕ) → List ℕ
recording_of n openings ws = packed n (length (taken n ws)) openings (joined (taken n ws))
