-- A road's leg and its estimate (document 01, 'The opening crusher'; document 02, F-2).
use Rattle.std.specs.Prelude.{ℕ, cond, pos, Float, Option, Some, None}
use Rattle.std.specs.Float.{binary64}
use Rattle.std.specs.Float.Ieee.{mul, div, eq, of_int}
use Rattle.roads.specs.declared.Leg.{Leg}

-- a whole number as a 64-bit float
abbrev pub float : ℕ → Float
float n = of_int binary64 (pos n)

-- 01's leg: a road's length, metres and seconds as 64-bit floats
abbrev pub leg_of : ℕ → ℕ → ℕ → Leg
leg_of length metres seconds = record { length = float length; metres = float metres; seconds = float seconds }

-- 01's number of seconds: one product and one division, each rounded once
abbrev pub quotient_of : Leg → Float
quotient_of leg = div binary64 (mul binary64 leg.length leg.seconds) leg.metres

-- F-2's estimate: 0 seconds at length 0, idle or not; else 01's: none where the last run covered 0 metres, else the number of seconds
abbrev pub estimate_of : Leg → Option Float
estimate_of leg = cond (eq leg.length (float 0)) (Some (float 0)) (cond (eq leg.metres (float 0)) None (Some (quotient_of leg)))
