-- A fleet that opens.
use Rattle.std.specs.Prelude.{ℕ, List}
use Rattle.protocol.specs.declared.Fleet.{Fleet}
use Rattle.protocol.specs.Runs.{opened_trucks}

-- a fleet of n trucks before round 1
abbrev pub open_fleet : ℕ → List ℕ → Fleet
open_fleet n openings = record { n = n; done = 0; trucks = opened_trucks openings }
