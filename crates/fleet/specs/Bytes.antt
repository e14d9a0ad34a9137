-- A step of a record as bytes, by a round in plain form (recordbytes, Layout).
use Rattle.std.specs.Prelude.{ℕ, List}
use Rattle.refusals.specs.Outcomes.{Outcome, and_then}
use Rattle.protocol.specs.Fleets.{Protocol, stepped_in}
use Rattle.recordbytes.specs.Layout.{pack_for, unpacked}

module _ (p : Protocol) (d w : List ℕ) where
  -- 7 where the bytes are no record, then 7, 14, 8, 6
  unfoldable pub bytes_check_in : Outcome
  bytes_check_in = and_then (unpacked d).outcome (stepped_in p (unpacked d).fleet w).outcome

  -- the bytes that a step leaves: places n and above stay as they came, and a refusal changes nothing
  unfoldable pub bytes_step_in : List ℕ
  bytes_step_in = let f = (stepped_in p (unpacked d).fleet w).fleet in pack_for bytes_check_in f.n f d
