-- A run to a whole record as bytes (recordbytes, Layout).
use Rattle.std.specs.Prelude.{ℕ, List, ltb, length, Ok}
use Rattle.refusals.specs.declared.Refusal.TheVariants.{ShortBuffer}
use Rattle.refusals.specs.Outcomes.{Outcome, refuse, and_then}
use Rattle.protocol.specs.Fleets.{Protocol, ran_in}
use Rattle.recordbytes.specs.Layout.{size_for, pack_for}

module _ (p : Protocol) (s d : List ℕ) where
  -- 1 to 6, then 9
  unfoldable pub run_check_in : Outcome
  run_check_in = and_then (ran_in p s).outcome (refuse (ltb (length d) (size_for 32)) ShortBuffer (Ok tt))

  -- the bytes that a run leaves: all 32 places, and a refusal changes nothing
  unfoldable pub run_bytes_in : List ℕ
  run_bytes_in = pack_for run_check_in 32 (ran_in p s).fleet d
