-- `record_of` meets its contract.
use Rattle.recordbytes.specs.Layout.{record_of_parts}
use Rattle.recordbytes.proofs.record_of.Goals as goal

pub returns : goal.returns
unfolding record_of_parts
returns c = rw (c.pair.ensures, c.with_trucks.ensures)
