-- `own_truck` meets its contract: no truck that the loop has passed has its own bit set.
use mathlib.Core.Path.{◌≡◌}
use Rattle.basics.specs.Lists.{first}
use Rattle.recording.proofs.Searches.{own_packed}
use Rattle.recording.proofs.OwnBits.own_truck.Given as goal

abbrev pub invariant-loop-truck : goal.invariant-loop-truck
invariant-loop-truck l = first (own_packed l.self.bytes.now l.at l.self.trucks) l.truck ≡ l.truck
