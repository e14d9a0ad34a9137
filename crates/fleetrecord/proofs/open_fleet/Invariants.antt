-- `open_fleet` meets its contract: the loop holds the fleet of which the trucks that it has passed have opened.
use mathlib.Core.Path.{◌≡◌}
use Rattle.fleetrecord.proofs.Records.{opening_fleet}
use Rattle.fleetrecord.proofs.open_fleet.Given as goal

abbrev pub invariant-loop-i : goal.invariant-loop-i
invariant-loop-i l = l.f ≡ opening_fleet l.n l.openings l.i
