-- `with_trucks` meets its contract: the loop holds that the places passed are filled.
use mathlib.Core.Path.{◌≡◌}
use mathlib.Core.List.{[]}
use lib.ListN.{get_or}
use Rattle.basics.specs.Lists.{filled}
use Rattle.protocol.specs.Runs.{opened_trucks}
use Rattle.recordbytes.specs.Layout.{truck_of}
use Rattle.recordbytes.proofs.with_trucks.Given as goal

abbrev pub invariant-loop-i : goal.invariant-loop-i
invariant-loop-i l = l.trucks ≡ filled (λ i. truck_of (get_or l.places i [])) l.i (opened_trucks [])
