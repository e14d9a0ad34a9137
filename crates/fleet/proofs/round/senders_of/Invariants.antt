-- `senders_of` meets its contract: the loop holds the senders among the trucks passed, those of each crusher, and these trucks' estimates.
use mathlib.Core.Path.{◌≡◌}
use Prim.Native.Nat.{◌≤◌, min}
use Rattle.basics.specs.Lists.{filled}
use Rattle.fleet.specs.Rounds.{sends_in}
use Rattle.playback.specs.Sets.{estimates}
use Rattle.playback.proofs.Sorting.{Sending}
use Rattle.fleet.proofs.round.senders_of.Given as goal

abbrev pub invariant-loop-i : goal.invariant-loop-i
invariant-loop-i g l =
    let ts = (g.R.Trucks.fleet l.trucks).trucks in
    (l.i ≤ min (g.R.Trucks.fleet l.trucks).n 32) × Sending (sends_in l.phase l.words ts) (estimates ts) l.i l.senders l.values × (l.held ≡ filled (estimates ts) l.i l.initial.held)
