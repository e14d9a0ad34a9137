-- `fleet_of` meets its contract: the loop holds the record with the trucks so far.
use mathlib.Core.Path.{◌≡◌}
use Rattle.basics.specs.Lists.{filled}
use Rattle.playback.specs.Standing.{built_by}
use Rattle.playback.proofs.replay.fleet_of.Given as goal

abbrev pub invariant-loop-i : goal.invariant-loop-i
invariant-loop-i l = l.trucks ≡ filled (built_by l.t.openings l.b l.t.by l.t.ends l.t.sent) l.i l.initial.trucks
