-- `settle` meets its contract.
use mathlib.Core.Path.{◌≡◌}
use Rattle.basics.specs.Lists.{filled}
use Rattle.playback.specs.Listens.{settled}
use Rattle.playback.proofs.listening.settle.Given as goal

abbrev pub invariant-loop-c : goal.invariant-loop-c
invariant-loop-c l = l.by ≡ filled (settled l.initial.by l.taking l.changed) l.c l.initial.by
