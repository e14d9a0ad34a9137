-- `turn_places` meets its contract: the loop holds that the head and the places passed are up to date.
use mathlib.Core.Path.{◌≡◌}
use Rattle.basics.specs.Lists.{filled}
use Rattle.recordbytes.specs.Layout.{size_for, record_byte, record_of}
use Rattle.fleet.specs.Rounds.{turned_fleet}
use Rattle.fleet.proofs.bytes.turn_places.Given as goal

abbrev pub invariant-loop-i : goal.invariant-loop-i
invariant-loop-i l =
    let r = l.round in
    l.d ≡ filled (record_byte (turned_fleet r.phase r.words.now r.senders r.values.now l.done (record_of l.initial.d))) (size_for l.i) l.initial.d
