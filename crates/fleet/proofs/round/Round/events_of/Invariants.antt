-- `events_of` meets its contract.
use mathlib.Core.Path.{◌≡◌}
use Rattle.basics.specs.Lists.{filled}
use Rattle.fleet.specs.Rounds.{event_at, no_events}
use Rattle.fleet.proofs.round.Round.events_of.Given as goal

abbrev pub invariant-loop-i : goal.invariant-loop-i
invariant-loop-i l =
    let r = l.self in
    l.events ≡ filled (event_at r.phase r.words.now r.senders r.values.now l.held) l.i no_events
