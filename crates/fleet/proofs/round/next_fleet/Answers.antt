-- `next_fleet` meets its contract.
use mathlib.Core.Path.{ap, ◌∙◌}
use mathlib.Core.List.{List}
use Prim.Native.Nat.{ℕ}
use lib.ListN.{get_or, replicate}
use Rattle.basics.proofs.Laws.{filled_ext, get_or-filled}
use Rattle.playback.specs.Sets.{estimates}
use Rattle.fleet.specs.Rounds.{event_by, event_at, no_events}
use Rattle.fleet.proofs.Steps.{step_good}
use Rattle.fleet.proofs.Turns.{step_next}
use Rattle.fleet.proofs.round.next_fleet.Goals as goal

pub returns : goal.returns
returns c =
    let w = c.args.words.now in
    let g = step_good c.args.cycle c.args.f w c.requires in
    let phase = c.phase_of-phase in
    let senders = c.senders_of-senders in
    let events = c.events_of-events in
    step_next c.args.cycle c.args.f w phase.result phase.ensures senders.result senders.new.values senders.ensures.senders senders.ensures.sorted g.small g.counts g.most
    events.result
    (events.ensures
    ∙ filled_ext (event_at phase.result w senders.result senders.new.values senders.new.held)
    (λ i. event_by phase.result w senders.result senders.new.values (estimates c.args.f.trucks i) i) c.args.f.n no_events
    (λ i l. ap (λ (e : ℕ). event_by phase.result w senders.result senders.new.values e i)
    (ap (λ (x : List ℕ). get_or x i 0) senders.ensures.kept ∙ get_or-filled (estimates c.args.f.trucks) c.args.f.n (replicate 32 0) i 0 l)))
    c.update_first-fleet.result c.update_first-fleet.ensures
