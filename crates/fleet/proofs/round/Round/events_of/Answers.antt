-- `events_of` meets its contract.
use mathlib.Core.Path.{◌≡◌, ap, sym, ◌∙◌}
use Prim.Native.Nat.{ℕ}
use native.Mathlib.Omega.{arith}
use Rattle.basics.specs.Lists.{filled}
use Rattle.basics.proofs.Laws.{filled_none, fill_step}
use Rattle.fleet.specs.Rounds.{event_at, no_events}
use Rattle.fleet.proofs.round.Round.events_of.Goals as goal

pub loop-i-preserved : goal.loop-i-preserved
loop-i-preserved c =
    let r = c.args.self.now in
    let o = c.loop-i in
    fill_step (event_at r.phase r.words.now r.senders r.values.now c.args.held.now) no_events o.events o.i o.invariant c.event_by.result
    (omega (arith, c.loop-i-test.true, c.places-i-end.ensures)) c.event_by.ensures

pub returns : goal.returns
returns c =
    let r = c.args.self.now in
    c.loop-i.invariant
    ∙ ap (λ (m : ℕ). filled (event_at r.phase r.words.now r.senders r.values.now c.args.held.now) m no_events)
    (let e : c.loop-i.i ≡ c.args.n = omega (arith, c.places-i-end.ensures, c.requires.0) in e)

pub loop-i-init : goal.loop-i-init
loop-i-init c =
    let r = c.args.self.now in
    sym (filled_none (event_at r.phase r.words.now r.senders r.values.now c.args.held.now) no_events)
