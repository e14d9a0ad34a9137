-- `next_bytes` meets its contract.
use mathlib.Core.Path.{◌≡◌, ap, ◌∙◌}
use Prim.Native.Nat.{ℕ, ◌+◌}
use Rattle.basics.specs.Lists.{filled}
use Rattle.protocol.specs.declared.Fleet.{Fleet}
use Rattle.recordbytes.specs.Layout.{size_for, record_byte, record_of}
use Rattle.fleet.specs.Rounds.{phase_of, turned_fleet}
use Rattle.fleet.proofs.Steps.{step_good}
use Rattle.fleet.proofs.Turns.{turned-next}
use Rattle.fleet.proofs.bytes.next_bytes.Goals as goal

pub returns : goal.returns
returns c =
    let cycle = c.args.cycle in
    let d = c.args.d.now in
    let w = c.args.words.now in
    let f = record_of d in
    let g = step_good cycle f w c.requires.1 in
    let phase = c.phase_of-phase in
    let senders = c.senders_of-senders in
    let values = senders.new.values in
    let done : c.done-done.result ≡ f.done = c.done-done.ensures in
    c.turn_places.ensures
    ∙ ap (λ (k : ℕ). filled (record_byte (turned_fleet phase.result w senders.result values (k + 1) f)) (size_for f.n) d) done
    ∙ ap (λ (x : Fleet). filled (record_byte x) (size_for f.n) d)
    (turned-next cycle f w phase.result (phase.ensures ∙ ap (phase_of cycle) done) senders.result values senders.ensures.senders senders.ensures.sorted g.small g.counts)
