-- `play` meets its contract.
use mathlib.Core.Path.{refl, ap, ◌∙◌}
use mathlib.Core.List.{List}
use Prim.Native.Nat.{ℕ}
use native.Mathlib.Omega.{arith}
use lib.ListN.{get_or}
use Rattle.recording.specs.Packed.{round_at}
use Rattle.recording.proofs.Fronts.{counts_rounds}
use Rattle.protocol.specs.Fleets.{chosen}
use Rattle.playback.specs.declared.replay.Tally.{Tally}
use Rattle.playback.specs.Replays.{fleet_after}
use Rattle.playback.proofs.Halts.{takes_in, begun_few, begun_openings, begun_due, fleet_ended, found_ended}
use Rattle.playback.proofs.replay.play.Goals as goal

pub rounds_in-sets-requires : goal.rounds_in-sets-requires
rounds_in-sets-requires c =
    let z = c in
    let s = z.args.frame.now.bytes.now in
    let t = z.args.t.now in
    let g = c.begin-all in
    let counts = g.result.0 in
    let at = c.word_place in
    let zero = z.requires in (
      begun_due z.args.frame.now.good g.ensures (chosen z.args.cycle).rules (round_at s) (λ k i ne. refl) at.result counts.rounds 0 t.ends t.sent at.ensures
          (omega (arith, counts_rounds s counts g.ensures.counts, (begun_few z.args.frame.now.good g.ensures).1)) (ap (λ (x : Tally). x.ends) zero) (ap (λ (x : Tally). x.sent) zero),
      (ap (λ (x : Tally). x.sent) zero, ap (λ (x : Tally). x.found) zero),
    )

pub returns : goal.returns
returns c =
    let z = c in
    let a = z.args in
    let s = a.frame.now.bytes.now in
    let p = chosen a.cycle in
    let g = c.begin-all in
    let counts = g.result.0 in
    let b = c.rounds_in-sets in
    let h = b.ensures.0 in
    let takes = takes_in a.cycle in
    let played = counts_rounds s counts g.ensures.counts in
    record {
      few = (begun_few z.args.frame.now.good g.ensures).0;
      fleet = fleet_ended p takes h counts b.new.t.openings g.ensures.counts (λ j l. ap (λ (x : List ℕ). get_or x j 0) b.ensures.1.1 ∙ begun_openings z.args.frame.now.good g.ensures j l) refl
          ∙ ap (fleet_after p (round_at s) s) played;
      grades = found_ended p takes h a.judging b.new.t.found played b.ensures.1.0;
    }
