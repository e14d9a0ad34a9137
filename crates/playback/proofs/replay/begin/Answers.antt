-- `begin` meets its contract.
use mathlib.Core.Path.{ap, ◌∙◌}
use Rattle.recording.specs.Packed.{openings_into}
use Rattle.recording.proofs.Fronts.{counts-trucks}
use Rattle.playback.proofs.Halts.{first-few, openings-small}
use Rattle.playback.proofs.replay.begin.Goals as goal

pub everyone-all-requires : goal.everyone-all-requires
everyone-all-requires c =
    let z = c in
    let r = c.read_front-counts in
    (first-few z.args.frame.now.bytes.now z.args.frame.now.good r.result.trucks (counts-trucks z.args.frame.now.bytes.now r.result r.ensures.0)).0

pub openers-requires : goal.openers-requires
openers-requires c =
    let z = c in
    let s = z.args.frame.now.bytes.now in
    let r = c.read_front-counts in
    (openings-small s z.args.frame.now.good r.new.openings (r.ensures.1 ∙ ap (openings_into s) z.requires.0), z.requires.1)

pub returns : goal.returns
returns c =
    let z = c in
    let r = c.read_front-counts in
    record {
      counts = r.ensures.0;
      read = r.ensures.1 ∙ ap (openings_into z.args.frame.now.bytes.now) z.requires.0;
      everyone = c.everyone-all.ensures;
      sorted = c.openers.ensures;
      crushers = c.openers.array_long;
    }
