-- `bit_round` meets its contract.
use Rattle.playback.proofs.Rounded.{listens_by}
use Rattle.playback.proofs.six.bit_round.Goals as goal

pub returns : goal.returns
returns c =
    let a = c.args in
    let stop = c.read_at-stop in
    let mark = c.read_at-mark in
    let going = c.without-going in
    let shown = c.with_bit in
    let quiet = c.without-quiet in
    let unmarked = c.without in
    let asked = c.listeners-asked in
    let some = c.hearing_some-some in
    listens_by a.s.now a.at a.n a.b a.running a.unwilling a.by.now stop.result mark.result going.result shown.result quiet.result unmarked.result asked.result some.result
    stop.ensures mark.ensures going.ensures shown.ensures quiet.ensures unmarked.ensures asked.ensures some.ensures
