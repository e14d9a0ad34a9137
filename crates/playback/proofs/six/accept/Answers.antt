-- `accept` meets its contract.
use Rattle.playback.proofs.Rounded.{accepts_by}
use Rattle.playback.proofs.six.accept.Goals as goal

pub returns : goal.returns
returns c =
    let a = c.args in
    let stop = c.read_at-stop in
    let mark = c.read_at-mark in
    let going = c.without-going in
    let may = c.without-may in
    let some = c.hearing_some-some in
    accepts_by a.s.now a.at a.n a.running a.unwilling stop.result mark.result going.result may.result some.result
    stop.ensures mark.ensures going.ensures may.ensures some.ensures
