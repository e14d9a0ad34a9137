-- `prepare` meets its contract.
use Rattle.playback.proofs.Rounded.{prepares_by}
use Rattle.playback.proofs.six.prepare.Goals as goal

pub returns : goal.returns
returns c =
    let a = c.args in
    let stop = c.read_at-stop in
    let active = c.read_at-active in
    let mark = c.read_at-mark in
    let going = c.without-going in
    let unmarked = c.without in
    let wanted = c.listeners-wanted in
    let h = c.hear-h in
    prepares_by a.s.now a.at a.n a.running a.by.now c.settle.new.by stop.result active.result mark.result going.result unmarked.result wanted.result h.result
    stop.ensures active.ensures mark.ensures going.ensures unmarked.ensures wanted.ensures h.ensures.0 h.ensures.1.1 c.settle.ensures
