-- `veto` meets its contract.
use Prim.Native.Nat.{ℕ, ◌+◌, ◌*◌}
use lib.Bits.{bit_and, bit_or}
use Rattle.playback.proofs.Rounded.{none_asked, as_asked, vetoes_by}
use Rattle.playback.proofs.replay.veto.Goals as goal
use Rattle.playback.proofs.replay.veto.Goals.{then-senders-may, else-senders-may}

pub returns : goal.returns
returns c =
    let z = c in
    let a = z.args in
    let stop = c.read_at-stop in
    let mark = c.read_at-mark in
    let going = c.without-going in
    let may = c.without-may in
    let m = c.if-senders-may in
    let senders : ℕ = bit_and going.result (bit_or a.marked a.several) in
    let rows : ℕ = a.at + 3 * a.n in
    vetoes_by a.s.now a.at a.n a.running a.marked a.one a.several stop.result mark.result going.result may.result m.some
    z.ranges.running.fits stop.ensures mark.ensures going.ensures may.ensures
    (elim m.branch [ then-senders-may w ↦ none_asked a.s.now rows a.n senders may.result w.if-senders-may.true w.some-is | else-senders-may w ↦ as_asked a.s.now rows a.n senders may.result w.some-is w.hearing_some-some.ensures ])
