-- `propose` meets its contract.
use mathlib.Core.Path.{subst}
use Prim.Native.Nat.{ℕ}
use lib.Bits.{bit_and, bit_xor}
use Rattle.playback.specs.Standing.{Proposes}
use Rattle.playback.proofs.Rounded.{proposes_by}
use Rattle.playback.proofs.replay.propose.Goals as goal

pub returns : goal.returns
returns c =
    let a = c.args in
    let stop = c.read_at-stop in
    let active = c.read_at-active in
    let mark = c.read_at-mark in
    let going = c.without-going in
    let unread = c.unread in
    let fewer = c.without in
    let wanted = c.listeners-wanted in
    let h = c.hear-h in
    let changed = c.without-2 in
    subst (λ (x : ℕ). Proposes a.s.now a.at a.n a.left a.running x a.by.now c.settle.new.by (record { going = going.result; senders = bit_and going.result active.result; mark = mark.result; one = h.result.one; several = bit_xor h.result.some h.result.one })) active.ensures
    (proposes_by a.s.now a.at a.n a.left a.running a.by.now c.settle.new.by stop.result active.result mark.result going.result unread.result fewer.result wanted.result
    changed.result h.result stop.ensures mark.ensures going.ensures unread.ensures fewer.ensures wanted.ensures h.ensures changed.ensures c.settle.ensures)
