-- `event_by` meets its contract.
use mathlib.Core.Path.{◌∙◌}
use Prim.Native.Nat.{◌+◌}
use lib.ListN.{get_or}
use Rattle.sets.proofs.Members.{only_is}
use Rattle.playback.proofs.Radios.{heard_by_own}
use Rattle.fleet.proofs.round.Round.event_by.Goals as goal

pub returns : goal.returns
returns c =
    let a = c.args in
    let h = c.heard_by-heard in
    let only = c.only in
    let heard = heard_by_own a.self.now.senders (get_or a.self.now.words.now (3 + a.i) 0) a.i only.result h.result h.ensures (only.ensures ∙ only_is a.i c.requires.0) in
    rw (c.event_of.ensures, c.holds.ensures, c.holds-2.ensures, c.holds-3.ensures, heard)
