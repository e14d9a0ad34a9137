-- `heard_of` meets its contract.
use mathlib.Core.Path.{ap, ◌∙◌}
use Prim.Native.Nat.{ℕ}
use Rattle.sets.proofs.Members.{only_is}
use Rattle.playback.specs.Sets.{heard_set}
use Rattle.playback.proofs.Radios.{heard_by_own}
use Rattle.playback.proofs.listening.heard_of.Goals as goal

pub returns : goal.returns
returns c =
    let a = c.args in
    heard_by_own a.senders c.row_of.result a.p c.only.result c.heard_by.result c.heard_by.ensures (c.only.ensures ∙ only_is a.p c.requires.1.1)
    ∙ ap (λ (x : ℕ). heard_set a.senders x a.p) c.row_of.ensures
