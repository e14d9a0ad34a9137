-- `own_round` meets its contract: no own bit of the rounds that the loop has passed is 1.
use mathlib.Core.Path.{sym, ◌∙◌}
use native.Mathlib.Omega.{arith}
use Rattle.recording.specs.Packed.{bit_at, word_in}
use Rattle.recording.proofs.OwnLoss.{own_begins, own_passes, own_at}
use Rattle.recording.proofs.OwnBits.own_round.Goals as goal

pub loop-r-init : goal.loop-r-init
loop-r-init c = let own = c.args.self.now in own_begins (word_in (bit_at own.bytes.now) own.trucks) own.trucks

pub returns-then-own_any : goal.returns-then-own_any
returns-then-own_any c =
    let own = c.args.self.now in
    let l = c.loop-r in
    (omega arith, sym (own_at (word_in (bit_at own.bytes.now) own.trucks) own.trucks own.rounds l.r (omega arith) l.invariant (sym c.own_any.ensures ∙ c.if-own_any.true)))

pub loop-r-preserved : goal.loop-r-preserved
loop-r-preserved c =
    let own = c.args.self.now in
    own_passes (word_in (bit_at own.bytes.now) own.trucks) own.trucks c.loop-r.r c.loop-r.invariant (sym c.own_any.ensures ∙ c.if-own_any.false)
