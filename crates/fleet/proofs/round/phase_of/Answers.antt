-- `phase_of` meets its contract; these goals are answered so that a wrong version of them is seen also where `six_phase` is refused.
use mathlib.Core.Path.{◌∙◌}
use borrow.Author.Tests.{eq-eqb}
use Rattle.fleet.proofs.round.phase_of.Goals as goal

pub returns-then-done-eq0 : goal.returns-then-done-eq0
returns-then-done-eq0 c = rw (c.in-TwoRound.is, eq-eqb _ 0 c.if-done-eq0.true)

pub returns-in-SixRound : goal.returns-in-SixRound
returns-in-SixRound c = c.six_phase.ensures ∙ rw c.in-SixRound.is
