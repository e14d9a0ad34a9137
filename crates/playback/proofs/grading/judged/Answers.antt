-- `judged` meets its contract.
use mathlib.Core.Path.{refl}
use Rattle.playback.proofs.grading.judged.Goals as goal

pub returns-then-judging : goal.returns-then-judging
returns-then-judging g c = rw c.if-judging.true c.judged_into.ensures

pub returns-else-judging : goal.returns-else-judging
returns-else-judging g c = rw c.if-judging.false (record { four = c.told-found; grades = λ a d. refl })
