-- `row_of` meets its contract.
use native.Mathlib.Omega.{arith}
use Rattle.playback.proofs.Reading.{row-place}
use Rattle.playback.proofs.listening.row_of.Goals as goal

pub overflow_mul-p : goal.overflow_mul-p
overflow_mul-p c = let a = c.args in let e = row-place a.at a.n a.p c.requires.1.0 c.requires.0 c.requires.1.1 in omega (arith, e.0)

pub overflow_add-at : goal.overflow_add-at
overflow_add-at c = let a = c.args in let e = row-place a.at a.n a.p c.requires.1.0 c.requires.0 c.requires.1.1 in omega (arith, e.1)
