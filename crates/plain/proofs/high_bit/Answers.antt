-- `high_bit` meets its contract: a shift says what the power does, and a word of 32 bits has no bit above them.
use Rattle.std.proofs.Common.{◌∙◌}
use borrow.Author.Tests.{le-ltb}
use Rattle.plain.proofs.Tests.{high_shift, high_none}
use Rattle.plain.proofs.high_bit.Goals as goal

pub returns-then-n-lt32 : goal.returns-then-n-lt32
returns-then-n-lt32 c = high_shift c.args.n c.args.w

pub returns-else-n-lt32 : goal.returns-else-n-lt32
returns-else-n-lt32 c = le-ltb c.args.n 32 c.if-n-lt32.false ∙ high_none c.args.n c.args.w c.if-n-lt32.false c.ranges.w.fits
