-- `holds` meets its contract: a word of 32 bits has no bit above them.
use mathlib.Core.Path.{◌≡◌}
use mathlib.Core.Bool.{false}
use native.Mathlib.Omega.{arith}
use borrow.Author.Rules.{rules}
use Rattle.basics.specs.Bits.{bit}
use Rattle.sets.proofs.Words.{bit_high}
use Rattle.sets.proofs.holds.Goals as goal

pub returns-else-i-lt32 : goal.returns-else-i-lt32
returns-else-i-lt32 c = let b : bit c.args.set c.args.i ≡ false = bit_high c.args.set 32 c.args.i c.ranges.set.fits (omega (arith, c.if-i-lt32.false)) in search rules
