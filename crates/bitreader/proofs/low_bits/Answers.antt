-- `low_bits` meets its contract: a number of 64 bits has no digit above them.
use mathlib.Core.Path.{sym}
use native.Mathlib.Nat.{mod-eq_of_lt}
use native.Mathlib.Omega.{arith}
use lib.Pow.{pow_mono}
use Rattle.bitreader.proofs.low_bits.Goals as goal

pub returns-else-k-lt64 : goal.returns-else-k-lt64
returns-else-k-lt64 c =
    let a = c in
    sym (mod-eq_of_lt (omega (arith, a.ranges.v.fits, pow_mono {i = 64} {j = a.args.k} (omega (arith, c.if-k-lt64.false)))))
