-- `eight_at` meets its contract: the library's sum of the bytes is the number that they make.
use mathlib.Core.Path.{ap}
use Prim.Native.Nat.{ℕ}
use native.Mathlib.Nat.{add-zero}
use native.Mathlib.Omega.{arith}
use lib.ListN.{get_or}
use Rattle.bitreader.specs.Ways.{bytes_from}
use Rattle.bitreader.proofs.eight_at.Goals as goal

pub returns : goal.returns
unfolding bytes_from
returns c = omega (arith, ap (λ (i : ℕ). get_or c.args.s.now i 0) (add-zero c.args.b))
