-- `bits_32` meets its contract: each way gives the bits.
use mathlib.Core.Path.{◌∙◌}
use native.Mathlib.Nat.{le_refl}
use native.Mathlib.Omega.{arith}
use Rattle.bitreader.proofs.Ways.{by_bytes-bits, both_ways}
use Rattle.bitreader.proofs.bits_32.Goals as goal

pub returns-then-s-at : goal.returns-then-s-at
returns-then-s-at c =
    let a = c.args in
    c.by_bytes.ensures ∙ by_bytes-bits a.s.now (λ i. omega (arith, c.type_inv.s i)) a.at 32

-- where eight remain, by the law of both ways
pub returns : goal.returns
returns c =
    let a = c.args in
    let bytes = c.type_inv.s in
    c.by_eight.ensures
    ∙ both_ways a.s.now (λ i. omega (arith, bytes i)) a.at 32 (omega arith) (le_refl 32)
    ∙ by_bytes-bits a.s.now (λ i. omega (arith, bytes i)) a.at 32
