-- `bytes_at` meets its contract: the loop holds the number that the bytes so far make.
use mathlib.Core.Path.{refl, ap₂, ◌∙◌}
use Prim.Native.Nat.{ℕ, ◌*◌, ◌+◌}
use native.Mathlib.Omega.{arith}
use lib.Pow.{pow_mono}
use Rattle.bitreader.specs.Ways.{bytes_from}
use Rattle.bitreader.proofs.Ways.{bytes_from-lt, bytes_from_more}
use Rattle.bitreader.proofs.bytes_at.Goals as goal

pub loop-i-init : goal.loop-i-init
unfolding bytes_from
loop-i-init c = refl

pub overflow_mul-v : goal.overflow_mul-v
overflow_mul-v c =
    let a = c.args in
    let l = c.loop-i in
    omega (arith, l.invariant, bytes_from-lt a.s.now (λ j. omega (arith, c.type_inv.s j)) a.b l.i, pow_mono {i = 8 * l.i} {j = 32} (omega arith))

pub overflow_add-v : goal.overflow_add-v
overflow_add-v c =
    let a = c.args in
    let l = c.loop-i in
    let given = c.type_inv.s in
    omega
    (arith, l.invariant, bytes_from-lt a.s.now (λ j. omega (arith, given j)) a.b l.i, pow_mono {i = 8 * l.i} {j = 32} (omega arith), c.byte_at.ensures, given (a.b + l.i))

pub loop-i-preserved : goal.loop-i-preserved
loop-i-preserved c =
    let a = c.args in
    let l = c.loop-i in
    ap₂ (λ (x y : ℕ). x * 256 + y) l.invariant c.byte_at.ensures ∙ bytes_from_more a.s.now a.b l.i
