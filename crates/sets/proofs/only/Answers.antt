-- `only` meets its contract.
use mathlib.Core.Path.{◌≡◌, ap, sym, ◌∙◌}
use Prim.Native.Nat.{ℕ, ◌%◌, ◌^◌, ◌+◌, ◌-◌, ◌*◌}
use native.Mathlib.Omega.{arith}
use lib.Pow.{pow-add, pow_pos, low}
use Rattle.sets.proofs.only.Goals as goal

pub returns-else-i-lt32 : goal.returns-else-i-lt32
returns-else-i-lt32 c =
    let i = c.args.i in
    sym (ap (λ x. x % 2 ^ 32) (ap (λ (m : ℕ). 2 ^ m) (let e : i ≡ i - 32 + 32 = omega (arith, c.if-i-lt32.false) in e) ∙ pow-add 2 (i - 32) 32 ∙ let z : 2 ^ (i - 32) * 2 ^ 32 ≡ 2 ^ (i - 32) * 2 ^ 32 + 0 = omega arith in z)
    ∙ low (2 ^ (i - 32)) 32 (pow_pos 32))
