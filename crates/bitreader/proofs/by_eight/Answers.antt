-- `by_eight` meets its contract: of 64 bits, those behind the skipped ones and 32 more are shifted out.
use mathlib.Core.Path.{◌≡◌, ap, ◌∙◌}
use Prim.Native.Nat.{ℕ, ◌-◌, ◌/◌, ◌%◌, ◌^◌}
use native.Mathlib.Omega.{arith}
use Rattle.bitreader.proofs.by_eight.Goals as goal

pub returns : goal.returns
returns c =
    let a = c.args in
    let v = c.eight_at in
    ap (λ (e : ℕ). v.result / 2 ^ e % 2 ^ 32) (let o : 32 - a.at % 8 ≡ 64 - a.at % 8 - 32 = omega arith in o)
    ∙ ap (λ (x : ℕ). x / 2 ^ (64 - a.at % 8 - 32) % 2 ^ 32) v.ensures
