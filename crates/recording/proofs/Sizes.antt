-- The sizes of a recording stay far below the limits of the code's numbers, and each round stands within its recording.
use mathlib.Core.Path.{◌≡◌}
use Prim.Native.Nat.{ℕ, ◌+◌, ◌*◌, ◌<◌, ◌≤◌, ◌^◌}
use native.Mathlib.Nat.{mul-le-mul, mul-le-mul_right}
use native.Mathlib.Omega.{arith}
use Rattle.recording.specs.Packed.{round_place, bits_for}

pub square_small : (n : ℕ) → n < 256 → n * n ≤ 65025
square_small n h = mul-le-mul (let o : n ≤ 255 = omega arith in o) (let o : n ≤ 255 = omega arith in o)

pub rounds_small : (n R : ℕ) → n < 256 → R < 65536 → R * (3 * n + n * n) ≤ 4311547650
rounds_small n R h l =
    mul-le-mul (let o : R ≤ 65535 = omega arith in o) (let o : 3 * n + n * n ≤ 65790 = omega (arith, square_small n h) in o)

pub bits_small : (n R : ℕ) → n < 256 → R < 65536 → bits_for n R < 2 ^ 33
unfolding bits_for
bits_small n R h l = omega (arith, rounds_small n R h l)

-- within the limits of a recording
pub rounds_within : (n R : ℕ) → n ≤ 32 → R ≤ 400 → R * (3 * n + n * n) ≤ 448000
rounds_within n R h l =
    mul-le-mul l (let o : 3 * n + n * n ≤ 1120 = omega (arith, mul-le-mul {n₁ = n} {m₁ = n} {n₂ = 32} {m₂ = 32} h h) in o)

-- the rows of each round stand within the recording
pub rows_within : (n R r at m : ℕ) → r < R → at ≡ round_place n r + 3 * n → bits_for n R ≤ m → at + n * n ≤ m
unfolding bits_for
rows_within n R r at m l e h =
    let o : (r + 1) * (3 * n + n * n) ≤ R * (3 * n + n * n) = mul-le-mul_right (3 * n + n * n) (let u : r + 1 ≤ R = omega arith in u) in
    omega arith
