-- The two ways on eleven bytes: eight remain up to bit 31, and no further.
use mathlib.Core.Path.{◌≡◌, refl}
use mathlib.Core.List.{List, [], ◌∷◌}
use Prim.Native.Nat.{ℕ}
use native.Mathlib.Omega.{arith}
use lib.Dec.{lit≤}
use Rattle.bitreader.specs.Ways.{bytes_from, EightRemain, by_eight, by_bytes}

abbrev eleven : List ℕ
eleven = 0x01 ∷ 0x23 ∷ 0x45 ∷ 0x67 ∷ 0x89 ∷ 0xab ∷ 0xcd ∷ 0xef ∷ 0x10 ∷ 0x32 ∷ 0x54 ∷ []

pub remain_31 : EightRemain eleven 31
remain_31 = lit≤ tt

pub remain_32 : EightRemain eleven 32 → ⊥
remain_32 h = omega arith

-- 32 bits from bit 7 and from bit 31, and 13 from there
pub eight_cases : (by_eight eleven 7 32 ≡ 0x91a2b3c4) × (by_eight eleven 31 32 ≡ 0xc4d5e6f7) × (by_eight eleven 31 13 ≡ 0x189a)
unfolding bytes_from
eight_cases = (refl, refl, refl)

pub bytes_cases : (by_bytes eleven 7 32 ≡ 0x91a2b3c4) × (by_bytes eleven 31 32 ≡ 0xc4d5e6f7) × (by_bytes eleven 31 13 ≡ 0x189a)
unfolding bytes_from
bytes_cases = (refl, refl, refl)
