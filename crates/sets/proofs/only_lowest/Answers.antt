-- `only_lowest` meets its contract: what the rest lacks.
use mathlib.Core.Path.{◌≡◌, refl, ap, ◌∙◌}
use mathlib.Core.Bool.{Bool, true, false, cond}
use Prim.Native.Nat.{ℕ, ◌^◌, ◌<◌}
use native.Mathlib.Decide.{ℕ_discrete}
use borrow.Author.Tests.{eq-eqb, ne_eqb}
use lib.Bits.{bit_xor, xor_lt, xor_zero_r}
use lib.Count.{count_trailing_zeros}
use lib.Dec.{eqb}
use lib.Pow.{pow-lt}
use Rattle.basics.specs.Bits.{bit}
use Rattle.basics.proofs.Bits.{bit-xor, one_of}
use Rattle.sets.specs.Sets.{rest_of, lowest_only}
use Rattle.sets.proofs.Words.{same_bits, positive, trailing_bit}
use Rattle.sets.proofs.only_lowest.Goals as goal

twice : (a b : Bool) → one_of a (one_of a b) ≡ b
twice true true = refl
twice true false = refl
twice false true = refl
twice false false = refl

xor-twice : (k a b : ℕ) → a < 2 ^ k → b < 2 ^ k → bit_xor a (bit_xor a b) ≡ b
xor-twice k a b la lb =
    same_bits (bit_xor a (bit_xor a b)) b k (xor_lt k a (bit_xor a b) la (xor_lt k a b la lb)) lb
    (λ j l. bit-xor a (bit_xor a b) j ∙ ap (one_of (bit a j)) (bit-xor a b j) ∙ twice (bit a j) (bit b j))

pub returns : goal.returns
unfolding rest_of lowest_only
returns c = rw c.rest.ensures (go (ℕ_discrete c.args.set 0))
  where
    x : ℕ
    x = c.args.set

    go : Dec (x ≡ 0) → bit_xor x (cond (eqb x 0) 0 (bit_xor x (2 ^ count_trailing_zeros 32 x))) ≡ cond (eqb x 0) 0 (2 ^ count_trailing_zeros 32 x)
    go (yes e) = rw (eq-eqb x 0 e) (ap (λ (y : ℕ). bit_xor y 0) e ∙ xor_zero_r 0)
    go (no h) =
        rw (ne_eqb x 0 h) (xor-twice 32 x (2 ^ count_trailing_zeros 32 x) c.ranges.set.fits (pow-lt (trailing_bit 32 x (positive x h) c.ranges.set.fits).0))
