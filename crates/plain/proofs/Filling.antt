-- Lists that are filled from the front, as a whole and by a part that is lent.
use mathlib.Core.Path.{◌≡◌, ap, ◌∙◌}
use mathlib.Core.List.{List, ◌++◌}
use Prim.Native.Nat.{ℕ}
use native.Mathlib.Omega.{arith}
use lib.ListN.{length}
use Rattle.std.proofs.lemmas.List.{append-nil, drop_all}
use Rattle.basics.specs.Lists.{tab, filled}

-- a list that is filled to its end
pub filled-all : (g : ℕ → ℕ) (d : List ℕ) (m : ℕ) → m ≡ length d → filled g m d ≡ tab g (length d)
unfolding filled
filled-all g d m e =
    ap (λ (l : List ℕ). tab g m ++ l) (drop_all m d (omega arith))
    ∙ append-nil (tab g m)
    ∙ ap (tab g) e
