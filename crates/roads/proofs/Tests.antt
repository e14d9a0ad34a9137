-- What `any` tests of a list is a test of its places.
use mathlib.Core.Path.{◌≡◌, refl}
use mathlib.Core.Bool.{Bool, true, false}
use mathlib.Core.Logic.{◌↔◌}
use Prim.Native.Nat.{ℕ, ◌<◌}
use native.Mathlib.Nat.{le_refl}
use Rattle.std.specs.Prelude.{IsTrue}
use Rattle.basics.specs.Lists.{some_below}
use Rattle.basics.proofs.Laws.{some_hit, some_end}

-- a test that holds where some number below m has p
pub some_by : (p : ℕ → Bool) (m : ℕ) (b : Bool) → (IsTrue b ↔ ((k : ℕ) × (k < m) × IsTrue (p k))) → b ≡ some_below p m
some_by p m true h = let w = h.0 refl in some_hit p m w.0 w.1 w.2
some_by p m false h = some_end p m m (le_refl m) (λ k l. go (p k) (λ e. h.1 (k, l, e)))
  where
    go : (b : Bool) → (b ≡ true → false ≡ true) → b ≡ false
    go true f = cc (f refl)
    go false f = refl
