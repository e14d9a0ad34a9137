-- What deciding does to a truck's state, and what taking the least value does to its estimate.
use mathlib.Core.Path.{◌≡◌, refl}
use mathlib.Core.Bool.{Bool, true, false, cond, false≢true}
use mathlib.Core.List.{List, Memᴰ}
use mathlib.Core.Logic.{◌⊎◌, inl, inr}
use Prim.Native.Nat.{ℕ}
use Rattle.protocol.specs.declared.State.{State}
use Rattle.protocol.specs.declared.State.TheVariants.{Running, Stopped, Decided}
use Rattle.protocol.specs.Cycles.{is_running}
use Rattle.protocol.specs.Rules.{least_or}
use Rattle.protocol.specs.Claims.{is_decided}
use Rattle.protocol.proofs.Values.{least_in}

pub running-state : (s : State) → is_running s ≡ true → s ≡ Running
running-state Running h = refl
running-state (Stopped r) h = absurd (false≢true h)
running-state (Decided r) h = absurd (false≢true h)

-- a truck that decides in round k if d holds, and runs on otherwise
pub decided_state : (k : ℕ) (d : Bool) (s : State) → is_running s ≡ true → (cond d (Decided k) s ≡ Running) ⊎ (cond d (Decided k) s ≡ Decided k)
decided_state k true s h = inr refl
decided_state k false s h = inl (running-state s h)

pub decided_if : (k : ℕ) (d : Bool) (s : State) → is_running s ≡ true → is_decided (cond d (Decided k) s) ≡ true → d ≡ true
decided_if k true s h g = refl
decided_if k false s h g = absurd (false≢true (rw (running-state s h) at g))

-- a truck with a mark keeps its estimate, any other takes the least value heard
pub least-taken : (m : Bool) (e : ℕ) (vs : List ℕ) → (cond m e (least_or e vs) ≡ e) ⊎ Memᴰ (cond m e (least_or e vs)) vs
least-taken true e vs = inl refl
least-taken false e vs = least_in e vs
