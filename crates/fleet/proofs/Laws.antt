-- The kinds of rounds take turns, as the code tells them apart, and a bit of a number by what it is worth.
use mathlib.Core.Path.{◌≡◌, refl, ap, sym, ◌∙◌}
use mathlib.Core.Bool.{Bool, true, false, cond, not, ◌&&◌, and-true, and-false, true≢false}
use Prim.Native.Nat.{ℕ, ◌+◌, ◌-◌, ◌%◌, ◌^◌, ◌<◌}
use native.Mathlib.Decide.{ℕ_discrete}
use native.Mathlib.Omega.{arith}
use native.Mathlib.Nat.{mod-lt}
use borrow.Author.Tests.{eq-eqb, ne_eqb}
use lib.Bits.{bit_and, and_le_r}
use lib.Dec.{eqb, lit<}
use lib.Pow.{pow-lt}
use Rattle.basics.specs.Bits.{bit, odd}
use Rattle.basics.proofs.Bits.{bit-and}
use Rattle.protocol.specs.declared.Cycle.{Cycle}
use Rattle.protocol.specs.declared.Cycle.TheVariants.{TwoRound, SixRound}
use Rattle.protocol.specs.declared.Truck.{Truck}
use Rattle.protocol.specs.Fleets.{chosen}
use Rattle.protocol.proofs.SixRound.{sends-prepare, sends-bit, sends-accept}
use Rattle.sets.proofs.Words.{bit_power, bit-zero, no_bits}
use Rattle.fleet.specs.declared.round.Phase.{Phase}
use Rattle.fleet.specs.declared.round.Phase.TheVariants.{Proposals, Vetoes, Prepare, Bit, Accept}
use Rattle.fleet.specs.Rounds.{phase_of, message_in}

-- the kind of the next round of the two-round cycle
pub next-kind : (d : ℕ) → odd (d + 1) ≡ eqb (d % 2) 0
next-kind d = go (ℕ_discrete (d % 2) 0)
  where
    go : Dec (d % 2 ≡ 0) → odd (d + 1) ≡ eqb (d % 2) 0
    go (yes e) = eq-eqb ((d + 1) % 2) 1 (omega arith) ∙ sym (eq-eqb (d % 2) 0 e)
    go (no e) = ne_eqb ((d + 1) % 2) 1 (λ q. omega arith) ∙ sym (ne_eqb (d % 2) 0 e)

-- the number and the number that its bit p is worth have a bit in common exactly if bit p is 1
pub bit-worth : (x p : ℕ) → not (eqb (bit_and x (2 ^ p)) 0) ≡ bit x p
bit-worth x p = go (bit x p) refl
  where
    there : bit (bit_and x (2 ^ p)) p ≡ bit x p
    there = bit-and x (2 ^ p) p ∙ ap (λ (y : Bool). bit x p && y) (bit_power p p ∙ eq-eqb p p refl) ∙ and-true (bit x p)

    other : (j : ℕ) → bit x p ≡ false → Dec (p ≡ j) → (bit x j && eqb p j) ≡ false
    other j e (yes h) = ap (λ (y : Bool). y && eqb p j) (ap (bit x) (sym h) ∙ e)
    other j e (no h) = ap (λ (y : Bool). bit x j && y) (ne_eqb p j h) ∙ and-false (bit x j)

    go : (b : Bool) → bit x p ≡ b → not (eqb (bit_and x (2 ^ p)) 0) ≡ b
    go true e = ap not (ne_eqb (bit_and x (2 ^ p)) 0 (λ z. true≢false (sym (there ∙ e) ∙ ap (λ (y : ℕ). bit y p) z ∙ bit-zero p)))
    go false e =
        ap not (eq-eqb (bit_and x (2 ^ p)) 0 (no_bits (bit_and x (2 ^ p)) (p + 1) (omega (arith, and_le_r x (2 ^ p), pow-lt (let l : p < p + 1 = omega arith in l)))
        (λ j l. bit-and x (2 ^ p) j ∙ ap (λ (y : Bool). bit x j && y) (bit_power p j) ∙ other j e (ℕ_discrete p j))))

-- the next round of the six-round cycle, by the rounds of the cycle that are done
pub six_phases : (P : Phase → Type 0) (d : ℕ) → ((d + 1) % 6 ≡ 1 → P Prepare)
    → (((d + 1) % 6 ≡ 1 → ⊥) → ((d + 1) % 6 ≡ 0 → ⊥) → P (Bit (2 ^ (5 - (d + 1) % 6)))) → ((d + 1) % 6 ≡ 0 → P Accept) → P (phase_of SixRound d)
six_phases P d prepare bit accept = go (ℕ_discrete (d % 6) 0) (ℕ_discrete (d % 6) 5)
  where
    go : Dec (d % 6 ≡ 0) → Dec (d % 6 ≡ 5) → P (phase_of SixRound d)
    go (yes e) f = rw (eq-eqb (d % 6) 0 e) (prepare (omega arith))
    go (no e) (yes f) = rw (ne_eqb (d % 6) 0 e, eq-eqb (d % 6) 5 f) (accept (omega arith))
    go (no e) (no f) =
        let below : d % 6 < 6 = mod-lt d (lit< tt) in
        let same : 4 - d % 6 ≡ 5 - (d + 1) % 6 = omega arith in
        rw (ne_eqb (d % 6) 0 e, ne_eqb (d % 6) 5 f, same) (bit (λ q. omega arith) (λ q. omega arith))

-- a truck has something to send exactly if the rules of the cycle say so
pub message_right : (c : Cycle) (d : ℕ) (active : Bool) (t : Truck) → message_in (phase_of c d) active t ≡ (chosen c).rules.sends (d + 1) active t
message_right TwoRound d active t = rw (next-kind d) (go (eqb (d % 2) 0))
  where
    go : (b : Bool) → message_in (cond b Proposals Vetoes) active t ≡ cond b (message_in Proposals active t) (message_in Vetoes active t)
    go true = refl
    go false = refl
message_right SixRound d active t =
    six_phases (λ (p : Phase). message_in p active t ≡ (chosen SixRound).rules.sends (d + 1) active t) d
    (λ e. sym (sends-prepare (d + 1) active t e))
    (λ e f. bit-worth t.estimate (5 - (d + 1) % 6) ∙ sym (sends-bit (d + 1) active t e f))
    (λ e. sym (sends-accept (d + 1) active t e))
