-- A round on the radio by sets of trucks: who is heard, and how many.
use mathlib.Core.Path.{◌≡◌, refl, ap, ap₂, sym, ◌∙◌}
use mathlib.Core.Bool.{Bool, true, false, not, ◌&&◌, ◌||◌, and-false}
use Prim.Native.Nat.{ℕ, ◌^◌, ◌<◌}
use native.Mathlib.Omega.{arith}
use native.Mathlib.Decide.{ℕ_discrete}
use borrow.Author.Tests.{eq-eqb, ne_eqb, lt-ltb, le-ltb}
use lib.Bits.{bit_and, bit_or, bit_xor, and_zero_l, or_zero_r, and_le_l, or_lt, xor_lt}
use lib.Count.{ones, ones-ones}
use lib.Dec.{eqb, ltb}
use lib.ListN.{length}
use Rattle.basics.specs.Bits.{bit}
use Rattle.basics.specs.Lists.{who}
use Rattle.radio.specs.Radio.{Radio, hears}
use Rattle.basics.proofs.Laws.{who_ext}
use Rattle.radio.proofs.Laws.{count-some}
use Rattle.basics.proofs.Bits.{bit-and, bit-or}
use Rattle.sets.proofs.Words.{bit-without, bit_power, no_bits, ones-count, some-bit}
use Rattle.sets.specs.Sets.{Members, without}
use Rattle.playback.specs.Sets.{heard_set}
use Rattle.sets.proofs.Members.{members-and, members-without}

-- those that a word holds, in their order
pub who-members : {w n : ℕ} {p : ℕ → Bool} → Members w n p → who p n ≡ who (bit w) n
who-members {w} {n} {p} m = who_ext p (bit w) n (λ j l. sym (m.each j l))

pub count-members : {w n : ℕ} {p : ℕ → Bool} → Members w n p → length (who p n) ≡ ones w
count-members {w} {n} m = ap length (who-members m) ∙ sym (ones-count w n m.below)

-- a set that isn't empty has at least one member
pub some-members : {w n : ℕ} {p : ℕ → Bool} → Members w n p → ltb 0 (length (who p n)) ≡ not (eqb w 0)
some-members {w} {n} {p} m = go (ℕ_discrete w 0)
  where
    go : Dec (w ≡ 0) → ltb 0 (length (who p n)) ≡ not (eqb w 0)
    go (yes e) =
        le-ltb 0 (length (who p n)) (omega (arith, count-members m, ap ones e, ones-ones 0)) ∙ sym (ap not (eq-eqb w 0 e))
    go (no e) =
        let r = some-bit w n m.below e in
        lt-ltb 0 (length (who p n)) (count-some p n r.0 r.1 (sym (m.each r.0 r.1) ∙ r.2)) ∙ sym (ap not (ne_eqb w 0 e))

-- the senders that a truck hears, whose own set is its bit
pub heard_by_own : (senders row p own r : ℕ) → r ≡ bit_or (without senders row) (bit_and senders own) → own ≡ 2 ^ p → r ≡ heard_set senders row p
unfolding heard_set
heard_by_own senders row p own r e q = e ∙ ap (λ (x : ℕ). bit_or (without senders row) (bit_and senders x)) q

-- whoever is heard sends
pub heard-sends : (senders row p j : ℕ) → bit (heard_set senders row p) j ≡ true → bit senders j ≡ true
unfolding heard_set
heard-sends senders row p j h =
    go (bit senders j) (bit row j) (bit (2 ^ p) j)
    (sym (bit-or (without senders row) (bit_and senders (2 ^ p)) j ∙ ap₂ ◌||◌ (bit-without senders row j) (bit-and senders (2 ^ p) j)) ∙ h)
  where
    go : (s r o : Bool) → ((s && not r) || (s && o)) ≡ true → s ≡ true
    go true r o e = refl
    go false r o e = e

pub heard-fits : (senders row p : ℕ) → senders < 2 ^ 32 → heard_set senders row p < 2 ^ 32
unfolding heard_set
heard-fits senders row p l =
    or_lt 32 (without senders row) (bit_and senders (2 ^ p)) (xor_lt 32 senders (bit_and senders row) l (omega (arith, and_le_l senders row))) (omega (arith, and_le_l senders (2 ^ p)))

-- nobody is heard where nobody sends
pub heard_silent : (senders row p : ℕ) → senders ≡ 0 → heard_set senders row p ≡ 0
unfolding heard_set
heard_silent senders row p z = rw (z, and_zero_l row, and_zero_l (2 ^ p))

-- one that doesn't send itself hears no more than the row says
pub heard-others : (senders row p : ℕ) → senders < 2 ^ 32 → bit senders p ≡ false → heard_set senders row p ≡ without senders row
unfolding heard_set
heard-others senders row p lt h =
    ap (bit_or (without senders row))
    (no_bits (bit_and senders (2 ^ p)) 32 (omega (arith, and_le_l senders (2 ^ p)))
    (λ j l. bit-and senders (2 ^ p) j ∙ ap (λ (b : Bool). bit senders j && b) (bit_power p j) ∙ go j (ℕ_discrete p j)))
    ∙ or_zero_r (without senders row)
  where
    go : (j : ℕ) → Dec (p ≡ j) → (bit senders j && eqb p j) ≡ false
    go j (yes e) = ap (λ (b : Bool). b && eqb p j) (ap (bit senders) (sym e) ∙ h)
    go j (no e) = ap (λ (b : Bool). bit senders j && b) (ne_eqb p j e) ∙ and-false (bit senders j)

-- the trucks that truck i hears
module _ (a : Radio) (i senders row : ℕ) (sends : Members senders a.trucks a.sends) (lost : (j : ℕ) → j < a.trucks → a.sends j ≡ true → a.lost i j ≡ bit row j) where
  pub hearers : Members (heard_set senders row i) a.trucks (hears a i)
  unfolding heard_set hears
  hearers =
      record {
        below = or_lt a.trucks (bit_xor senders (bit_and senders row)) (bit_and senders (2 ^ i)) (members-without sends row).below (members-and sends (2 ^ i)).below;
        each = λ j l.
            bit-or (bit_xor senders (bit_and senders row)) (bit_and senders (2 ^ i)) j
            ∙ ap₂ ◌||◌ ((members-without sends row).each j l) ((members-and sends (2 ^ i)).each j l ∙ ap (λ (b : Bool). a.sends j && b) (bit_power i j))
            ∙ go (a.sends j) (bit row j) (eqb i j) (a.lost i j) (lost j l);
      }
    where
      go : (s r o b : Bool) → (s ≡ true → b ≡ r) → ((s && not r) || (s && o)) ≡ (s && (o || not b))
      go true true true b h = refl
      go true true false b h = sym (ap not (h refl))
      go true false true b h = refl
      go true false false b h = sym (ap not (h refl))
      go false r o b h = refl
