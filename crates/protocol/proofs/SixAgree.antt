-- No two trucks decide differently in the six-round cycle: an invariant of one round under zero complete marks.
use mathlib.Core.Path.{◌≡◌, refl, ap, sym, ◌∙◌}
use mathlib.Core.Bool.{Bool, true, false, not, ◌&&◌, ◌||◌, true≢false}
use mathlib.Core.List.{List}
use mathlib.Core.Logic.{◌⊎◌, inl, inr, ⊎_elim}
use Prim.Native.Nat.{ℕ, suc, ◌-◌, ◌/◌, ◌%◌, ◌^◌, ◌≤◌, ◌<◌, min}
use native.Mathlib.Nat.{pow-suc, div-div-eq-div-mul}
use native.Mathlib.Decide.{ℕ_discrete}
use native.Mathlib.Omega.{arith}
use borrow.Author.Tests.{eqb-true, eqb-false, not-true}
use Rattle.basics.specs.Bits.{bit}
use Rattle.basics.proofs.Laws.{and_left, and_right, or_left, or_right}
use Rattle.radio.specs.Radio.{Radio, zero_complete}
use Rattle.radio.proofs.Laws.{sent-none}
use Rattle.protocol.specs.declared.Truck.{Truck}
use Rattle.protocol.specs.Cycles.{radio_in, plays_in}
use Rattle.protocol.specs.Rules.{recorded, truck, runs}
use Rattle.protocol.specs.Six.{estimate_bit, accepts, six_rules}
use Rattle.protocol.specs.Claims.{is_decided}
use Rattle.protocol.proofs.AnyRound.{has_noise, no_noise, UndecidedIn, SettledIn, radio, next, running-runs, next-played, undecided_next, first-decisions}
use Rattle.protocol.proofs.Decisions.{running-state, decided_if}
use Rattle.protocol.proofs.SixRound.{sound-six, bit-sends, accept-sends, plays-prepare, plays-bit, plays-accept}

-- the estimates of any two running, willing trucks are the same but for their s lowest bits
abbrev pub AlikeBut : ℕ → ℕ → List Truck → Type 0
AlikeBut s n ts =
    (i j : ℕ) → i < n → j < n → runs (truck ts i) ≡ true → runs (truck ts j) ≡ true → (truck ts i).unwilling ≡ false → (truck ts j).unwilling ≡ false
    → (truck ts j).estimate / 2 ^ s ≡ (truck ts i).estimate / 2 ^ s

-- how many bits of an estimate the bit rounds after round k are for, until the next accept
abbrev pub bits_left : ℕ → ℕ
bits_left k = min 4 (5 - k % 6)

-- nobody has decided, and after round k the estimates of running, willing trucks are the same but for the bits whose rounds are still to come
pub record Compared (k n : ℕ) (ts : List Truck) : Type 0 where
  pub nobody : UndecidedIn recorded n ts
  pub alike : AlikeBut (bits_left k) n ts

-- estimates up to 15 have no bit above the four lowest
pub alike_crushers : (n : ℕ) (ts : List Truck) → ((i : ℕ) → i < n → (truck ts i).estimate ≤ 15) → AlikeBut 4 n ts
alike_crushers n ts h i j li lj ri rj wi wj = omega (arith, h i li, h j lj)

-- numbers that are the same above a bit and in it
same_bit : (x y s : ℕ) → x / 2 ^ suc s ≡ y / 2 ^ suc s → bit x s ≡ bit y s → x / 2 ^ s ≡ y / 2 ^ s
same_bit x y s h b = go (bit x s) refl
  where
    half : (z : ℕ) → z / 2 ^ suc s ≡ z / 2 ^ s / 2
    half z = ap (λ (d : ℕ). z / d) (pow-suc 2 s) ∙ sym (div-div-eq-div-mul z (2 ^ s) 2)

    halves : x / 2 ^ s / 2 ≡ y / 2 ^ s / 2
    halves = sym (half x) ∙ h ∙ half y

    go : (o : Bool) → bit x s ≡ o → x / 2 ^ s ≡ y / 2 ^ s
    go true e = omega (arith, halves, eqb-true (x / 2 ^ s % 2) 1 e, eqb-true (y / 2 ^ s % 2) 1 (sym b ∙ e))
    go false e =
        let u : x / 2 ^ s % 2 ≡ 1 → ⊥ = eqb-false (x / 2 ^ s % 2) 1 e in
        let v : y / 2 ^ s % 2 ≡ 1 → ⊥ = eqb-false (y / 2 ^ s % 2) 1 (sym b ∙ e) in
        omega (arith, halves)

module _ (n : ℕ) (active : ℕ → Bool) (k : ℕ) (w : List ℕ) (ts : List Truck) where
  abbrev a : Radio
  a = radio six_rules n active k w ts

  abbrev ts' : List Truck
  ts' = next six_rules n active k w ts

  -- where a running truck has no noise in a zero complete round, nothing was sent
  silent : zero_complete a ≡ true → (i : ℕ) → i < n → a.running i ≡ true → has_noise a i ≡ false → (j : ℕ) → j < n → a.sends j ≡ false
  unfolding radio_in
  silent zc i l r q = sent-none a (no_noise a i l r zc q)

  -- nobody decides in another round than accept
  undecided : (k % 6 ≡ 0 → ⊥) → UndecidedIn recorded n ts → UndecidedIn recorded n ts'
  undecided f u =
      undecided_next six_rules n active k w ts sound-six.stamps u
      (λ i l r. go i (ap is_decided (running-state (truck ts i).state (running-runs six_rules n active k w ts i r))) (ℕ_discrete (k % 6) 1))
    where
      go : (i : ℕ) → is_decided (truck ts i).state ≡ false → Dec (k % 6 ≡ 1) → is_decided (plays_in six_rules a k w ts i).state ≡ false
      go i h (yes e) = rw (plays-prepare n active k w ts i e) h
      go i h (no e) = rw (plays-bit n active k w ts i e f) h

  module _ (zc : zero_complete a ≡ true) where
    -- a bit round
    module _ (e : k % 6 ≡ 1 → ⊥) (f : k % 6 ≡ 0 → ⊥) where
      abbrev bit_of : ℕ → Bool
      bit_of i = estimate_bit k (truck ts i)

      -- a truck becomes unwilling in it, if it was not before
      abbrev turns : ℕ → Bool
      turns i = not (bit_of i) && has_noise a i

      -- a truck with bit 0 has noise where another runs with bit 1
      noticed : (i j : ℕ) → i < n → j < n → a.running i ≡ true → a.running j ≡ true → bit_of i ≡ true → bit_of j ≡ false → turns j ≡ false → ⊥
      noticed i j li lj ri rj bi bj s =
          true≢false (sym bi ∙ sym (bit-sends n active k w ts i e f ri) ∙ silent zc j lj rj (rw bj at s) i li)

      same_bits : (i j : ℕ) → i < n → j < n → a.running i ≡ true → a.running j ≡ true → turns i ≡ false → turns j ≡ false → bit_of j ≡ bit_of i
      same_bits i j li lj ri rj si sj = go (bit_of i) refl (bit_of j) refl
        where
          go : (x : Bool) → bit_of i ≡ x → (y : Bool) → bit_of j ≡ y → bit_of j ≡ bit_of i
          go true p true q = q ∙ sym p
          go true p false q = absurd (noticed i j li lj ri rj p q sj)
          go false p true q = absurd (noticed j i lj li rj ri q p si)
          go false p false q = q ∙ sym p

      -- trucks that are willing after it were willing before it, and have the same bit
      alike_bit : AlikeBut (suc (5 - k % 6)) n ts → AlikeBut (5 - k % 6) n ts'
      alike_bit h i j li lj ri rj wi wj =
          let pi = next-played six_rules n active k w ts sound-six.stamps i li ri in
          let pj = next-played six_rules n active k w ts sound-six.stamps j lj rj in
          let qi = pi.1 ∙ plays-bit n active k w ts i e f in
          let qj = pj.1 ∙ plays-bit n active k w ts j e f in
          let vi : ((truck ts i).unwilling || turns i) ≡ false = rw qi at wi in
          let vj : ((truck ts j).unwilling || turns j) ≡ false = rw qj at wj in
          rw (qi, qj)
          (same_bit (truck ts j).estimate (truck ts i).estimate (5 - k % 6)
          (h i j li lj (running-runs six_rules n active k w ts i pi.0) (running-runs six_rules n active k w ts j pj.0)
          (or_left (truck ts i).unwilling (turns i) vi) (or_left (truck ts j).unwilling (turns j) vj))
          (same_bits i j li lj pi.0 pj.0 (or_right (truck ts i).unwilling (turns i) vi) (or_right (truck ts j).unwilling (turns j) vj)))

    -- a truck that decides in accept shares its estimate with all that run
    deciding : k % 6 ≡ 0 → AlikeBut 0 n ts → (i : ℕ) → i < n → a.running i ≡ true → is_decided (plays_in six_rules a k w ts i).state ≡ true
        → (j : ℕ) → j < n → a.running j ≡ true → (truck ts j).estimate ≡ (truck ts i).estimate
    deciding f h i li r d j lj rj =
        let ri = running-runs six_rules n active k w ts i r in
        let x = decided_if k (accepts (has_noise a i) (truck ts i)) (truck ts i).state ri (rw (plays-accept n active k w ts i f) at d) in
        let wi = not-true (truck ts i).unwilling (and_left (not (truck ts i).unwilling) (not (has_noise a i)) x) in
        let q = not-true (has_noise a i) (and_right (not (truck ts i).unwilling) (not (has_noise a i)) x) in
        let wj : (truck ts j).unwilling ≡ false = sym (accept-sends n active k w ts j f rj) ∙ silent zc i li r q j lj in
        let e : (truck ts j).estimate / 2 ^ 0 ≡ (truck ts i).estimate / 2 ^ 0 = h i j li lj ri (running-runs six_rules n active k w ts j rj) wi wj in
        omega arith

-- one round more, after which no estimate is above 15
module _ (n : ℕ) (active : ℕ → Bool) (k : ℕ) (w : List ℕ) (ts : List Truck) where
  abbrev now : List Truck
  now = next six_rules n active (suc k) w ts

  pub compared-next : zero_complete (radio six_rules n active (suc k) w ts) ≡ true → ((i : ℕ) → i < n → (truck (next six_rules n active (suc k) w ts) i).estimate ≤ 15)
      → Compared k n ts → Compared (suc k) n (next six_rules n active (suc k) w ts) ⊎ SettledIn recorded n (next six_rules n active (suc k) w ts)
  compared-next zc small c = go (ℕ_discrete (suc k % 6) 0) (ℕ_discrete (suc k % 6) 1)
    where
      -- after accept and after prepare the rounds of all four bits are to come
      fresh : bits_left (suc k) ≡ 4 → UndecidedIn recorded n now → Compared (suc k) n now
      fresh e u = record { nobody = u; alike = rw e (alike_crushers n now small) }

      go : Dec (suc k % 6 ≡ 0) → Dec (suc k % 6 ≡ 1) → Compared (suc k) n now ⊎ SettledIn recorded n now
      go (yes f) d =
          let last : bits_left k ≡ 0 = omega arith in
          ⊎_elim (λ u. inl (fresh (omega arith) u)) inr
          (first-decisions six_rules n active (suc k) w ts sound-six.stamps c.nobody (λ i. rw (plays-accept n active (suc k) w ts i f))
          (deciding n active (suc k) w ts zc f (rw last at c.alike)))
      go (no f) (yes e) = inl (fresh (omega arith) (undecided n active (suc k) w ts f c.nobody))
      go (no f) (no e) =
          let before : bits_left k ≡ suc (5 - suc k % 6) = omega arith in
          let after : bits_left (suc k) ≡ 5 - suc k % 6 = omega arith in
          inl (record {
            nobody = undecided n active (suc k) w ts f c.nobody;
            alike = rw after (alike_bit n active (suc k) w ts zc e f (rw before at c.alike));
          })
