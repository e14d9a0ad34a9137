-- What one round of the six-round cycle makes of the trucks, for any active bits, and what refusal 7 asks of willingness by it.
use mathlib.Core.Path.{◌≡◌, refl, ap, sym, subst, ◌∙◌}
use mathlib.Core.Bool.{Bool, true, false, ◌&&◌, ◌||◌, false≢true}
use mathlib.Core.List.{List, Memᴰ}
use mathlib.Core.Logic.{◌⊎◌, inl}
use Prim.Native.Nat.{ℕ, suc, ◌%◌, ◌≤◌}
use native.Mathlib.Decide.{ℕ_discrete}
use native.Mathlib.Omega.{arith}
use borrow.Author.Tests.{ne_eqb, eq-eqb, le-leb, leb-true}
use lib.Dec.{ltb, leb}
use Rattle.basics.proofs.Laws.{and_left, and_right, and_both}
use Rattle.radio.specs.Radio.{Radio}
use Rattle.radio.specs.Round.{active_bit}
use Rattle.radio.proofs.Laws.{implies_mp, implies_by}
use Rattle.protocol.specs.declared.State.TheVariants.{Running, Decided}
use Rattle.protocol.specs.declared.Truck.{Truck}
use Rattle.protocol.specs.Cycles.{is_running, values_in, radio_in, plays_in}
use Rattle.protocol.specs.Rules.{recorded, truck, runs, least_or}
use Rattle.protocol.specs.Six.{is_accept, estimate_bit, noise, stops_six, after_prepare, after_bit, accepts, after_accept, six_rules}
use Rattle.protocol.specs.Fleets.{six_memory, six_round}
use Rattle.protocol.proofs.AnyRound.{has_noise, sends-rules, values-heard, plays_is}
use Rattle.protocol.proofs.Good.{Sound}
use Rattle.protocol.proofs.Decisions.{running-state, decided_state, least-taken}

-- who sends, by the kind of round
module _ (k : ℕ) (active : Bool) (t : Truck) where
  pub sends-prepare : k % 6 ≡ 1 → six_rules.sends k active t ≡ active
  sends-prepare e = rw e

  pub sends-bit : (k % 6 ≡ 1 → ⊥) → (k % 6 ≡ 0 → ⊥) → six_rules.sends k active t ≡ estimate_bit k t
  sends-bit e f = rw (ne_eqb (k % 6) 1 e, ne_eqb (k % 6) 0 f)

  pub sends-accept : k % 6 ≡ 0 → six_rules.sends k active t ≡ t.unwilling
  sends-accept e = rw e

-- a truck that plays round k, by the kind of round
module _ (k : ℕ) (b s m : Bool) (vs : List ℕ) (t : Truck) where
  pub six-prepare : k % 6 ≡ 1 → six_rules.plays k b s m vs t ≡ after_prepare m (least_or t.estimate vs) t
  six-prepare e = rw e

  pub six-bit : (k % 6 ≡ 1 → ⊥) → (k % 6 ≡ 0 → ⊥) → six_rules.plays k b s m vs t ≡ after_bit (estimate_bit k t) (noise m vs) t
  six-bit e f = rw (ne_eqb (k % 6) 1 e, ne_eqb (k % 6) 0 f)

  pub six-accept : k % 6 ≡ 0 → six_rules.plays k b s m vs t ≡ after_accept k (noise m vs) t
  six-accept e = rw e

  pub six_cases : (P : Truck → Type 0) → (k % 6 ≡ 1 → P (after_prepare m (least_or t.estimate vs) t))
      → ((k % 6 ≡ 1 → ⊥) → (k % 6 ≡ 0 → ⊥) → P (after_bit (estimate_bit k t) (noise m vs) t))
      → (k % 6 ≡ 0 → P (after_accept k (noise m vs) t)) → P (six_rules.plays k b s m vs t)
  six_cases P prepare bit accept = go (ℕ_discrete (k % 6) 1) (ℕ_discrete (k % 6) 0)
    where
      go : Dec (k % 6 ≡ 1) → Dec (k % 6 ≡ 0) → P (six_rules.plays k b s m vs t)
      go (yes e) d = subst P (sym (six-prepare e)) (prepare e)
      go (no e) (yes f) = subst P (sym (six-accept f)) (accept f)
      go (no e) (no f) = subst P (sym (six-bit e f)) (bit e f)

-- what refusal 7 asks of willingness: a willing truck passes, and an unwilling one passes if it runs and 2 to 5 rounds of the cycle are done, and only then
module _ (done : ℕ) (t : Truck) where
  pub willing_memory : t.unwilling ≡ false → six_memory done t ≡ true
  willing_memory h = rw h

  pub amid_memory : runs t ≡ true → 2 ≤ done % 6 → six_memory done t ≡ true
  amid_memory h l = implies_by t.unwilling (runs t && leb 2 (done % 6)) (λ u. and_both (runs t) (leb 2 (done % 6)) h (le-leb 2 (done % 6) l))

  pub unwilling_parts : t.unwilling ≡ true → six_memory done t ≡ true → (runs t ≡ true) × (2 ≤ done % 6)
  unwilling_parts u g =
      let h = implies_mp t.unwilling (runs t && leb 2 (done % 6)) g u in
      (and_left (runs t) (leb 2 (done % 6)) h, leb-true 2 (done % 6) (and_right (runs t) (leb 2 (done % 6)) h))

  -- so one that doesn't run is willing
  pub idle_willing : runs t ≡ false → six_memory done t ≡ true → t.unwilling ≡ false
  idle_willing h g = go t.unwilling refl
    where
      go : (u : Bool) → t.unwilling ≡ u → u ≡ false
      go false e = refl
      go true e = absurd (false≢true (sym h ∙ (unwilling_parts e g).0))

-- the six-round cycle has what any cycle of fleet records has to show
pub sound-six : Sound six_round
sound-six =
    record {
      stamps = record {
        stops = λ k t. refl;
        plays = λ k b s m vs t h.
            six_cases k b s m vs t (λ (u : Truck). (u.state ≡ Running) ⊎ (u.state ≡ Decided k)) (λ e. inl (running-state t.state h))
            (λ e f. inl (running-state t.state h)) (λ e. decided_state k (accepts (noise m vs) t) t.state h);
      };
      takes = record {
        opened = λ v. refl;
        stops = λ k t. refl;
        plays = λ k b s m vs t.
            six_cases k b s m vs t (λ (u : Truck). (u.estimate ≡ t.estimate) ⊎ Memᴰ u.estimate vs)
            (λ e. least-taken m t.estimate vs) (λ e f. inl refl) (λ e. inl refl);
      };
      stops-opening = λ k t. refl;
      plays-opening = λ k b s m vs t. six_cases k b s m vs t (λ (u : Truck). u.opening ≡ t.opening) (λ e. refl) (λ e f. refl) (λ e. refl);
      in_time = λ k b s m vs t h.
          six_cases k b s m vs t (λ (u : Truck). u.state ≡ Decided k → is_accept k ≡ true)
          (λ e d. absurd (undecided t k h d)) (λ e f d. absurd (undecided t k h d)) (λ e d. eq-eqb (k % 6) 0 e);
      opened_memory = λ v. refl;
      idle_memory = λ done t h g. willing_memory (suc done) t (idle_willing done t h g);
      stops_memory = λ done t h g. willing_memory (suc done) (stops_six (suc done) t) refl;
      plays_memory = λ done b s m vs t h g.
          six_cases (suc done) b s m vs t (λ (u : Truck). six_memory (suc done) u ≡ true)
          (λ e. willing_memory (suc done) (after_prepare m (least_or t.estimate vs) t) refl)
          (λ e f. amid_memory (suc done) (after_bit (estimate_bit (suc done) t) (noise m vs) t) h (omega arith))
          (λ e. willing_memory (suc done) (after_accept (suc done) (noise m vs) t) refl);
      opened-counts = λ v. refl;
      later_counts = λ done c h. refl;
      stops-sent = λ k t. refl;
      plays-counts = λ done b s m vs t h. refl;
    }
  where
    undecided : (t : Truck) (k : ℕ) → runs t ≡ true → t.state ≡ Decided k → ⊥
    undecided t k h d = false≢true (sym (ap is_running d) ∙ h)

module _ (n : ℕ) (active : ℕ → Bool) (k : ℕ) (w : List ℕ) (ts : List Truck) where
  abbrev a : Radio
  a = radio_in six_rules n active k w ts

  -- a running truck sends in prepare if it is active, in a bit round if that bit of its estimate is 1, and in accept if it is unwilling
  pub prepare-sends : (i : ℕ) → k % 6 ≡ 1 → (radio_in six_rules n active k w ts).running i ≡ true → (radio_in six_rules n active k w ts).sends i ≡ active i
  prepare-sends i e h = sends-rules six_rules n active k w ts i h ∙ sends-prepare k (active i) (truck ts i) e

  pub bit-sends : (i : ℕ) → (k % 6 ≡ 1 → ⊥) → (k % 6 ≡ 0 → ⊥) → (radio_in six_rules n active k w ts).running i ≡ true
      → (radio_in six_rules n active k w ts).sends i ≡ estimate_bit k (truck ts i)
  bit-sends i e f h = sends-rules six_rules n active k w ts i h ∙ sends-bit k (active i) (truck ts i) e f

  pub accept-sends : (i : ℕ) → k % 6 ≡ 0 → (radio_in six_rules n active k w ts).running i ≡ true → (radio_in six_rules n active k w ts).sends i ≡ (truck ts i).unwilling
  accept-sends i e h = sends-rules six_rules n active k w ts i h ∙ sends-accept k (active i) (truck ts i) e

  -- what the three kinds of round make of a truck that plays
  pub plays-prepare : (i : ℕ) → k % 6 ≡ 1
      → plays_in six_rules (radio_in six_rules n active k w ts) k w ts i
      ≡ after_prepare ((radio_in six_rules n active k w ts).marked i)
      (least_or (truck ts i).estimate (values_in recorded (radio_in six_rules n active k w ts) ts i)) (truck ts i)
  plays-prepare i e = plays_is six_rules n active k w ts i ∙ six-prepare k (active_bit w i) (a.sends i) (a.marked i) (values_in recorded a ts i) (truck ts i) e

  pub plays-bit : (i : ℕ) → (k % 6 ≡ 1 → ⊥) → (k % 6 ≡ 0 → ⊥)
      → plays_in six_rules (radio_in six_rules n active k w ts) k w ts i
      ≡ after_bit (estimate_bit k (truck ts i)) (has_noise (radio_in six_rules n active k w ts) i) (truck ts i)
  plays-bit i e f =
      plays_is six_rules n active k w ts i
      ∙ six-bit k (active_bit w i) (a.sends i) (a.marked i) (values_in recorded a ts i) (truck ts i) e f
      ∙ ap (λ (x : ℕ). after_bit (estimate_bit k (truck ts i)) (a.marked i || ltb 0 x) (truck ts i)) (values-heard six_rules n active k w ts i)

  pub plays-accept : (i : ℕ) → k % 6 ≡ 0
      → plays_in six_rules (radio_in six_rules n active k w ts) k w ts i
      ≡ after_accept k (has_noise (radio_in six_rules n active k w ts) i) (truck ts i)
  plays-accept i e =
      plays_is six_rules n active k w ts i
      ∙ six-accept k (active_bit w i) (a.sends i) (a.marked i) (values_in recorded a ts i) (truck ts i) e
      ∙ ap (λ (x : ℕ). after_accept k (a.marked i || ltb 0 x) (truck ts i)) (values-heard six_rules n active k w ts i)
