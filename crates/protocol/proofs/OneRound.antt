-- What one round of the two-round cycle makes of the trucks, for any active bits.
use mathlib.Core.Path.{◌≡◌, refl, ap, sym, ◌∙◌}
use mathlib.Core.Bool.{Bool, true, false, cond, not, false≢true}
use mathlib.Core.List.{List, Memᴰ}
use mathlib.Core.Logic.{◌⊎◌, inl}
use Prim.Native.Nat.{ℕ, suc}
use lib.Dec.{ltb}
use lib.ListN.{length}
use Rattle.basics.specs.Bits.{odd}
use Rattle.basics.proofs.Laws.{or_left, or_right, or-none}
use Rattle.radio.specs.Radio.{Radio, heard}
use Rattle.radio.specs.Round.{active_bit}
use Rattle.protocol.specs.declared.State.TheVariants.{Running, Decided}
use Rattle.protocol.specs.declared.Truck.{Truck}
use Rattle.protocol.specs.Cycles.{is_running}
use Rattle.protocol.specs.Claims.{is_decided}
use Rattle.protocol.specs.Rules.{two_rules, truck, is_one, runs, vetoes, different, least_or, stops, proposed, decides, vetoed, radio_of, values_heard, plays}
use Rattle.protocol.specs.Fleets.{two_memory, two_counts, two_round}
use Rattle.protocol.proofs.AnyRound.{has_noise, sends-rules, values-heard, plays_is}
use Rattle.protocol.proofs.Good.{Sound}
use Rattle.protocol.proofs.Decisions.{running-state, decided_state, decided_if, least-taken}
use Rattle.protocol.proofs.Rules.{decides_parts, decides_by, sends-veto, plays-odd, plays_even, plays_cases, memory_even, memory_odd, memory_idle, counts_later, counts-proposed, counts-vetoed}

-- the two-round cycle has what any cycle of fleet records has to show
pub sound_two : Sound two_round
sound_two =
    record {
      stamps = record {
        stops = λ k t. refl;
        plays = λ k b s m vs t h.
            plays_cases k b s m vs t (λ (u : Truck). (u.state ≡ Running) ⊎ (u.state ≡ Decided k))
            (λ e. inl (running-state t.state h)) (λ e. decided_state k (decides m (ltb 0 (length vs)) t) t.state h);
      };
      takes = record {
        opened = λ v. refl;
        stops = λ k t. refl;
        plays = λ k b s m vs t.
            plays_cases k b s m vs t (λ (u : Truck). (u.estimate ≡ t.estimate) ⊎ Memᴰ u.estimate vs)
            (λ e. least-taken m t.estimate vs) (λ e. inl refl);
      };
      stops-opening = λ k t. refl;
      plays-opening = λ k b s m vs t. plays_cases k b s m vs t (λ (u : Truck). u.opening ≡ t.opening) (λ e. refl) (λ e. refl);
      in_time = λ k b s m vs t h.
          plays_cases k b s m vs t (λ (u : Truck). u.state ≡ Decided k → not (odd k) ≡ true)
          (λ e d. absurd (false≢true (sym (ap is_running d) ∙ h))) (λ e d. ap not e);
      opened_memory = λ v. refl;
      idle_memory = λ done t h g. memory_idle (suc done) t h ∙ sym (memory_idle done t h) ∙ g;
      stops_memory = λ done t h g. memory_idle (suc done) (stops (suc done) t) refl;
      plays_memory = λ done b s m vs t h g.
          plays_cases (suc done) b s m vs t (λ (u : Truck). two_memory (suc done) u ≡ true)
          (λ e. memory_odd (suc done) (proposed s m (different vs) (least_or t.estimate vs) t) e h)
          (λ e. memory_even (suc done) (vetoed (suc done) s m (ltb 0 (length vs)) t) e);
      opened-counts = λ v. refl;
      later_counts = counts_later;
      stops-sent = λ k t. refl;
      plays-counts = λ done b s m vs t g.
          plays_cases (suc done) b s m vs t (λ (u : Truck). two_counts (suc done) u.sent ≡ true) (counts-proposed done s m vs t g) (counts-vetoed done s m vs t g);
    }

module _ (n : ℕ) (active : ℕ → Bool) (k : ℕ) (w : List ℕ) (ts : List Truck) where
  abbrev a : Radio
  a = radio_of n active k w ts

  -- in a veto round a running truck that would veto sends
  pub veto-sends : (i : ℕ) → odd k ≡ false → (radio_of n active k w ts).running i ≡ true → (radio_of n active k w ts).sends i ≡ vetoes (truck ts i)
  veto-sends i e h = sends-rules two_rules n active k w ts i h ∙ sends-veto k (active i) (truck ts i) e

  -- what the two kinds of round make of a truck that plays
  pub plays_proposal : (i : ℕ) → odd k ≡ true
      → plays (radio_of n active k w ts) k w ts i
      ≡ proposed ((radio_of n active k w ts).sends i) ((radio_of n active k w ts).marked i) (different (values_heard (radio_of n active k w ts) ts i))
      (least_or (truck ts i).estimate (values_heard (radio_of n active k w ts) ts i)) (truck ts i)
  plays_proposal i e = plays_is two_rules n active k w ts i ∙ plays-odd k (active_bit w i) (a.sends i) (a.marked i) (values_heard a ts i) (truck ts i) e

  pub plays-veto : (i : ℕ) → odd k ≡ false
      → plays (radio_of n active k w ts) k w ts i ≡ vetoed k ((radio_of n active k w ts).sends i) ((radio_of n active k w ts).marked i) (ltb 0 (heard (radio_of n active k w ts) i)) (truck ts i)
  plays-veto i e =
      plays_is two_rules n active k w ts i
      ∙ plays_even k (active_bit w i) (a.sends i) (a.marked i) (values_heard a ts i) (truck ts i) e
      ∙ ap (λ (m : ℕ). vetoed k (a.sends i) (a.marked i) (ltb 0 m) (truck ts i)) (values-heard two_rules n active k w ts i)

  -- a proposal round leaves a truck that plays it running
  pub proposal_runs : (i : ℕ) → odd k ≡ true → runs (truck ts i) ≡ true → is_decided (plays (radio_of n active k w ts) k w ts i).state ≡ false
  proposal_runs i e h = rw (plays_proposal i e) (ap is_decided (running-state (truck ts i).state h))

  -- who decides in a veto round had no noise in it, and had heard one value
  pub veto-decides : (i : ℕ) → odd k ≡ false → runs (truck ts i) ≡ true → is_decided (plays (radio_of n active k w ts) k w ts i).state ≡ true
      → (has_noise (radio_of n active k w ts) i ≡ false) × (is_one (truck ts i).heard ≡ true)
  veto-decides i e h d =
      let veto = ltb 0 (heard a i) in
      let g = decided_if k (decides (a.marked i) veto (truck ts i)) (truck ts i).state h (rw (plays-veto i e) at d) in
      let p = decides_parts (a.marked i) veto (truck ts i) g in
      (or-none (a.marked i) veto p.1 p.0, p.2)

  -- a truck that heard one value decides where it has no noise
  pub veto-ends : (i : ℕ) → odd k ≡ false → has_noise (radio_of n active k w ts) i ≡ false → is_one (truck ts i).heard ≡ true
      → runs (plays (radio_of n active k w ts) k w ts i) ≡ false
  veto-ends i e h o =
      let veto = ltb 0 (heard a i) in
      let d = decides_by (a.marked i) veto (truck ts i) (or_right (a.marked i) veto h) (or_left (a.marked i) veto h) o in
      rw (plays-veto i e) (ap (λ (b : Bool). is_running (cond b (Decided k) (truck ts i).state)) d)

  -- a truck with a mark keeps its estimate
  pub marked_keeps : (i : ℕ) → odd k ≡ true → (radio_of n active k w ts).marked i ≡ true → (plays (radio_of n active k w ts) k w ts i).estimate ≡ (truck ts i).estimate
  marked_keeps i e h = rw (plays_proposal i e) (rw h)
