-- No two trucks decide differently in the two-round cycle: an invariant of one round under majority complete proposal rounds and zero complete veto rounds.
use mathlib.Core.Path.{◌≡◌, ap, sym, ◌∙◌}
use mathlib.Core.Bool.{Bool, true, false, cond, true≢false}
use mathlib.Core.List.{List}
use mathlib.Core.Logic.{◌⊎◌, inl, inr, ⊎_elim}
use Prim.Native.Nat.{ℕ, ◌<◌}
use Rattle.basics.specs.Bits.{odd}
use Rattle.radio.specs.Radio.{Radio, sent, heard, hears, majority_complete, zero_complete}
use Rattle.radio.proofs.Laws.{hears-sends, sent-some, sent-none, common, majority_hears}
use Rattle.protocol.specs.declared.Truck.{Truck}
use Rattle.protocol.specs.Cycles.{radio_in}
use Rattle.protocol.specs.Rules.{recorded, two_rules, truck, is_several, is_one, runs, vetoes, different, least_or, proposed, values_heard, plays}
use Rattle.protocol.specs.Claims.{is_decided}
use Rattle.protocol.proofs.Values.{one_value, not_nothing}
use Rattle.protocol.proofs.AnyRound.{no_noise, UndecidedIn, SettledIn, radio, next, running-runs, heard_value, value_heard, next-played, undecided_next, first-decisions}
use Rattle.protocol.proofs.Rules.{no_veto_parts}
use Rattle.protocol.proofs.OneRound.{sound_two, veto-sends, plays_proposal, plays-veto, proposal_runs, veto-decides}

-- nobody has decided, and once a truck that will not veto has heard one value, all trucks that will not veto share its estimate
pub record Open (n : ℕ) (ts : List Truck) : Type 0 where
  pub nobody : UndecidedIn recorded n ts
  pub alike : (i j : ℕ) → i < n → j < n → runs (truck ts i) ≡ true → runs (truck ts j) ≡ true
      → vetoes (truck ts i) ≡ false → vetoes (truck ts j) ≡ false → is_one (truck ts i).heard ≡ true → (truck ts j).estimate ≡ (truck ts i).estimate

-- truck i, which runs and will not veto after a proposal round
record Quiet (a : Radio) (ts ts' : List Truck) (i : ℕ) : Type 0 where
  pub running : a.running i ≡ true
  pub unmarked : a.marked i ≡ false
  pub few : is_several (different (values_heard a ts i)) ≡ false
  pub kinds : (truck ts' i).heard ≡ different (values_heard a ts i)
  pub took : (truck ts' i).estimate ≡ least_or (truck ts i).estimate (values_heard a ts i)

module _ (n : ℕ) (active : ℕ → Bool) (k : ℕ) (w : List ℕ) (ts : List Truck) where
  abbrev a : Radio
  a = radio two_rules n active k w ts

  abbrev ts' : List Truck
  ts' = next two_rules n active k w ts

  -- a truck that runs and will not veto after a proposal round had no mark, did not hear several values and took the least
  quiet_next : (i : ℕ) → odd k ≡ true → i < n → runs (truck ts' i) ≡ true → vetoes (truck ts' i) ≡ false → Quiet a ts ts' i
  quiet_next i e l r v =
      let p = next-played two_rules n active k w ts sound_two.stamps i l r in
      let q : truck ts' i ≡ played i = p.1 ∙ plays_proposal n active k w ts i e in
      let parts = no_veto_parts (truck ts' i) v in
      let unmarked : a.marked i ≡ false = sym (ap (λ (t : Truck). t.mark) q) ∙ parts.0 in
      record {
        running = p.0;
        unmarked = unmarked;
        few = sym (ap (λ (t : Truck). is_several t.heard) q) ∙ parts.1;
        kinds = ap (λ (t : Truck). t.heard) q;
        took = ap (λ (t : Truck). t.estimate) q
            ∙ ap (λ (m : Bool). cond m (truck ts i).estimate (least_or (truck ts i).estimate (values_heard a ts i))) unmarked;
      }
    where
      played : ℕ → Truck
      played i = proposed (a.sends i) (a.marked i) (different (values_heard a ts i)) (least_or (truck ts i).estimate (values_heard a ts i)) (truck ts i)

  -- two trucks that will not veto after a majority complete proposal round, one of which heard one value, took the same value
  open_alike : odd k ≡ true → majority_complete a ≡ true → (i j : ℕ) → i < n → j < n → runs (truck ts' i) ≡ true → runs (truck ts' j) ≡ true
      → vetoes (truck ts' i) ≡ false → vetoes (truck ts' j) ≡ false → is_one (truck ts' i).heard ≡ true → (truck ts' j).estimate ≡ (truck ts' i).estimate
  unfolding radio_in
  open_alike e mc i j li lj ri rj vi vj oi =
      let qi = quiet_next i e li ri vi in
      let qj = quiet_next j e lj rj vj in
      let u = not_nothing (values_heard a ts i) (rw qi.kinds at oi) in
      let h = heard_value two_rules n active k w ts i u.0 u.1 in
      let some : 0 < sent a = sent-some a h.0 h.1 (hears-sends a i h.0 h.2) in
      let c = common a i j (majority_hears a i li qi.running mc qi.unmarked some) (majority_hears a j lj qj.running mc qj.unmarked some) in
      meet c.0 c.1 c.2 c.3 qi qj
    where
      took : (i : ℕ) → Quiet a ts ts' i → (j : ℕ) → j < n → hears a i j ≡ true → (truck ts' i).estimate ≡ (truck ts j).estimate
      took i q j l h =
          q.took ∙ one_value (truck ts i).estimate (values_heard a ts i) q.few (truck ts j).estimate (value_heard two_rules n active k w ts i j l h)

      meet : (m : ℕ) → m < n → hears a i m ≡ true → hears a j m ≡ true → Quiet a ts ts' i → Quiet a ts ts' j
          → (truck ts' j).estimate ≡ (truck ts' i).estimate
      meet m l hi hj qi qj = took j qj m l hj ∙ sym (took i qi m l hi)

  pub open_proposal : odd k ≡ true → majority_complete a ≡ true → Open n ts → Open n ts'
  open_proposal e mc o =
      record {
        nobody = undecided_next two_rules n active k w ts sound_two.stamps o.nobody (λ i l r. proposal_runs n active k w ts i e (running-runs two_rules n active k w ts i r));
        alike = open_alike e mc;
      }

  -- after a veto round nobody remembers a value
  forgot : odd k ≡ false → (i : ℕ) → i < n → runs (truck ts' i) ≡ true → is_one (truck ts' i).heard ≡ false
  forgot e i l r = rw ((next-played two_rules n active k w ts sound_two.stamps i l r).1 ∙ plays-veto n active k w ts i e)

  -- a truck that decides in a zero complete veto round shares its estimate with all that run
  deciding : odd k ≡ false → zero_complete a ≡ true → Open n ts → (i : ℕ) → i < n → a.running i ≡ true → is_decided (plays a k w ts i).state ≡ true
      → (j : ℕ) → j < n → a.running j ≡ true → (truck ts j).estimate ≡ (truck ts i).estimate
  unfolding radio_in
  deciding e zc o i li r d j lj rj =
      let ri = running-runs two_rules n active k w ts i r in
      let v = veto-decides n active k w ts i e ri d in
      let s : sent a ≡ 0 = no_noise a i li r zc v.0 in
      o.alike i j li lj ri (running-runs two_rules n active k w ts j rj)
      (sym (veto-sends n active k w ts i e r) ∙ sent-none a s i li)
      (sym (veto-sends n active k w ts j e rj) ∙ sent-none a s j lj) v.1

  pub open-veto : odd k ≡ false → zero_complete a ≡ true → Open n ts → Open n ts' ⊎ SettledIn recorded n ts'
  open-veto e zc o =
      ⊎_elim (λ u. inl (record { nobody = u; alike = λ i j li lj ri rj vi vj oi. absurd (true≢false (sym oi ∙ forgot e i li ri)) })) inr
      (first-decisions two_rules n active k w ts sound_two.stamps o.nobody (λ i. rw (plays-veto n active k w ts i e)) (deciding e zc o))
