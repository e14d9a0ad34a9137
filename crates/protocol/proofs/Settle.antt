-- In calm rounds of the two-round cycle every truck decides: what one calm round does.
use mathlib.Core.Path.{◌≡◌, ap, ◌∙◌}
use mathlib.Core.Bool.{Bool, true, false}
use mathlib.Core.List.{List, Memᴰ}
use Prim.Native.Nat.{ℕ, ◌<◌}
use Rattle.basics.specs.Bits.{odd}
use Rattle.radio.specs.Radio.{Radio, heard, calm_round}
use Rattle.protocol.specs.declared.Heard.TheVariants.{One}
use Rattle.protocol.specs.declared.Truck.{Truck}
use Rattle.protocol.specs.Rules.{recorded, two_rules, truck, is_several, is_one, runs, vetoes, different, least_or, proposed}
use Rattle.protocol.proofs.Values.{of_value, all_one}
use Rattle.protocol.proofs.AnyRound.{EndedIn, radio, next, sender-runs, running-runs, next-played, ended_next, sent_values, calm-all, calm-least, calm_silent}
use Rattle.protocol.proofs.Rules.{sends-veto, no_veto_by}
use Rattle.protocol.proofs.OneRound.{sound_two, plays_proposal, plays-veto, veto-ends}

-- all running trucks have one estimate
pub record SameEstimate (n : ℕ) (ts : List Truck) : Type 0 where
  pub value : ℕ
  pub alike : (i : ℕ) → i < n → runs (truck ts i) ≡ true → (truck ts i).estimate ≡ value

-- all running trucks have heard one value and will not veto
abbrev pub Ready : ℕ → List Truck → Type 0
Ready n ts = (i : ℕ) → i < n → runs (truck ts i) ≡ true → (vetoes (truck ts i) ≡ false) × (is_one (truck ts i).heard ≡ true)

module _ (n : ℕ) (active : ℕ → Bool) (k : ℕ) (w : List ℕ) (ts : List Truck) where
  abbrev a : Radio
  a = radio two_rules n active k w ts

  abbrev ts' : List Truck
  ts' = next two_rules n active k w ts

  abbrev sent : List ℕ
  sent = sent_values two_rules n active k w ts

  -- a truck that runs after a calm proposal round had no mark, and heard every value that was sent, at least one
  heard_all_lem : (b i : ℕ) → odd k ≡ true → calm_round b true a ≡ true → i < n → runs (truck ts' i) ≡ true
      → (truck ts' i ≡ proposed (a.sends i) false (different sent) (least_or (truck ts i).estimate sent) (truck ts i)) × ((u : ℕ) × Memᴰ u sent)
  heard_all_lem b i e c l r =
      let p = next-played two_rules n active k w ts sound_two.stamps i l r in
      let h = calm-all two_rules n active k w ts b c i l p.0 in
      (p.1 ∙ plays_proposal n active k w ts i e ∙ rw (h.0, h.1), h.2)

  pub calm-same : (b : ℕ) → odd k ≡ true → calm_round b true a ≡ true → SameEstimate n ts'
  calm-same b e c =
      record {
        value = least_or 0 sent;
        alike = λ i l r.
            (let p = next-played two_rules n active k w ts sound_two.stamps i l r in
            let h = calm-least two_rules n active k w ts b c i (truck ts i).estimate l p.0 in
            ap (λ (t : Truck). t.estimate) (p.1 ∙ plays_proposal n active k w ts i e) ∙ rw h.0 h.1);
      }

  pub calm-ready : (b : ℕ) → odd k ≡ true → calm_round b true a ≡ true → SameEstimate n ts → Ready n ts'
  calm-ready b e c s i l r =
      let h = heard_all_lem b i e c l r in
      let one : (truck ts' i).heard ≡ One = ap (λ (t : Truck). t.heard) h.0 ∙ all_one s.value h.1.0 sent h.1.1 all in
      (no_veto_by (truck ts' i) (ap (λ (t : Truck). t.mark) h.0) (ap is_several one), ap is_one one)
    where
      all : (u : ℕ) → Memᴰ u sent → u ≡ s.value
      all u m =
          let v = of_value (λ j. (truck ts j).estimate) a.sends n u m in
          v.3 ∙ s.alike v.0 v.1 (running-runs two_rules n active k w ts v.0 (sender-runs two_rules n active k w ts v.0 v.2))

  pub veto-same : odd k ≡ false → SameEstimate n ts → SameEstimate n ts'
  veto-same e s =
      record {
        value = s.value;
        alike = λ i l r.
            (let p = next-played two_rules n active k w ts sound_two.stamps i l r in
            ap (λ (t : Truck). t.estimate) (p.1 ∙ plays-veto n active k w ts i e) ∙ s.alike i l (running-runs two_rules n active k w ts i p.0));
      }

  pub calm_ended : (b : ℕ) → odd k ≡ false → calm_round b false a ≡ true → Ready n ts → EndedIn recorded n ts'
  calm_ended b e c y =
      ended_next two_rules n active k w ts sound_two.stamps
      (λ i l r.
      let h = calm_silent two_rules n active k w ts b false c (λ j lj rj. sends-veto k (active j) (truck ts j) e ∙ (y j lj rj).0) i l r in
      veto-ends n active k w ts i e h (y i l (running-runs two_rules n active k w ts i r)).1)
