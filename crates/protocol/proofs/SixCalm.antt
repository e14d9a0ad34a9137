-- In calm rounds of the six-round cycle every truck decides: what one calm round does.
use mathlib.Core.Path.{◌≡◌, refl, ap, ◌∙◌}
use mathlib.Core.Bool.{Bool, true, false, cond, not, ◌&&◌}
use mathlib.Core.List.{List}
use Prim.Native.Nat.{ℕ, ◌-◌, ◌%◌, ◌<◌}
use Rattle.basics.specs.Bits.{bit}
use Rattle.radio.specs.Radio.{Radio, calm_round}
use Rattle.protocol.specs.declared.State.TheVariants.{Decided}
use Rattle.protocol.specs.declared.Truck.{Truck}
use Rattle.protocol.specs.Cycles.{is_running}
use Rattle.protocol.specs.Rules.{recorded, truck, runs, least_or}
use Rattle.protocol.specs.Six.{accepts, six_rules}
use Rattle.protocol.proofs.AnyRound.{has_noise, EndedIn, radio, next, running-runs, next-played, ended_next, sent_values, calm-least, calm_silent}
use Rattle.protocol.proofs.SixRound.{sound-six, sends-bit, sends-accept, plays-prepare, plays-bit, plays-accept}

-- all running trucks have the estimate v and are willing
abbrev pub WillingFor : ℕ → ℕ → List Truck → Type 0
WillingFor v n ts = (i : ℕ) → i < n → runs (truck ts i) ≡ true → ((truck ts i).estimate ≡ v) × ((truck ts i).unwilling ≡ false)

module _ (n : ℕ) (active : ℕ → Bool) (k : ℕ) (w : List ℕ) (ts : List Truck) (b : ℕ) where
  abbrev a : Radio
  a = radio six_rules n active k w ts

  abbrev ts' : List Truck
  ts' = next six_rules n active k w ts

  -- after prepare it is the least value sent
  pub calm-prepare : k % 6 ≡ 1 → calm_round b true a ≡ true → WillingFor (least_or 0 (sent_values six_rules n active k w ts)) n ts'
  calm-prepare e c i l r =
      let p = next-played six_rules n active k w ts sound-six.stamps i l r in
      let h = calm-least six_rules n active k w ts b c i (truck ts i).estimate l p.0 in
      let q = p.1 ∙ plays-prepare n active k w ts i e in
      (ap (λ (t : Truck). t.estimate) q ∙ rw h.0 h.1, ap (λ (t : Truck). t.unwilling) q)

  module _ (proposes : Bool) (c : calm_round b proposes a ≡ true) (v : ℕ) (y : WillingFor v n ts) where
    -- in a bit round all have the same bit: all send or nobody does
    pub calm-bit : (k % 6 ≡ 1 → ⊥) → (k % 6 ≡ 0 → ⊥) → WillingFor v n ts'
    calm-bit e f i l r =
        let p = next-played six_rules n active k w ts sound-six.stamps i l r in
        let q = p.1 ∙ plays-bit n active k w ts i e f in
        let o = y i l (running-runs six_rules n active k w ts i p.0) in
        (ap (λ (t : Truck). t.estimate) q ∙ o.0, ap (λ (t : Truck). t.unwilling) q ∙ rw (o.1, o.0) (go p.0 (bit v (5 - k % 6)) refl))
      where
        go : a.running i ≡ true → (x : Bool) → bit v (5 - k % 6) ≡ x → (not x && has_noise a i) ≡ false
        go h true g = refl
        go h false g =
            calm_silent six_rules n active k w ts b proposes c
            (λ j lj rj. sends-bit k (active j) (truck ts j) e f ∙ ap (λ (x : ℕ). bit x (5 - k % 6)) (y j lj rj).0 ∙ g) i l h

    pub calm-accept : k % 6 ≡ 0 → EndedIn recorded n ts'
    calm-accept f =
        ended_next six_rules n active k w ts sound-six.stamps
        (λ i l r.
        let q = calm_silent six_rules n active k w ts b proposes c (λ j lj rj. sends-accept k (active j) (truck ts j) f ∙ (y j lj rj).1) i l r in
        let d : accepts (has_noise a i) (truck ts i) ≡ true = rw ((y i l (running-runs six_rules n active k w ts i r)).1, q) in
        rw (plays-accept n active k w ts i f) (ap (λ (x : Bool). is_running (cond x (Decided k) (truck ts i).state)) d))
