-- Whole runs of the two-round cycle: under its marks nobody decides or all hold one crusher, and five calm rounds end it.
use mathlib.Core.Path.{◌≡◌, refl, ap, sym, ◌∙◌}
use mathlib.Core.Bool.{Bool, true, false, not, false≢true}
use mathlib.Core.List.{List}
use mathlib.Core.Logic.{◌⊎◌, inl}
use Prim.Native.Nat.{ℕ, zero, suc, ◌+◌, ◌≤◌, ◌<◌}
use native.Mathlib.Omega.{arith}
use Rattle.basics.specs.Bits.{odd}
use Rattle.basics.proofs.Laws.{odd-suc}
use Rattle.radio.specs.Round.{active_bit}
use Rattle.radio.specs.Radio.{calm_round}
use Rattle.radio.proofs.Laws.{CalmRounds}
use Rattle.protocol.specs.declared.Truck.{Truck}
use Rattle.protocol.specs.Cycles.{radio_in}
use Rattle.protocol.specs.Rules.{recorded, two_rules, is_one, after}
use Rattle.protocol.specs.Runs.{trucks_at, radio_at}
use Rattle.protocol.specs.Fleets.{two_worth, two_round}
use Rattle.protocol.specs.Claims.{is_decided, MarksIn}
use Rattle.protocol.proofs.AnyRound.{EndedIn, UndecidedIn, SettledIn}
use Rattle.protocol.proofs.AnyRun.{at_suc, radio-suc, opened-truck, ended_on, agrees_by}
use Rattle.protocol.proofs.OneRound.{sound_two}
use Rattle.protocol.proofs.Agree.{Open, open_proposal, open-veto}
use Rattle.protocol.proofs.Settle.{SameEstimate, Ready, calm-same, calm-ready, veto-same, calm_ended}

module _ (n : ℕ) (openings : List ℕ) (rounds : ℕ → List ℕ) where
  abbrev at : ℕ → List Truck
  at k = trucks_at n openings rounds k

  module _ (small : n ≤ 32) where
    -- with mixed marks, nobody has decided or all hold one crusher
    pub mixed_agrees : (R : ℕ) → MarksIn two_round two_worth n openings rounds R
        → UndecidedIn recorded n (trucks_at n openings rounds R) ⊎ SettledIn recorded n (trucks_at n openings rounds R)
    mixed_agrees R marks =
        agrees_by two_rules n openings rounds sound_two.stamps sound_two.takes (λ k ts. Open n ts) (λ k ts o. o.nobody) R
        (record {
          nobody = λ i l. ap (λ (t : Truck). is_decided t.state) (opened-truck two_rules n openings rounds i (omega arith));
          alike = λ i j li lj ri rj vi vj oi. absurd (false≢true (sym (ap (λ (t : Truck). is_one t.heard) (opened-truck two_rules n openings rounds i (omega arith))) ∙ oi));
        })
        (λ k l o. go k l o (odd (suc k)) refl)
      where
        worth : (k : ℕ) → k < R → two_worth (suc k) (radio_in two_rules n (active_bit (rounds k)) (suc k) (rounds k) (at k)) ≡ true
        worth k l = ap (two_worth (suc k)) (sym (radio-suc two_rules n openings rounds k)) ∙ marks (suc k) (omega arith) (omega arith)

        go : (k : ℕ) → k < R → Open n (at k) → (b : Bool) → odd (suc k) ≡ b
            → Open n (after n (active_bit (rounds k)) (suc k) (rounds k) (at k)) ⊎ SettledIn recorded n (after n (active_bit (rounds k)) (suc k) (rounds k) (at k))
        go k l o true e =
            inl (open_proposal n (active_bit (rounds k)) (suc k) (rounds k) (at k) e (rw e at (worth k l)) o)
        go k l o false e = open-veto n (active_bit (rounds k)) (suc k) (rounds k) (at k) e (rw e at (worth k l)) o

  -- the round after k rounds is calm with b
  abbrev CalmAt : ℕ → ℕ → Type 0
  CalmAt b k = calm_round b (odd (suc k)) (radio_at n openings rounds (suc k)) ≡ true

  round_same : (b k : ℕ) → odd (suc k) ≡ true → CalmAt b k → SameEstimate n (at (suc k))
  round_same b k e c =
      rw (at_suc two_rules n openings rounds k) (calm-same n (active_bit (rounds k)) (suc k) (rounds k) (at k) b e (rw (e, radio-suc two_rules n openings rounds) at c))

  round-ready : (b k : ℕ) → odd (suc k) ≡ true → CalmAt b k → SameEstimate n (at k) → Ready n (at (suc k))
  round-ready b k e c s =
      rw (at_suc two_rules n openings rounds k)
      (calm-ready n (active_bit (rounds k)) (suc k) (rounds k) (at k) b e (rw (e, radio-suc two_rules n openings rounds) at c) s)

  round-kept : (k : ℕ) → odd (suc k) ≡ false → SameEstimate n (at k) → SameEstimate n (at (suc k))
  round-kept k e s = rw (at_suc two_rules n openings rounds k) (veto-same n (active_bit (rounds k)) (suc k) (rounds k) (at k) e s)

  round_ended : (b k : ℕ) → odd (suc k) ≡ false → CalmAt b k → Ready n (at k) → EndedIn recorded n (at (suc k))
  round_ended b k e c y =
      rw (at_suc two_rules n openings rounds k)
      (calm_ended n (active_bit (rounds k)) (suc k) (rounds k) (at k) b e (rw (e, radio-suc two_rules n openings rounds) at c) y)

  -- four calm rounds that begin with one for proposals: the first gives all the same estimate, the third one value, the fourth decides
  four : (b k : ℕ) → odd (suc k) ≡ true → CalmAt b k → CalmAt b (suc (suc k)) → CalmAt b (suc (suc (suc k)))
      → EndedIn recorded n (at (suc (suc (suc (suc k)))))
  four b k e c₀ c₂ c₃ =
      let e₁ = flip (suc k) e in
      let e₂ = flip (suc (suc k)) e₁ in
      round_ended b (suc (suc (suc k))) (flip (suc (suc (suc k))) e₂) c₃
      (round-ready b (suc (suc k)) e₂ c₂ (round-kept (suc k) e₁ (round_same b k e c₀)))
    where
      flip : (j : ℕ) {x : Bool} → odd j ≡ x → odd (suc j) ≡ not x
      flip j h = odd-suc j ∙ ap not h

  -- five calm rounds have such four among them, and who runs no more after them runs no more
  pub calm-ends : (S b : ℕ) → 1 ≤ S → CalmRounds 4 odd (radio_at n openings rounds) S b → EndedIn recorded n (at (S + 4))
  calm-ends zero b l calm = absurd (omega arith)
  calm-ends (suc s) b l calm = go (odd (suc s)) refl
    where
      four-from : (k : ℕ) → s ≤ k → k ≤ suc s → odd (suc k) ≡ true → EndedIn recorded n (at (suc s + 4))
      four-from k lo hi e =
          ended_on two_rules n openings rounds (suc (suc (suc (suc k)))) (suc s + 4) (omega arith)
          (four b k e (calm (suc k) (omega arith) (omega arith)) (calm (suc (suc (suc k))) (omega arith) (omega arith))
          (calm (suc (suc (suc (suc k)))) (omega arith) (omega arith)))

      go : (x : Bool) → odd (suc s) ≡ x → EndedIn recorded n (at (suc s + 4))
      go true e = four-from s (omega arith) (omega arith) e
      go false e = four-from (suc s) (omega arith) (omega arith) (odd-suc (suc s) ∙ ap not e)
