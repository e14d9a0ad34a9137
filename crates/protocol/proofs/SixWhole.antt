-- Whole runs of the six-round cycle: with zero complete marks nobody decides or all hold one crusher, and eleven calm rounds end it.
use mathlib.Core.Path.{◌≡◌, ap}
use mathlib.Core.Bool.{true}
use mathlib.Core.List.{List}
use mathlib.Core.Logic.{◌⊎◌}
use Prim.Native.Nat.{ℕ, suc, ◌+◌, ◌-◌, ◌%◌, ◌≤◌, ◌<◌}
use native.Mathlib.Omega.{arith}
use borrow.Author.Tests.{leb-true}
use Rattle.radio.specs.Round.{active_bit}
use Rattle.radio.specs.Radio.{calm_round}
use Rattle.radio.proofs.Laws.{CalmRounds}
use Rattle.recording.proofs.Accepted.{GoodOpenings}
use Rattle.protocol.specs.declared.Truck.{Truck}
use Rattle.protocol.specs.Rules.{recorded, truck, least_or}
use Rattle.protocol.specs.Six.{is_prepare, six_rules}
use Rattle.protocol.specs.Runs.{trucks_in, radios_in}
use Rattle.protocol.specs.Fleets.{six_round}
use Rattle.protocol.specs.Claims.{is_decided, ZeroMarks}
use Rattle.protocol.proofs.AnyRound.{EndedIn, UndecidedIn, SettledIn, sent_values}
use Rattle.protocol.proofs.AnyRun.{at_suc, radio-suc, opened-truck, ended_on, agrees_by}
use Rattle.protocol.proofs.Good.{good-at}
use Rattle.protocol.proofs.SixRound.{sound-six}
use Rattle.protocol.proofs.SixAgree.{Compared, alike_crushers, compared-next}
use Rattle.protocol.proofs.SixCalm.{WillingFor, calm-prepare, calm-bit, calm-accept}

module _ (n : ℕ) (openings : List ℕ) (rounds : ℕ → List ℕ) where
  abbrev at : ℕ → List Truck
  at k = trucks_in six_rules n openings rounds k

  -- with zero complete marks, nobody has decided or all hold one crusher
  pub zero_agrees : (R : ℕ) → n ≤ 32 → GoodOpenings n openings → ZeroMarks n openings rounds R
      → UndecidedIn recorded n (trucks_in six_rules n openings rounds R) ⊎ SettledIn recorded n (trucks_in six_rules n openings rounds R)
  zero_agrees R small good marks =
      agrees_by six_rules n openings rounds sound-six.stamps sound-six.takes (λ k ts. Compared k n ts) (λ k ts c. c.nobody) R
      (record {
        nobody = λ i l. ap (λ (t : Truck). is_decided t.state) (opened-truck six_rules n openings rounds i (omega arith));
        alike = alike_crushers n (at 0) (crusher 0);
      })
      (λ k l c.
      compared-next n (active_bit (rounds k)) k (rounds k) (at k) (rw (radio-suc six_rules n openings rounds) at (marks (suc k) (omega arith) (omega arith)))
      (rw (at_suc six_rules n openings rounds k) at (crusher (suc k))) c)
    where
      crusher : (k i : ℕ) → i < n → (truck (at k) i).estimate ≤ 15
      crusher k i l = leb-true (truck (at k) i).estimate 15 (good-at six_round sound-six n openings small good rounds k i l).estimate

  -- the round after k rounds is calm with b
  abbrev CalmAt : ℕ → ℕ → Type 0
  CalmAt b k = calm_round b (is_prepare (suc k)) (radios_in six_rules n openings rounds (suc k)) ≡ true

  -- the least value sent in the round after k rounds
  abbrev least : ℕ → ℕ
  least k = least_or 0 (sent_values six_rules n (active_bit (rounds k)) (suc k) (rounds k) (at k))

  round-prepare : (b k : ℕ) → suc k % 6 ≡ 1 → CalmAt b k → WillingFor (least k) n (at (suc k))
  round-prepare b k e c =
      rw (at_suc six_rules n openings rounds k)
      (calm-prepare n (active_bit (rounds k)) (suc k) (rounds k) (at k) b e (rw (e, radio-suc six_rules n openings rounds) at c))

  round-bit : (b k v : ℕ) → (suc k % 6 ≡ 1 → ⊥) → (suc k % 6 ≡ 0 → ⊥) → CalmAt b k → WillingFor v n (at k) → WillingFor v n (at (suc k))
  round-bit b k v e f c y =
      rw (at_suc six_rules n openings rounds k)
      (calm-bit n (active_bit (rounds k)) (suc k) (rounds k) (at k) b (is_prepare (suc k)) (rw (radio-suc six_rules n openings rounds) at c) v y e f)

  round-accept : (b k v : ℕ) → suc k % 6 ≡ 0 → CalmAt b k → WillingFor v n (at k) → EndedIn recorded n (at (suc k))
  round-accept b k v f c y =
      rw (at_suc six_rules n openings rounds k)
      (calm-accept n (active_bit (rounds k)) (suc k) (rounds k) (at k) b (is_prepare (suc k)) (rw (radio-suc six_rules n openings rounds) at c) v y f)

  -- a calm cycle: prepare gives all the same estimate, the bit rounds leave all willing, accept decides
  cycle : (b k : ℕ) → suc k % 6 ≡ 1 → ((j : ℕ) → k ≤ j → j ≤ k + 5 → CalmAt b j) → EndedIn recorded n (at (suc (suc (suc (suc (suc (suc k)))))))
  cycle b k e calm =
      let k₁ = suc k in
      let k₂ = suc k₁ in
      let k₃ = suc k₂ in
      let k₄ = suc k₃ in
      let k₅ = suc k₄ in
      round-accept b k₅ (least k) (omega arith) (calm k₅ (omega arith) (omega arith)) (bit-round k₄ (omega arith) (omega arith)
      (bit-round k₃ (omega arith) (omega arith) (bit-round k₂ (omega arith) (omega arith)
      (bit-round k₁ (omega arith) (omega arith) (round-prepare b k e (calm k (omega arith) (omega arith)))))))
    where
      bit-round : (j : ℕ) → k < j → j ≤ k + 4 → WillingFor (least k) n (at j) → WillingFor (least k) n (at (suc j))
      bit-round j lo hi = round-bit b j (least k) (omega arith) (omega arith) (calm j (omega arith) (omega arith))

  -- eleven calm rounds have a whole cycle among them, and who runs no more after it runs no more
  pub calm-ends : (S b : ℕ) → 1 ≤ S → CalmRounds 10 is_prepare (radios_in six_rules n openings rounds) S b → EndedIn recorded n (at (S + 10))
  calm-ends S b l calm =
      let k = S - 1 + (7 - S % 6) % 6 in
      ended_on six_rules n openings rounds (suc (suc (suc (suc (suc (suc k)))))) (S + 10) (omega arith)
      (cycle b k (omega arith) (λ j lo hi. calm (suc j) (omega arith) (omega arith)))
