-- What the counts of messages sent are (document 02, F-5): a round adds 1 exactly for its senders, so from a fresh start each count is the number of rounds of its
-- kind in which the truck sends.
use mathlib.Core.Path.{◌≡◌, refl, ap, sym, ◌∙◌}
use mathlib.Core.Bool.{Bool, true, false, cond, not, ◌&&◌, and-false, true≢false}
use mathlib.Core.List.{List}
use Prim.Native.Nat.{ℕ, zero, suc, ◌+◌, ◌/◌, ◌%◌, ◌≤◌, ◌<◌}
use native.Mathlib.Omega.{arith}
use borrow.Author.Tests.{eqb-true, eqb-false}
use lib.ListN.{length}
use Rattle.basics.specs.Bits.{odd}
use Rattle.basics.specs.Lists.{who}
use Rattle.basics.proofs.Laws.{and_right}
use Rattle.radio.specs.Round.{stop_bit, active_bit}
use Rattle.radio.specs.Radio.{Radio, times_sent}
use Rattle.radio.proofs.Laws.{count-suc, times_none, times_suc}
use Rattle.protocol.specs.declared.Sent.{Sent}
use Rattle.protocol.specs.declared.Truck.{Truck}
use Rattle.protocol.specs.declared.Fleet.{Fleet}
use Rattle.protocol.specs.Cycles.{radio_in}
use Rattle.protocol.specs.Rules.{counted, truck, runs, radio_of, values_heard, after, two_rules}
use Rattle.protocol.specs.Runs.{radio_at, trucks_at}
use Rattle.protocol.specs.Fleets.{two_round, step_check_in, next_fleet_in, stepped_in, fleet_in}
use Rattle.protocol.specs.Claims.{counts_sent, SentCounts, StepCounts}
use Rattle.protocol.proofs.AnyRound.{after_cases, idle_silent, running-runs, plays_is}
use Rattle.protocol.proofs.AnyRun.{radio-suc, opened-truck, throughout}
use Rattle.protocol.proofs.Rules.{plays_cases}
use Rattle.protocol.proofs.OneRound.{sound_two}
use Rattle.protocol.proofs.Steps.{accepted_by}
use Rattle.protocol.proofs.Demand.{holds_by}

module _ (n : ℕ) (active : ℕ → Bool) (k : ℕ) (w : List ℕ) (ts : List Truck) where
  abbrev a : Radio
  a = radio_of n active k w ts

  -- the counts with 1 more for a message of this kind of round, where the truck sends
  abbrev Adds : Bool → Sent → Sent → Type 0
  Adds sends c c' = (c'.proposals ≡ counted (odd k && sends) c.proposals) × (c'.vetoes ≡ counted (not (odd k) && sends) c.vetoes)

  -- a truck that doesn't send keeps its counts
  adds_none : (sends : Bool) (c : Sent) → sends ≡ false → Adds sends c c
  adds_none sends c e = (
    sym (ap (λ (b : Bool). counted b c.proposals) (ap (λ (b : Bool). odd k && b) e ∙ and-false (odd k))),
    sym (ap (λ (b : Bool). counted b c.vetoes) (ap (λ (b : Bool). not (odd k) && b) e ∙ and-false (not (odd k)))),
  )

  -- what a round makes of the counts
  pub counts-after : (i : ℕ) → i < n
      → ((truck (after n active k w ts) i).sent.proposals ≡ counted (odd k && (radio_of n active k w ts).sends i) (truck ts i).sent.proposals)
      × ((truck (after n active k w ts) i).sent.vetoes ≡ counted (not (odd k) && (radio_of n active k w ts).sends i) (truck ts i).sent.vetoes)
  unfolding radio_in
  counts-after i l =
      after_cases two_rules n active k w ts (λ (t : Truck). Adds (a.sends i) (truck ts i).sent t.sent) i l
      (λ h. adds_none (a.sends i) (truck ts i).sent (idle_silent two_rules n active k w ts i (λ r. absurd (true≢false (sym (running-runs two_rules n active k w ts i r) ∙ h)))))
      (λ h s. adds_none (a.sends i) (truck ts i).sent (idle_silent two_rules n active k w ts i (λ r. absurd (true≢false (sym (and_right (runs (truck ts i)) (not (stop_bit w i)) r) ∙ ap not s)))))
      (λ h r.
      rw (plays_is two_rules n active k w ts i)
      (plays_cases k (active_bit w i) (a.sends i) (a.marked i) (values_heard a ts i) (truck ts i) (λ (t : Truck). Adds (a.sends i) (truck ts i).sent t.sent)
      (λ e. rw e (refl, refl)) (λ e. rw e (refl, refl))))

-- from a fresh start
more : (sends : Bool) (c : ℕ) → counted sends c ≡ c + cond sends 1 0
more true c = refl
more false c = omega arith

module _ (n : ℕ) (openings : List ℕ) (rounds : ℕ → List ℕ) (R : ℕ) (few : n ≤ 32) where
  counts-at : counts_sent n openings rounds R (fleet_in two_round n openings rounds R)
  unfolding fleet_in
  counts-at =
      throughout two_rules n openings rounds Counts R
      (λ i l.
      let e = ap (λ (t : Truck). t.sent) (opened-truck two_rules n openings rounds i (omega arith)) in (
        ap (λ (c : Sent). c.proposals) e ∙ sym (times_none odd (radio_at n openings rounds) i),
        ap (λ (c : Sent). c.vetoes) e ∙ sym (times_none (λ k. not (odd k)) (radio_at n openings rounds) i),
      ))
      (λ k l h i li.
      let c = counts-after n (active_bit (rounds k)) (suc k) (rounds k) (trucks_at n openings rounds k) i li in (
        c.0 ∙ step odd k i (truck (trucks_at n openings rounds k) i).sent.proposals (h i li).0,
        c.1 ∙ step (λ k. not (odd k)) k i (truck (trucks_at n openings rounds k) i).sent.vetoes (h i li).1,
      ))
      R (omega arith)
    where
      Counts : ℕ → List Truck → Type 0
      Counts k ts =
          (i : ℕ) → i < n
          → ((truck ts i).sent.proposals ≡ times_sent odd (radio_at n openings rounds) i k)
          × ((truck ts i).sent.vetoes ≡ times_sent (λ k. not (odd k)) (radio_at n openings rounds) i k)

      step : (kind : ℕ → Bool) (k i c : ℕ) → c ≡ times_sent kind (radio_at n openings rounds) i k
          → counted (kind (suc k) && (radio_of n (active_bit (rounds k)) (suc k) (rounds k) (trucks_at n openings rounds k)).sends i) c
          ≡ times_sent kind (radio_at n openings rounds) i (suc k)
      step kind k i c e =
          ap (λ (r : Radio). counted (kind (suc k) && r.sends i) c) (sym (radio-suc two_rules n openings rounds k))
          ∙ more (kind (suc k) && (radio_at n openings rounds (suc k)).sends i) c
          ∙ ap (λ (x : ℕ). x + cond (kind (suc k) && (radio_at n openings rounds (suc k)).sends i) 1 0) e
          ∙ sym (times_suc kind (radio_at n openings rounds) i k)

-- after any list of steps and any run each count is the number of rounds of its kind in which the truck sends
pub sent-counts : SentCounts
sent-counts = holds_by two_round sound_two counts_sent (λ n openings rounds R few good. counts-at n openings rounds R few)

-- a step adds 1 exactly then
pub step_counts : StepCounts
unfolding stepped_in next_fleet_in
step_counts f w h i l =
    let e = (accepted_by (step_check_in two_round f w) (next_fleet_in two_round f w) f h).1 in
    let c = counts-after f.n (active_bit w) (f.done + 1) w f.trucks i l in (
      ap (λ (g : Fleet). (truck g.trucks i).sent.proposals) e ∙ c.0,
      ap (λ (g : Fleet). (truck g.trucks i).sent.vetoes) e ∙ c.1,
    )

-- what refusal 7 counts: the odd rounds among those done, and the even ones
pub odd_rounds : (done : ℕ) → length (who (λ e. odd (suc e)) done) ≡ (done + 1) / 2
unfolding who
odd_rounds zero = refl
odd_rounds (suc done) = count-suc (λ e. odd (suc e)) done ∙ go (odd (suc done)) refl (odd_rounds done)
  where
    go : (b : Bool) → odd (suc done) ≡ b → length (who (λ e. odd (suc e)) done) ≡ (done + 1) / 2
        → length (who (λ e. odd (suc e)) done) + cond b 1 0 ≡ (suc done + 1) / 2
    go true e h = omega (arith, h, eqb-true (suc done % 2) 1 e)
    go false e h = omega (arith, h, eqb-false (suc done % 2) 1 e)

pub even_rounds : (done : ℕ) → length (who (λ e. not (odd (suc e))) done) ≡ done / 2
unfolding who
even_rounds zero = refl
even_rounds (suc done) = count-suc (λ e. not (odd (suc e))) done ∙ go (odd (suc done)) refl (even_rounds done)
  where
    go : (b : Bool) → odd (suc done) ≡ b → length (who (λ e. not (odd (suc e))) done) ≡ done / 2
        → length (who (λ e. not (odd (suc e))) done) + cond (not b) 1 0 ≡ suc done / 2
    go true e h = omega (arith, h, eqb-true (suc done % 2) 1 e)
    go false e h = omega (arith, h, eqb-false (suc done % 2) 1 e)
