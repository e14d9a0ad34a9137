-- Demand 3 by any protocol, from a few facts of its cycle.
use mathlib.Core.Path.{◌≡◌, ap, sym, ◌∙◌}
use mathlib.Core.List.{List}
use mathlib.Core.Logic.{◌⊎◌}
use Prim.Native.Nat.{ℕ, ◌+◌, ◌≤◌}
use native.Mathlib.Omega.{arith}
use lib.ListN.{length}
use Rattle.std.specs.Prelude.{Ok}
use Rattle.radio.proofs.Laws.{CalmRounds, calm_parts}
use Rattle.recording.specs.Packed.{trucks_of, rounds_of, openings_of, round_at}
use Rattle.recording.specs.Checks.{check_of}
use Rattle.recording.proofs.Accepted.{GoodOpenings, openings_in, bytes_good}
use Rattle.recording.proofs.RoundTrip.{openings-read}
use Rattle.protocol.specs.declared.Fleet.{Fleet}
use Rattle.protocol.specs.Rules.{recorded, truck}
use Rattle.protocol.specs.Runs.{opened_trucks, trucks_in, radios_in}
use Rattle.protocol.specs.Fleets.{Protocol, blank, start_check, started, fleet_in, ran_in}
use Rattle.protocol.specs.Steps.{last_record_in, taken, round_in}
use Rattle.protocol.specs.Claims.{Claim, agrees_with, MarksIn, calm_in, decides_in, HoldsIn, SameIn, DemandIn}
use Rattle.protocol.proofs.AnyRound.{EndedIn, UndecidedIn, SettledIn}
use Rattle.protocol.proofs.AnyRun.{ended_kept, agreed_by}
use Rattle.protocol.proofs.Good.{Sound, state_ended, good-at}
use Rattle.protocol.proofs.Steps.{accepted_by, Start, start_by, taken-few, step_outcome, steps_are, recording_run}

-- what follows from a claim that holds, holds
pub holds_of : (p : Protocol) (claim other : Claim)
    → ((n : ℕ) (openings : List ℕ) (rounds : ℕ → List ℕ) (R : ℕ) (f : Fleet) → claim n openings rounds R f → other n openings rounds R f)
    → HoldsIn p claim → HoldsIn p other
holds_of p claim other follows h =
    record {
      steps = λ n openings steps a.
          follows n openings (round_in (taken n steps)) (length (taken n steps)) (last_record_in p (started n openings).fleet steps) (h.steps n openings steps a);
      run = λ s a. follows (trucks_of s) (openings_of s) (round_at s) (rounds_of s) (ran_in p s).fleet (h.run s a);
    }

-- the facts of a cycle from which its whole claim follows
pub record Facts (p : Protocol) : Type 0 where
  pub sound : Sound p
  -- with marks of the worth it asks for, nobody has decided or all hold one crusher
  pub agrees : (n : ℕ) (openings : List ℕ) (rounds : ℕ → List ℕ) (R : ℕ) → n ≤ 32 → GoodOpenings n openings → MarksIn p p.worth n openings rounds R
      → UndecidedIn recorded n (trucks_in p.rules n openings rounds R) ⊎ SettledIn recorded n (trucks_in p.rules n openings rounds R)
  -- after its calm rounds no truck runs
  pub ends : (n : ℕ) (openings : List ℕ) (rounds : ℕ → List ℕ) (S b : ℕ) → 1 ≤ S
      → CalmRounds p.calm_span p.proposes (radios_in p.rules n openings rounds) S b
      → EndedIn recorded n (trucks_in p.rules n openings rounds (S + p.calm_span))

-- what an accepted start fixes
pub accepted-start : (n : ℕ) (openings : List ℕ) → (started n openings).outcome ≡ Ok tt → Start n openings
unfolding started
accepted-start n openings h =
    start_by n openings (accepted_by (start_check n openings) (record { n = n; done = 0; trucks = opened_trucks openings }) blank h).0

module _ (p : Protocol) (sound : Sound p) where
  -- a claim that holds of what any rounds leave of up to 32 trucks holds of lists of steps and of runs
  pub holds_by : (claim : Claim)
      → ((n : ℕ) (openings : List ℕ) (rounds : ℕ → List ℕ) (R : ℕ) → n ≤ 32 → GoodOpenings n openings
      → claim n openings rounds R (fleet_in p n openings rounds R))
      → HoldsIn p claim
  unfolding ran_in
  holds_by claim at =
      record {
        steps = λ n openings steps h.
            (let s = accepted-start n openings h in
            rw (steps_are p sound n openings s steps)
            (at n openings (round_in (taken n steps)) (length (taken n steps)) s.most (openings_in n openings s.crushers)));
        run = λ s h.
            (let a = accepted_by (check_of s) (fleet_in p (trucks_of s) (openings_of s) (round_at s) (rounds_of s)) blank h in
            rw a.1 (at (trucks_of s) (openings_of s) (round_at s) (rounds_of s) (bytes_good s a.0).frame.most (openings-read s)));
      }

  -- stepped or run the same
  pub same_by : (n : ℕ) (openings : List ℕ) (steps : List (List ℕ)) → (started n openings).outcome ≡ Ok tt → SameIn p n openings steps
  same_by n openings steps h =
      let s = accepted-start n openings h in
      let e = steps_are p sound n openings s steps in
      record {
        next_step = λ w. rw e (step_outcome p sound n openings s (round_in (taken n steps)) (length (taken n steps)) w (omega (arith, taken-few n 0 steps (omega arith))));
        as_run = recording_run p sound n openings s steps ∙ ap (λ (f : Fleet). record { outcome = Ok tt; fleet = f }) (sym e);
      }

module _ (p : Protocol) (facts : Facts p) where
  -- the claim of deciding for what R rounds leave of up to 32 trucks
  decides_at : (n : ℕ) (openings : List ℕ) (rounds : ℕ → List ℕ) (R : ℕ) → n ≤ 32 → GoodOpenings n openings
      → decides_in p n openings rounds R (fleet_in p n openings rounds R)
  unfolding fleet_in calm_in
  decides_at n openings rounds R small good S b h i l =
      let c = calm_parts p.calm_span p.proposes (radios_in p.rules n openings rounds) R S b h in
      let e = facts.ends n openings rounds S b c.0 c.2 in
      rw (ended_kept p.rules n openings rounds (S + p.calm_span) R c.1 e i l)
      (state_ended p (S + p.calm_span) (truck (trucks_in p.rules n openings rounds (S + p.calm_span)) i).state (e i l)
      (good-at p facts.sound n openings small good rounds (S + p.calm_span) i l).state)

  -- the whole of demand 3 with marks of the worth that the cycle asks for
  pub demand_by : DemandIn p (MarksIn p p.worth)
  unfolding fleet_in
  demand_by =
      record {
        agreement = holds_by p facts.sound (agrees_with (MarksIn p p.worth))
            (λ n openings rounds R small good marks.
            agreed_by p.rules n openings rounds small facts.sound.takes R (facts.agrees n openings rounds R small good marks));
        deciding = holds_by p facts.sound (decides_in p) decides_at;
        same = same_by p facts.sound;
      }
