-- A run of the six-round cycle by sets, from round to round.
use mathlib.Core.Path.{◌≡◌, refl, ap, ap₂, sym, subst, subst₂, ◌∙◌}
use mathlib.Core.Bool.{Bool, true, false, not, ◌&&◌, ◌||◌, true≢false}
use mathlib.Core.List.{List}
use Prim.Native.Nat.{ℕ, suc, ◌+◌, ◌*◌, ◌-◌, ◌%◌, ◌≤◌, ◌<◌}
use native.Mathlib.Decide.{ℕ_discrete}
use native.Mathlib.Omega.{arith}
use borrow.Author.Tests.{eq-eqb, ne_eqb, ltb-false, ltb-true, not-true}
use lib.Bits.{bit_and, bit_or, and_zero_r}
use lib.Dec.{eqb, ltb}
use Rattle.basics.specs.Lists.{filled}
use Rattle.basics.proofs.Laws.{and_left, and_right}
use Rattle.sets.specs.Sets.{without}
use Rattle.sets.proofs.Words.{bit-zero}
use Rattle.recording.specs.Packed.{trucks_of, opening_at, round_at}
use Rattle.protocol.specs.Six.{six_rules}
use Rattle.protocol.proofs.SixRound.{sound-six}
use Rattle.playback.specs.declared.six.Played.{Played}
use Rattle.playback.specs.Sets.{estimates}
use Rattle.playback.specs.Replays.{FoundAfter}
use Rattle.playback.specs.Grading.{RadioSets, Judges}
use Rattle.playback.specs.Standing.{next_trucks, holds, trucks_after, Stands, SixPlays, noted, Due, Halted}
use Rattle.playback.proofs.Graded.{radio_after}
use Rattle.playback.proofs.StoodSix.{prepare-stands, prepare-radio, bit-stands, bit-radio, accept-stands, accept-radio}
use Rattle.playback.proofs.Halts.{few, small, read_as_lem, read-active, at_place, recount, due_room, graded-next, halts}

-- the loop goes on
on_test : (left k rounds running decided : ℕ) → left ≡ rounds - k → (ltb k rounds && not (eqb running 0)) ≡ true
    → (eqb left 0 || eqb running 0 || not (eqb (bit_and decided 0) 0)) ≡ false
on_test left k rounds running decided e h =
    let l : k < rounds = ltb-true k rounds (and_left (ltb k rounds) (not (eqb running 0)) h) in
    ap₂ (λ (x y : Bool). x || y || not (eqb (bit_and decided 0) 0)) (ne_eqb left 0 (omega arith)) (not-true (eqb running 0) (and_right (ltb k rounds) (not (eqb running 0)) h))
    ∙ ap not (eq-eqb (bit_and decided 0) 0 (and_zero_r decided))

-- a turn of the loop over the rounds, before which k are done
module _ (rounds k : ℕ) {s : List ℕ} {at n : ℕ} {by ends sent : List ℕ} {running decided unwilling : ℕ} (d : Due six_rules (round_at s) s at n (rounds - k) k by ends sent running decided 0 0 0 unwilling 0)
    (h : (ltb k rounds && not (eqb running 0)) ≡ true) where
  pub six-on : (eqb (rounds - k) 0 || eqb running 0 || not (eqb (bit_and decided 0) 0)) ≡ false
  six-on = on_test (rounds - k) k rounds running decided refl h

  pub six_room : (n ≤ 32) × (((3 + n) * n ≤ 35 * 32) × ((at < 450000) × ((0 < rounds - k) × (k < 400))))
  six_room = due_room d six-on

-- it ends
over_test : (left k rounds running decided : ℕ) → left ≡ rounds - k → (ltb k rounds && not (eqb running 0)) ≡ false
    → (eqb left 0 || eqb running 0 || not (eqb (bit_and decided 0) 0)) ≡ true
over_test left k rounds running decided e h = go (ltb k rounds) refl (eqb running 0) refl h
  where
    go : (x : Bool) → ltb k rounds ≡ x → (y : Bool) → eqb running 0 ≡ y → (x && not y) ≡ false → (eqb left 0 || eqb running 0 || not (eqb (bit_and decided 0) 0)) ≡ true
    go false ex y ey q = ap (λ (b : Bool). b || eqb running 0 || not (eqb (bit_and decided 0) 0)) (eq-eqb left 0 (omega (arith, ltb-false k rounds ex)))
    go true ex true ey q = ap (λ (b : Bool). eqb left 0 || b || not (eqb (bit_and decided 0) 0)) ey ∙ any (eqb left 0)
      where
        any : (b : Bool) → (b || true || not (eqb (bit_and decided 0) 0)) ≡ true
        any true = refl
        any false = refl
    go true ex false ey q = absurd (true≢false q)

module _ {s : List ℕ} {at n left k : ℕ} {by ends sent : List ℕ} {running decided unwilling : ℕ} (d : Due six_rules (round_at s) s at n left k by ends sent running decided 0 0 0 unwilling 0)
    (on : (eqb left 0 || eqb running 0 || not (eqb (bit_and decided 0) 0)) ≡ false) {by' : List ℕ} {r : Played} (p : SixPlays s at n (k % 6) running unwilling by by' r) where
  due-small : (j : ℕ) → j < trucks_of s → estimates (trucks_after six_rules (round_at s) s k) j < 16
  due-small = small s d.good six_rules (round_at s) sound-six.takes k

  -- the sets and the radio after the round
  abbrev Goes : List ℕ → Played → Type 0
  Goes b q =
      Stands (trucks_of s) (k + left) (suc k) (opening_at s) (next_trucks six_rules (trucks_of s) k (round_at s k) (trucks_after six_rules (round_at s) s k)) b (filled (noted ends (without running q.on) (suc k)) 32 ends) sent
      q.on (bit_or decided q.done) 0 0 0 q.unwilling
      × RadioSets (radio_after six_rules (round_at s) s k) s (at + 3 * trucks_of s) (trucks_of s) q.going q.senders q.mark

  goes : Goes by' r
  goes = go (ℕ_discrete (k % 6) 0) (ℕ_discrete (k % 6) 5)
    where
      plays : SixPlays s at (trucks_of s) (k % 6) running unwilling by by' r
      plays = subst (λ (m : ℕ). SixPlays s at m (k % 6) running unwilling by by' r) d.count p

      go : Dec (k % 6 ≡ 0) → Dec (k % 6 ≡ 5) → Goes by' r
      go (yes z) q =
          let a = plays.prepare z in
          let o : suc k % 6 ≡ 1 = omega arith in
          subst (Goes by') (sym a.played) (
            prepare-stands d.stands (few s d.good) due-small s at (round_at s k) (read_as_lem s d.good (round_at s) d.words k at (at_place d)) o (read-active s d.good k at running (at_place d)) a,
            prepare-radio d.stands (few s d.good) due-small s at (round_at s k) (read_as_lem s d.good (round_at s) d.words k at (at_place d)) o (read-active s d.good k at running (at_place d)),
          )
      go (no z) (yes q) =
          let a = plays.accept q in
          let o : suc k % 6 ≡ 0 = omega arith in
          subst₂ Goes (sym a.1) (sym a.0.played) (
            accept-stands d.stands (few s d.good) due-small s at (round_at s k) (read_as_lem s d.good (round_at s) d.words k at (at_place d)) o a.0,
            accept-radio d.stands (few s d.good) due-small s at (round_at s k) (read_as_lem s d.good (round_at s) d.words k at (at_place d)) o a.0,
          )
      go (no z) (no q) =
          let a = plays.bits z q in
          let o₁ : suc k % 6 ≡ 1 → ⊥ = λ e. z (omega arith) in
          let o₀ : suc k % 6 ≡ 0 → ⊥ = λ e. q (omega arith) in
          let e : 4 - k % 6 ≡ 5 - suc k % 6 = omega arith in
          subst₂ Goes (sym a.1) (sym a.0.played) (
            bit-stands d.stands (few s d.good) due-small s at (round_at s k) (read_as_lem s d.good (round_at s) d.words k at (at_place d)) o₁ o₀ e a.0,
            bit-radio d.stands (few s d.good) due-small s at (round_at s k) (read_as_lem s d.good (round_at s) d.words k at (at_place d)) o₁ o₀ e a.0,
          )

  pub six-next : (who : ℕ) (ends' : List ℕ) (left' : ℕ) → who ≡ without running r.on → ends' ≡ filled (noted ends who (k + 1)) 32 ends → left' ≡ left - 1
      → Due six_rules (round_at s) s (at + (3 + n) * n) n left' (k + 1) by' ends' sent r.on (bit_or decided r.done) 0 0 0 r.unwilling 0
  six-next who ends' left' ew ee el =
      recount d on (without running r.on) ends' left' (ee ∙ ap (λ (x : ℕ). filled (noted ends x (k + 1)) 32 ends) ew) el goes.0
      (λ j l h. absurd (true≢false (sym h ∙ ap (λ (x : ℕ). holds x j) (and_zero_r (bit_or decided r.done)) ∙ bit-zero (31 - j))))

  pub six-graded : (judging : Bool) {l l' : List ℕ} → FoundAfter six_rules (round_at s) s judging k l
      → Judges judging s (at + 3 * n) n (k + 1) r.going r.senders r.mark l l' → FoundAfter six_rules (round_at s) s judging (k + 1) l'
  six-graded judging = graded-next d on judging goes.1

-- the run has come to its end
pub six_halts : {s : List ℕ} {at n left k : ℕ} {by ends sent : List ℕ} {running decided unwilling : ℕ} (d : Due six_rules (round_at s) s at n left k by ends sent running decided 0 0 0 unwilling 0)
    → (rounds : ℕ) → k ≤ rounds → left ≡ rounds - k → (ltb k rounds && not (eqb running 0)) ≡ false
    → Halted six_rules (round_at s) s rounds by ends sent 0 (record { running = running; decided = decided; marked = 0; one = 0; several = 0; unwilling = unwilling; done = k })
six_halts {s} {at} {n} {left} {k} {by} {ends} {sent} {running} {decided} {unwilling} d rounds le e h =
    subst (λ (x : ℕ). Halted six_rules (round_at s) s x by ends sent 0 (record { running = running; decided = decided; marked = 0; one = 0; several = 0; unwilling = unwilling; done = k }))
    (let q : k + left ≡ rounds = omega arith in q) (halts d (over_test left k rounds running decided e h))
