-- Whole runs of any cycle: what n trucks with given openings come to, round by round.
use mathlib.Core.Path.{◌≡◌, refl, ap, ap₂, sym, ◌∙◌}
use mathlib.Core.Bool.{false, true≢false}
use mathlib.Core.List.{List}
use mathlib.Core.Logic.{◌⊎◌, inl, inr, ⊎_elim}
use Prim.Native.Nat.{ℕ, zero, suc, ◌+◌, ◌-◌, ◌≤◌, ◌<◌}
use native.Mathlib.Omega.{arith}
use lib.ListN.{get_or}
use Rattle.radio.specs.Round.{active_bit}
use Rattle.radio.specs.Runs.{state_at}
use Rattle.protocol.specs.Cycles.{Kind, Rules, truck_in, runs_in, radio_in, after_in}
use Rattle.protocol.specs.Runs.{trucks_in, radios_in}
use Rattle.protocol.specs.Claims.{AgreedIn}
use Rattle.protocol.proofs.Opened.{place_opened}
use Rattle.protocol.proofs.AnyRound.{Stamps, Takes, EndedIn, UndecidedIn, SettledIn, next-idle, estimate-next, settled-next}

-- a run looks at its own rounds only
pub rounds_ext : {T : Type 0} {K : Kind T} (c : Rules K) (n : ℕ) (openings : List ℕ) (r q : ℕ → List ℕ) (R : ℕ) → ((k : ℕ) → k < R → r k ≡ q k)
    → trucks_in c n openings r R ≡ trucks_in c n openings q R
unfolding trucks_in state_at
rounds_ext c n openings r q zero h = refl
rounds_ext {T} c n openings r q (suc k) h =
    ap₂ (λ (w : List ℕ) (ts : List T). after_in c n (active_bit w) (suc k) w ts) (h k (omega arith)) (rounds_ext c n openings r q k (λ j l. h j (omega arith)))

module _ {T : Type 0} {K : Kind T} (c : Rules K) (n : ℕ) (openings : List ℕ) (rounds : ℕ → List ℕ) where
  abbrev at : ℕ → List T
  at k = trucks_in c n openings rounds k

  pub at_suc : (k : ℕ) → trucks_in c n openings rounds (suc k) ≡ after_in c n (active_bit (rounds k)) (suc k) (rounds k) (trucks_in c n openings rounds k)
  unfolding trucks_in state_at
  at_suc k = refl

  pub radio-suc : (k : ℕ) → radios_in c n openings rounds (suc k) ≡ radio_in c n (active_bit (rounds k)) (suc k) (rounds k) (trucks_in c n openings rounds k)
  unfolding radios_in
  radio-suc k =
      ap (λ (j : ℕ). radio_in c n (active_bit (rounds j)) (suc k) (rounds j) (trucks_in c n openings rounds j)) (let e : suc k - 1 ≡ k = omega arith in e)

  pub opened-truck : (i : ℕ) → i < 32 → truck_in K (trucks_in c n openings rounds 0) i ≡ K.opened (get_or openings i 0)
  unfolding trucks_in state_at
  opened-truck i l = place_opened K openings i l

  -- what holds at the start and after each round holds throughout
  pub throughout : (P : ℕ → List T → Type 0) (R : ℕ) → P 0 (trucks_in c n openings rounds 0)
      → ((k : ℕ) → k < R → P k (trucks_in c n openings rounds k)
      → P (suc k) (after_in c n (active_bit (rounds k)) (suc k) (rounds k) (trucks_in c n openings rounds k)))
      → (k : ℕ) → k ≤ R → P k (trucks_in c n openings rounds k)
  throughout P R start step zero l = start
  throughout P R start step (suc k) l = rw (at_suc k) (step k (omega arith) (throughout P R start step k (omega arith)))

  -- a truck that runs no more keeps its record
  pub kept : (i : ℕ) → i < n → (k d : ℕ) → runs_in K (truck_in K (trucks_in c n openings rounds k) i) ≡ false
      → truck_in K (trucks_in c n openings rounds (k + d)) i ≡ truck_in K (trucks_in c n openings rounds k) i
  kept i l k zero h = ap (λ (j : ℕ). truck_in K (at j) i) (omega arith)
  kept i l k (suc d) h =
      let e = kept i l k d h in
      ap (λ (j : ℕ). truck_in K (at j) i) (let x : k + suc d ≡ suc (k + d) = omega arith in x)
      ∙ ap (λ (ts : List T). truck_in K ts i) (at_suc (k + d))
      ∙ next-idle c n (active_bit (rounds (k + d))) (suc (k + d)) (rounds (k + d)) (at (k + d)) i l (ap (runs_in K) e ∙ h)
      ∙ e

  -- once no truck runs, none changes, and none runs later
  pub ended_kept : (m R : ℕ) → m ≤ R → EndedIn K n (trucks_in c n openings rounds m)
      → (i : ℕ) → i < n → truck_in K (trucks_in c n openings rounds R) i ≡ truck_in K (trucks_in c n openings rounds m) i
  ended_kept m R le h i l =
      let e : R ≡ m + (R - m) = omega arith in
      ap (λ (j : ℕ). truck_in K (at j) i) e ∙ kept i l m (R - m) (h i l)

  pub ended_on : (m R : ℕ) → m ≤ R → EndedIn K n (trucks_in c n openings rounds m) → EndedIn K n (trucks_in c n openings rounds R)
  ended_on m R le h i l = ap (runs_in K) (ended_kept m R le h i l) ∙ h i l

  -- every estimate is one of the n openings
  pub estimates-open : n ≤ 32 → Takes c → (k : ℕ) (i : ℕ) → i < n → (j : ℕ) × (j < n) × (K.estimate (truck_in K (trucks_in c n openings rounds k) i) ≡ get_or openings j 0)
  estimates-open small takes k =
      throughout (λ k ts. (i : ℕ) → i < n → (j : ℕ) × (j < n) × (K.estimate (truck_in K ts i) ≡ get_or openings j 0)) k
      (λ i l. (i, l, ap K.estimate (opened-truck i (omega arith)) ∙ takes.opened (get_or openings i 0)))
      (λ k lk h i l.
      estimate-next c n (active_bit (rounds k)) (suc k) (rounds k) (at k) takes (λ (u : ℕ). (j : ℕ) × (j < n) × (u ≡ get_or openings j 0)) i l (h i l) (λ j lj s. h j lj))
      k (omega arith)

  -- what holds until some round, and what holds from then on
  pub until : (Before After : ℕ → List T → Type 0) (R : ℕ) → Before 0 (trucks_in c n openings rounds 0)
      → ((k : ℕ) → k < R → Before k (trucks_in c n openings rounds k)
      → Before (suc k) (after_in c n (active_bit (rounds k)) (suc k) (rounds k) (trucks_in c n openings rounds k))
      ⊎ After (suc k) (after_in c n (active_bit (rounds k)) (suc k) (rounds k) (trucks_in c n openings rounds k)))
      → ((k : ℕ) → k < R → After k (trucks_in c n openings rounds k)
      → After (suc k) (after_in c n (active_bit (rounds k)) (suc k) (rounds k) (trucks_in c n openings rounds k)))
      → Before R (trucks_in c n openings rounds R) ⊎ After R (trucks_in c n openings rounds R)
  until Before After R start step on =
      throughout (λ k ts. Before k ts ⊎ After k ts) R (inl start) (λ k l h. ⊎_elim (step k l) (λ s. inr (on k l s)) h) R (omega arith)

  -- nobody has decided, or all hold one crusher: by an invariant that holds until the first decisions
  pub agrees_by : Stamps c → Takes c → (Invariant : ℕ → List T → Type 0) → ((k : ℕ) (ts : List T) → Invariant k ts → UndecidedIn K n ts)
      → (R : ℕ) → Invariant 0 (trucks_in c n openings rounds 0)
      → ((k : ℕ) → k < R → Invariant k (trucks_in c n openings rounds k)
      → Invariant (suc k) (after_in c n (active_bit (rounds k)) (suc k) (rounds k) (trucks_in c n openings rounds k))
      ⊎ SettledIn K n (after_in c n (active_bit (rounds k)) (suc k) (rounds k) (trucks_in c n openings rounds k)))
      → UndecidedIn K n (trucks_in c n openings rounds R) ⊎ SettledIn K n (trucks_in c n openings rounds R)
  agrees_by stamps takes Invariant nobody R start step =
      ⊎_elim (λ h. inl (nobody R (at R) h)) inr
      (until Invariant (λ k ts. SettledIn K n ts) R start step
      (λ k l s. settled-next c n (active_bit (rounds k)) (suc k) (rounds k) (at k) stamps takes s))

  -- so the decided trucks agree, on one of the openings
  pub agreed_by : n ≤ 32 → Takes c → (R : ℕ)
      → UndecidedIn K n (trucks_in c n openings rounds R) ⊎ SettledIn K n (trucks_in c n openings rounds R)
      → AgreedIn K n openings (trucks_in c n openings rounds R)
  agreed_by small takes R h =
      record {
        same = λ i j li lj di dj. ⊎_elim (λ u. absurd (true≢false (sym di ∙ u i li))) (λ s. s.decided i li di ∙ sym (s.decided j lj dj)) h;
        opening = λ i l d. estimates-open small takes R i l;
      }
