-- What follows from what is sent, heard and missed in one round: two majorities share a message, a truck without a mark heard what its class promises; and calm rounds,
-- and the first round that breaks a class.
use mathlib.Core.Path.{◌≡◌, refl, ap, sym, subst, ◌∙◌}
use mathlib.Core.Bool.{Bool, true, false, cond, not, ◌&&◌, ◌||◌, true≢false, false≢true}
use mathlib.Core.List.{[], ◌∷◌}
use Prim.Native.Nat.{ℕ, zero, suc, ◌+◌, ◌-◌, ◌*◌, ◌≤◌, ◌<◌}
use native.Mathlib.Decide.{dec_lt}
use native.Mathlib.Omega.{arith}
use borrow.Author.Tests.{ltb-true, lt-ltb, ltb-false, leb-true, leb-false, eq-eqb, eqb-true, not-true, not-false}
use lib.Dec.{ltb, leb, eqb}
use lib.ListN.{length, length-append}
use Rattle.basics.specs.Lists.{who, all_below, some_below, first}
use Rattle.basics.proofs.Laws.{who_ext, and_left, and_right, and_both, all_below-at, all_below-all, some_below-at, some_below_by, some_below-none, none-some_below, first-before, first-at}
use Rattle.radio.specs.Radio.{Radio, implies, sent, hears, heard_by, heard, misses, misses_any, judged, complete, majority_complete, zero_complete, accurate, in_full, few_senders, some_running, calm_round, calm_for, first_break, FirstToBreak, times_sent}

-- how many of the first m have p
abbrev count : (ℕ → Bool) → ℕ → ℕ
count p m = length (who p m)

pub count-suc : (p : ℕ → Bool) (m : ℕ) → length (who p (suc m)) ≡ length (who p m) + cond (p m) 1 0
unfolding who
count-suc p m = length-append (who p m) (cond (p m) (m ∷ []) []) ∙ ap (λ (k : ℕ). count p m + k) (go (p m))
  where
    go : (b : Bool) → length (cond b (m ∷ []) []) ≡ cond b 1 0
    go true = refl
    go false = refl

-- how often a truck sends, round by round
pub times_none : (kind : ℕ → Bool) (radios : ℕ → Radio) (i : ℕ) → times_sent kind radios i 0 ≡ 0
unfolding times_sent who
times_none kind radios i = refl

pub times_suc : (kind : ℕ → Bool) (radios : ℕ → Radio) (i R : ℕ)
    → times_sent kind radios i (suc R) ≡ times_sent kind radios i R + cond (kind (suc R) && (radios (suc R)).sends i) 1 0
unfolding times_sent
times_suc kind radios i R = count-suc (λ e. kind (suc e) && (radios (suc e)).sends i) R

-- two sets within s with no common element have sizes that add up to at most that of s
overlap : (p q s : ℕ → Bool) (m : ℕ)
    → ((k : ℕ) → k < m → p k ≡ true → s k ≡ true) → ((k : ℕ) → k < m → q k ≡ true → s k ≡ true)
    → ((k : ℕ) → k < m → p k ≡ true → q k ≡ true → ⊥) → count p m + count q m ≤ count s m
unfolding who
overlap p q s zero hp hq h = omega arith
overlap p q s (suc m) hp hq h =
    go (p m) (q m) (s m) (count-suc p m) (count-suc q m) (count-suc s m) (hp m (omega arith)) (hq m (omega arith)) (h m (omega arith))
    (overlap p q s m (λ k l. hp k (omega arith)) (λ k l. hq k (omega arith)) (λ k l. h k (omega arith)))
  where
    go : (a b c : Bool) → count p (suc m) ≡ count p m + cond a 1 0 → count q (suc m) ≡ count q m + cond b 1 0
        → count s (suc m) ≡ count s m + cond c 1 0 → (a ≡ true → c ≡ true) → (b ≡ true → c ≡ true) → (a ≡ true → b ≡ true → ⊥)
        → count p m + count q m ≤ count s m → count p (suc m) + count q (suc m) ≤ count s (suc m)
    go true true c ep eq es hp hq h i = absurd (h refl refl)
    go true false true ep eq es hp hq h i = omega arith
    go true false false ep eq es hp hq h i = absurd (false≢true (hp refl))
    go false true true ep eq es hp hq h i = omega arith
    go false true false ep eq es hp hq h i = absurd (false≢true (hq refl))
    go false false true ep eq es hp hq h i = omega arith
    go false false false ep eq es hp hq h i = omega arith

-- none of them, and at least one
count_none : (p : ℕ → Bool) (m : ℕ) → count p m ≡ 0 → (k : ℕ) → k < m → p k ≡ false
unfolding who
count_none p zero e k h = absurd (omega arith)
count_none p (suc m) e k h = go (p m) refl (count-suc p m) (dec_lt k m) (count_none p m)
  where
    go : (b : Bool) → p m ≡ b → count p (suc m) ≡ count p m + cond b 1 0 → Dec (k < m)
        → (count p m ≡ 0 → (k : ℕ) → k < m → p k ≡ false) → p k ≡ false
    go true f g d ih = absurd (omega arith)
    go false f g (yes l) ih = ih (omega arith) k l
    go false f g (no l) ih = rw (let s : k ≡ m = omega arith in s) f

pub count-some : (p : ℕ → Bool) (m k : ℕ) → k < m → p k ≡ true → 0 < count p m
count-some p m k h e = go (dec_lt 0 (count p m))
  where
    go : Dec (0 < count p m) → 0 < count p m
    go (yes l) = l
    go (no l) = absurd (true≢false (sym e ∙ count_none p m (omega arith) k h))

-- where there is at least one, here it is
pub count_by : (p : ℕ → Bool) (m : ℕ) → 0 < count p m → (k : ℕ) × (k < m) × (p k ≡ true)
unfolding who
count_by p zero h = absurd (omega arith)
count_by p (suc m) h = go (p m) refl (count-suc p m) (count_by p m)
  where
    go : (b : Bool) → p m ≡ b → count p (suc m) ≡ count p m + cond b 1 0
        → (0 < count p m → (k : ℕ) × (k < m) × (p k ≡ true)) → (k : ℕ) × (k < suc m) × (p k ≡ true)
    go true e f ih = (m, omega arith, e)
    go false e f ih = let r = ih (omega arith) in (r.0, omega (arith, r.1), r.2)

pub implies_mp : (b c : Bool) → implies b c ≡ true → b ≡ true → c ≡ true
implies_mp true c h e = h
implies_mp false c h e = absurd (false≢true e)

pub implies_by : (b c : Bool) → (b ≡ true → c ≡ true) → implies b c ≡ true
implies_by true c h = h refl
implies_by false c h = refl

-- what every running truck has
pub judged-at : (a : Radio) (p : ℕ → Bool) → judged a p ≡ true → (i : ℕ) → i < a.trucks → a.running i ≡ true → p i ≡ true
unfolding judged
judged-at a p h i l r =
    implies_mp (a.running i) (p i) (all_below-at (λ k. implies (a.running k) (p k)) a.trucks h i l) r

judged_by : (a : Radio) (p : ℕ → Bool) → ((i : ℕ) → i < a.trucks → a.running i ≡ true → p i ≡ true) → judged a p ≡ true
unfolding judged
judged_by a p h =
    all_below-all (λ k. implies (a.running k) (p k)) a.trucks (λ k l. implies_by (a.running k) (p k) (h k l))

module _ (a : Radio) (i : ℕ) where
  -- nothing is heard that was not sent
  pub hears-sends : (j : ℕ) → hears a i j ≡ true → a.sends j ≡ true
  unfolding hears
  hears-sends j h = and_left (a.sends j) _ h

  -- a sender hears itself
  pub hears_itself : a.sends i ≡ true → hears a i i ≡ true
  unfolding hears
  hears_itself h = and_both (a.sends i) _ h (ap (λ (b : Bool). b || not (a.lost i i)) (eq-eqb i i refl))

  -- who misses nothing hears all that was sent
  pub in_full_lem : misses_any a i ≡ false → heard_by a i ≡ who a.sends a.trucks
  unfolding misses_any heard_by misses
  in_full_lem h =
      who_ext (hears a i) a.sends a.trucks
      (λ k l. go (hears a i k) (a.sends k) (hears-sends k) (some_below-none (λ j. a.sends j && not (hears a i j)) a.trucks h k l))
    where
      go : (b c : Bool) → (b ≡ true → c ≡ true) → (c && not b) ≡ false → b ≡ c
      go true true f e = refl
      go true false f e = sym (f refl)
      go false true f e = sym e
      go false false f e = refl

-- where nobody runs a round has every class
nobody_judged : (a : Radio) → ((j : ℕ) → j < a.trucks → a.running j ≡ false) → (p : ℕ → Bool) → judged a p ≡ true
unfolding judged
nobody_judged a h p = all_below-all (λ i. implies (a.running i) (p i)) a.trucks (λ j l. ap (λ (r : Bool). implies r (p j)) (h j l))

pub idle_classes : (a : Radio) → ((j : ℕ) → j < a.trucks → a.running j ≡ false)
    → (complete a ≡ true) × (majority_complete a ≡ true) × (zero_complete a ≡ true) × (accurate a ≡ true)
unfolding complete majority_complete zero_complete accurate
idle_classes a h = (nobody_judged a h _, nobody_judged a h _, nobody_judged a h _, nobody_judged a h _)

-- a message is sent by somebody
pub sent-none : (a : Radio) → sent a ≡ 0 → (j : ℕ) → j < a.trucks → a.sends j ≡ false
unfolding sent
sent-none a e = count_none a.sends a.trucks e

pub sent-some : (a : Radio) (j : ℕ) → j < a.trucks → a.sends j ≡ true → 0 < sent a
unfolding sent
sent-some a = count-some a.sends a.trucks

pub sent_by_lem : (a : Radio) → 0 < sent a → (j : ℕ) × (j < a.trucks) × (a.sends j ≡ true)
unfolding sent
sent_by_lem a = count_by a.sends a.trucks

-- in a round in which nobody sends
pub nobody_sends : (a : Radio) → ((j : ℕ) → j < a.trucks → a.sends j ≡ false) → sent a ≡ 0
nobody_sends a h = go (dec_lt 0 (sent a))
  where
    go : Dec (0 < sent a) → sent a ≡ 0
    go (yes l) = let r = sent_by_lem a l in absurd (true≢false (sym r.2 ∙ h r.0 r.1))
    go (no l) = omega arith

-- nothing is heard in a silent round
pub silent_heard : (a : Radio) (i : ℕ) → sent a ≡ 0 → heard a i ≡ 0
unfolding heard heard_by
silent_heard a i e = go (dec_lt 0 (count (hears a i) a.trucks))
  where
    go : Dec (0 < count (hears a i) a.trucks) → count (hears a i) a.trucks ≡ 0
    go (yes l) =
        let r = count_by (hears a i) a.trucks l in
        absurd (true≢false (sym (hears-sends a i r.0 r.2) ∙ sent-none a e r.0 r.1))
    go (no l) = omega arith

-- two who hear more than half of the messages each hear one message in common
pub common : (a : Radio) (i j : ℕ) → sent a < 2 * heard a i → sent a < 2 * heard a j
    → (k : ℕ) × (k < a.trucks) × (hears a i k ≡ true) × (hears a j k ≡ true)
unfolding sent heard heard_by
common a i j hi hj = go (some_below both a.trucks) refl
  where
    both : ℕ → Bool
    both k = hears a i k && hears a j k

    go : (b : Bool) → some_below both a.trucks ≡ b → (k : ℕ) × (k < a.trucks) × (hears a i k ≡ true) × (hears a j k ≡ true)
    go true e =
        let s = some_below-at both a.trucks e in
        (s.0, s.1, and_left (hears a i s.0) (hears a j s.0) s.2, and_right (hears a i s.0) (hears a j s.0) s.2)
    go false e =
        absurd (omega (
          arith,
          overlap (hears a i) (hears a j) a.sends a.trucks (λ k l. hears-sends a i k) (λ k l. hears-sends a j k)
              (λ k l p q. true≢false (sym (and_both (hears a i k) (hears a j k) p q) ∙ some_below-none both a.trucks e k l)),
        ))

module _ (a : Radio) (i : ℕ) (l : i < a.trucks) (r : a.running i ≡ true) where
  -- no mark in a majority complete round with a message: more than half of the messages were heard
  pub majority_hears : majority_complete a ≡ true → a.marked i ≡ false → 0 < sent a → sent a < 2 * heard a i
  unfolding majority_complete
  majority_hears h m s = go (leb (2 * heard a i) (sent a)) refl
    where
      go : (b : Bool) → leb (2 * heard a i) (sent a) ≡ b → sent a < 2 * heard a i
      go true e =
          absurd (false≢true (sym m ∙ implies_mp (ltb 0 (sent a) && leb (2 * heard a i) (sent a)) (a.marked i)
          (judged-at a (λ i. implies (ltb 0 (sent a) && leb (2 * heard a i) (sent a)) (a.marked i)) h i l r)
          (and_both (ltb 0 (sent a)) (leb (2 * heard a i) (sent a)) (lt-ltb 0 (sent a) s) e)))
      go false e = leb-false (2 * heard a i) (sent a) e

  -- no mark in a zero complete round and nothing heard: nothing was sent
  pub zero_silent : zero_complete a ≡ true → a.marked i ≡ false → heard a i ≡ 0 → sent a ≡ 0
  unfolding zero_complete
  zero_silent h m z = go (dec_lt 0 (sent a))
    where
      go : Dec (0 < sent a) → sent a ≡ 0
      go (yes s) =
          absurd (false≢true (sym m ∙ implies_mp (ltb 0 (sent a) && eqb (heard a i) 0) (a.marked i)
          (judged-at a (λ i. implies (ltb 0 (sent a) && eqb (heard a i) 0) (a.marked i)) h i l r)
          (and_both (ltb 0 (sent a)) (eqb (heard a i) 0) (lt-ltb 0 (sent a) s) (eq-eqb (heard a i) 0 z))))
      go (no s) = omega arith

  -- no mark in an accurate round that was heard in full
  pub accurate_clear : accurate a ≡ true → misses_any a i ≡ false → a.marked i ≡ false
  unfolding accurate
  accurate_clear h m = go (a.marked i) refl
    where
      go : (b : Bool) → a.marked i ≡ b → b ≡ false
      go true e =
          absurd (false≢true (sym m ∙ implies_mp (a.marked i) (misses_any a i) (judged-at a (λ i. implies (a.marked i) (misses_any a i)) h i l r) e))
      go false e = refl

-- nobody misses anything of a silent round
pub silent_none : (a : Radio) (i : ℕ) → sent a ≡ 0 → misses_any a i ≡ false
unfolding misses_any misses
silent_none a i e =
    none-some_below (λ j. a.sends j && not (hears a i j)) a.trucks (λ k l. rw (sent-none a e k l))

-- a majority complete round is zero complete
pub majority_zero : (a : Radio) → majority_complete a ≡ true → zero_complete a ≡ true
unfolding zero_complete
majority_zero a h =
    judged_by a (λ i. implies (ltb 0 (sent a) && eqb (heard a i) 0) (a.marked i))
    (λ i l r. implies_by (ltb 0 (sent a) && eqb (heard a i) 0) (a.marked i) (λ e. go i l r e (a.marked i) refl))
  where
    go : (i : ℕ) → i < a.trucks → a.running i ≡ true → (ltb 0 (sent a) && eqb (heard a i) 0) ≡ true → (b : Bool) → a.marked i ≡ b → b ≡ true
    go i l r e true m = refl
    go i l r e false m =
        absurd (omega (
          arith,
          majority_hears a i l r h m (ltb-true 0 (sent a) (and_left (ltb 0 (sent a)) (eqb (heard a i) 0) e)),
          eqb-true (heard a i) 0 (and_right (ltb 0 (sent a)) (eqb (heard a i) 0) e),
        ))

-- what a calm round with one to b senders is to a running truck: it has no mark and hears all that was sent
pub calm-hears : (b : ℕ) (proposes : Bool) (a : Radio) (i : ℕ) → i < a.trucks → a.running i ≡ true → calm_round b proposes a ≡ true
    → few_senders b a ≡ true → (a.marked i ≡ false) × (heard_by a i ≡ who a.sends a.trucks)
unfolding calm_round in_full
calm-hears b proposes a i l r c f =
    let two = and_left (accurate a && implies (few_senders b a) (in_full a)) (implies (proposes && some_running a) (few_senders b a)) c in
    let all = implies_mp (few_senders b a) (in_full a) (and_right (accurate a) (implies (few_senders b a) (in_full a)) two) f in
    let none = not-true (misses_any a i) (judged-at a (λ i. not (misses_any a i)) all i l r) in
    (accurate_clear a i l r (and_left (accurate a) (implies (few_senders b a) (in_full a)) two) none, in_full_lem a i none)

-- a calm round for proposals with a truck running has one to b senders
pub calm-few : (b : ℕ) (a : Radio) (i : ℕ) → i < a.trucks → a.running i ≡ true → calm_round b true a ≡ true → few_senders b a ≡ true
unfolding calm_round some_running
calm-few b a i l r c =
    implies_mp (some_running a) (few_senders b a)
    (and_right (accurate a && implies (few_senders b a) (in_full a)) (implies (some_running a) (few_senders b a)) c)
    (some_below_by a.running a.trucks i l r)

pub few-some : (b : ℕ) (a : Radio) → few_senders b a ≡ true → 0 < sent a
unfolding few_senders
few-some b a h = ltb-true 0 (sent a) (and_left (ltb 0 (sent a)) (leb (sent a) b) h)

-- a calm round is accurate
pub calm-accurate : (b : ℕ) (proposes : Bool) (a : Radio) → calm_round b proposes a ≡ true → accurate a ≡ true
unfolding calm_round
calm-accurate b proposes a c =
    and_left (accurate a) (implies (few_senders b a) (in_full a))
    (and_left (accurate a && implies (few_senders b a) (in_full a)) (implies (proposes && some_running a) (few_senders b a)) c)

-- the rounds S to S + d are calm with b
abbrev pub CalmRounds : ℕ → (ℕ → Bool) → (ℕ → Radio) → ℕ → ℕ → Type 0
CalmRounds d proposes radios S b = (k : ℕ) → S ≤ k → k ≤ S + d → calm_round b (proposes k) (radios k) ≡ true

-- what calm says, round by round
pub calm_parts : (d : ℕ) (proposes : ℕ → Bool) (radios : ℕ → Radio) (R S b : ℕ) → calm_for d proposes radios R S b ≡ true
    → (1 ≤ S) × (S + d ≤ R) × CalmRounds d proposes radios S b
unfolding calm_for
calm_parts d proposes radios R S b h =
    let front = and_left (leb 1 S && leb (S + d) R) (all_below round (suc d)) h in (
      leb-true 1 S (and_left (leb 1 S) (leb (S + d) R) front),
      leb-true (S + d) R (and_right (leb 1 S) (leb (S + d) R) front),
      λ k s l. subst (λ (j : ℕ). calm_round b (proposes j) (radios j) ≡ true) (let e : S + (k - S) ≡ k = omega arith in e)
          (all_below-at round (suc d) (and_right (leb 1 S && leb (S + d) R) (all_below round (suc d)) h) (k - S) (omega arith)),
    )
  where
    round : ℕ → Bool
    round e = calm_round b (proposes (S + e)) (radios (S + e))

-- what the first break of a class says: 0 that there is none, any other number which round it is
module _ (class : Radio → Bool) (radios : ℕ → Radio) (R : ℕ) where
  abbrev breaks : ℕ → Bool
  breaks e = not (class (radios (suc e)))

  -- the rounds before it have the class
  unbroken : (k : ℕ) → 1 ≤ k → k ≤ first breaks R → class (radios k) ≡ true
  unbroken k s l =
      subst (λ (j : ℕ). class (radios j) ≡ true) (let e : suc (k - 1) ≡ k = omega arith in e)
      (not-false (class (radios (suc (k - 1)))) (first-before breaks R (k - 1) (omega arith)))

  pub break_never : first_break class radios R ≡ 0 → (k : ℕ) → 1 ≤ k → k ≤ R → class (radios k) ≡ true
  unfolding first_break
  break_never h k s l = go (ltb (first breaks R) R) refl h
    where
      go : (b : Bool) → ltb (first breaks R) R ≡ b → cond b (suc (first breaks R)) 0 ≡ 0 → class (radios k) ≡ true
      go true e z = absurd (omega arith)
      go false e z = unbroken k s (omega (arith, ltb-false (first breaks R) R e))

  pub break_first : (first_break class radios R ≡ 0 → ⊥) → FirstToBreak class radios R (first_break class radios R)
  unfolding first_break
  break_first h = go (ltb (first breaks R) R) refl h
    where
      go : (b : Bool) → ltb (first breaks R) R ≡ b → (cond b (suc (first breaks R)) 0 ≡ 0 → ⊥) → FirstToBreak class radios R (cond b (suc (first breaks R)) 0)
      go true e z =
          let l : first breaks R < R = ltb-true (first breaks R) R e in
          record {
            some = omega arith;
            most = l;
            breaks = not-true (class (radios (suc (first breaks R)))) (first-at breaks R l);
            before = λ j s o. unbroken j s (omega arith);
          }
      go false e z = absurd (z refl)
