-- What one round of any cycle makes of the trucks: what depends only on stops and hearing.
use mathlib.Core.Path.{◌≡◌, refl, ap, sym, subst, ◌∙◌}
use mathlib.Core.Bool.{Bool, true, false, not, ◌&&◌, ◌||◌, true≢false, false≢true}
use mathlib.Core.List.{List, map, Memᴰ}
use mathlib.Core.Logic.{◌⊎◌, inl, inr, ⊎_elim}
use Prim.Native.Nat.{ℕ, ◌<◌}
use native.Mathlib.Omega.{arith}
use borrow.Author.Tests.{ltb-false}
use lib.Dec.{ltb}
use lib.ListN.{length, length-map}
use Rattle.basics.specs.Lists.{who, some_below}
use Rattle.basics.proofs.Laws.{get_or-filled, and_left, and_both, or_left, or_right, or-none, some_below-at, some_below-none}
use Rattle.radio.specs.Round.{stop_bit, active_bit}
use Rattle.radio.specs.Radio.{Radio, sent, heard, heard_by, hears, zero_complete, accurate, calm_round}
use Rattle.radio.proofs.Laws.{hears-sends, sent_by_lem, nobody_sends, silent_heard, silent_none, zero_silent, accurate_clear, calm-hears, calm-few, few-some, calm-accurate}
use Rattle.protocol.specs.declared.State.{State}
use Rattle.protocol.specs.declared.State.TheVariants.{Running, Stopped, Decided}
use Rattle.protocol.specs.Cycles.{is_running, Kind, Rules, turn, truck_in, runs_in, values_in, radio_in, plays_in, after_in}
use Rattle.protocol.specs.Rules.{least_or}
use Rattle.protocol.specs.Claims.{is_decided}
use Rattle.protocol.proofs.Values.{value_of, of_value, least_any}

-- a round for one truck, by what happens to it: it is left alone, it stops, or it plays
pub turn_cases : {T : Type 0} (P : T → Type 0) (s : State) (b : Bool) (stopped played t : T)
    → (is_running s ≡ false → P t) → (is_running s ≡ true → b ≡ true → P stopped) → (is_running s ≡ true → b ≡ false → P played)
    → P (turn s b stopped played t)
turn_cases P Running true stopped played t idle stop play = stop refl refl
turn_cases P Running false stopped played t idle stop play = play refl refl
turn_cases P (Stopped r) b stopped played t idle stop play = idle refl
turn_cases P (Decided r) b stopped played t idle stop play = idle refl

-- what a cycle has to show of states: a stop and a decision hold their rounds
pub record Stamps {T : Type 0} {K : Kind T} (c : Rules K) : Type 0 where
  pub stops : (k : ℕ) (t : T) → K.state (c.stops k t) ≡ Stopped k
  pub plays : (k : ℕ) (b s m : Bool) (vs : List ℕ) (t : T) → runs_in K t ≡ true
      → (K.state (c.plays k b s m vs t) ≡ Running) ⊎ (K.state (c.plays k b s m vs t) ≡ Decided k)

-- what a cycle in which estimates are heard has to show of them: a truck opens with its opening, and keeps its estimate or takes one that it hears
pub record Takes {T : Type 0} {K : Kind T} (c : Rules K) : Type 0 where
  pub opened : (v : ℕ) → K.estimate (K.opened v) ≡ v
  pub stops : (k : ℕ) (t : T) → K.estimate (c.stops k t) ≡ K.estimate t
  pub plays : (k : ℕ) (b s m : Bool) (vs : List ℕ) (t : T)
      → (K.estimate (c.plays k b s m vs t) ≡ K.estimate t) ⊎ Memᴰ (K.estimate (c.plays k b s m vs t)) vs

-- truck i has noise: a mark, or a message that it hears
abbrev pub has_noise : Radio → ℕ → Bool
has_noise a i = a.marked i || ltb 0 (heard a i)

module _ (a : Radio) (i : ℕ) (l : i < a.trucks) (r : a.running i ≡ true) where
  -- where a running truck has no noise in a zero complete round, nothing was sent
  pub no_noise : zero_complete a ≡ true → has_noise a i ≡ false → sent a ≡ 0
  no_noise zc q =
      zero_silent a i l r zc (or_left (a.marked i) (ltb 0 (heard a i)) q)
      (omega (arith, ltb-false 0 (heard a i) (or_right (a.marked i) (ltb 0 (heard a i)) q)))

  -- where nothing was sent in an accurate round, a running truck has no noise
  pub silence : accurate a ≡ true → sent a ≡ 0 → has_noise a i ≡ false
  silence ac e = or-none (a.marked i) (ltb 0 (heard a i)) (accurate_clear a i l r ac (silent_none a i e)) (rw (silent_heard a i e))

-- no truck runs any more
abbrev pub EndedIn : {T : Type 0} → Kind T → ℕ → List T → Type 0
EndedIn K n ts = (i : ℕ) → i < n → runs_in K (truck_in K ts i) ≡ false

-- nobody has decided
abbrev pub UndecidedIn : {T : Type 0} → Kind T → ℕ → List T → Type 0
UndecidedIn K n ts = (i : ℕ) → i < n → is_decided (K.state (truck_in K ts i)) ≡ false

-- all running and all decided trucks hold one crusher
pub record SettledIn {T : Type 0} (K : Kind T) (n : ℕ) (ts : List T) : Type 0 where
  pub crusher : ℕ
  pub running : (i : ℕ) → i < n → runs_in K (truck_in K ts i) ≡ true → K.estimate (truck_in K ts i) ≡ crusher
  pub decided : (i : ℕ) → i < n → is_decided (K.state (truck_in K ts i)) ≡ true → K.estimate (truck_in K ts i) ≡ crusher

module _ {T : Type 0} {K : Kind T} (c : Rules K) (n : ℕ) (active : ℕ → Bool) (k : ℕ) (w : List ℕ) (ts : List T) where
  abbrev pub radio : Radio
  radio = radio_in c n active k w ts

  abbrev pub next : List T
  next = after_in c n active k w ts

  abbrev old : ℕ → T
  old i = truck_in K ts i

  -- a running truck whose stop bit is clear goes on
  goes_on : (i : ℕ) → runs_in K (truck_in K ts i) ≡ true → stop_bit w i ≡ false → radio.running i ≡ true
  unfolding radio_in
  goes_on i h s = and_both (runs_in K (old i)) (not (stop_bit w i)) h (ap not s)

  -- truck i after the round, by what happened to it
  pub after_cases : (P : T → Type 0) (i : ℕ) → i < n
      → (runs_in K (truck_in K ts i) ≡ false → P (truck_in K ts i))
      → (runs_in K (truck_in K ts i) ≡ true → stop_bit w i ≡ true → P (c.stops k (truck_in K ts i)))
      → (runs_in K (truck_in K ts i) ≡ true → radio.running i ≡ true → P (plays_in c radio k w ts i)) → P (truck_in K next i)
  unfolding after_in radio_in
  after_cases P i l idle stop play =
      subst P (sym (get_or-filled rule n ts i (K.opened 0) l))
      (turn_cases P (K.state (old i)) (stop_bit w i) (c.stops k (old i)) (plays_in c radio k w ts i) (old i) idle stop
      (λ r s. play r (goes_on i r s)))
    where
      rule : ℕ → T
      rule i = turn (K.state (old i)) (stop_bit w i) (c.stops k (old i)) (plays_in c radio k w ts i) (old i)

  -- a truck that sends is running
  pub sender-runs : (i : ℕ) → radio.sends i ≡ true → radio.running i ≡ true
  unfolding radio_in
  sender-runs i h = and_left (runs_in K (old i) && not (stop_bit w i)) (c.sends k (active i) (old i)) h

  -- one that doesn't run after the round's stops doesn't send
  pub idle_silent : (i : ℕ) → (radio.running i ≡ true → ⊥) → radio.sends i ≡ false
  idle_silent i h = go (radio.sends i) refl
    where
      go : (b : Bool) → radio.sends i ≡ b → b ≡ false
      go true e = absurd (h (sender-runs i e))
      go false e = refl

  pub running-runs : (i : ℕ) → radio.running i ≡ true → runs_in K (truck_in K ts i) ≡ true
  unfolding radio_in
  running-runs i h = and_left (runs_in K (old i)) (not (stop_bit w i)) h

  -- where no running truck sends, nothing is sent
  pub none-sends : ((j : ℕ) → j < n → radio.running j ≡ true → radio.sends j ≡ false) → sent radio ≡ 0
  unfolding radio_in
  none-sends none = nobody_sends radio (λ j lj. go j lj (radio.sends j) refl)
    where
      go : (j : ℕ) → j < n → (x : Bool) → radio.sends j ≡ x → x ≡ false
      go j lj false g = refl
      go j lj true g = sym g ∙ none j lj (sender-runs j g)

  -- a running truck sends if the cycle says so
  pub sends-rules : (i : ℕ) → radio.running i ≡ true → radio.sends i ≡ c.sends k (active i) (truck_in K ts i)
  unfolding radio_in
  sends-rules i h = rw h

  -- a value that truck i hears is the estimate of a sender that it hears
  pub heard_value : (i u : ℕ) → Memᴰ u (values_in K radio ts i)
      → (j : ℕ) × (j < n) × (hears radio i j ≡ true) × (u ≡ K.estimate (truck_in K ts j))
  unfolding values_in heard_by radio_in
  heard_value i u h = of_value (λ j. K.estimate (truck_in K ts j)) (hears radio i) n u h

  pub value_heard : (i j : ℕ) → j < n → hears radio i j ≡ true → Memᴰ (K.estimate (truck_in K ts j)) (values_in K radio ts i)
  unfolding values_in heard_by radio_in
  value_heard i j l h = value_of (λ j. K.estimate (truck_in K ts j)) (hears radio i) n j l h

  -- the values sent
  abbrev pub sent_values : List ℕ
  sent_values = map (λ j. K.estimate (truck_in K ts j)) (who radio.sends n)

  -- as many values as messages
  pub values-heard : (i : ℕ) → length (values_in K radio ts i) ≡ heard radio i
  unfolding values_in heard
  values-heard i = simp length-map

  -- what a truck plays, with its mark as on the radio
  pub plays_is : (i : ℕ) → plays_in c radio k w ts i ≡ c.plays k (active_bit w i) (radio.sends i) (radio.marked i) (values_in K radio ts i) (truck_in K ts i)
  unfolding plays_in radio_in
  plays_is i = refl

  -- a truck that doesn't run stays as it is
  pub next-idle : (i : ℕ) → i < n → runs_in K (truck_in K ts i) ≡ false → truck_in K next i ≡ truck_in K ts i
  next-idle i l h =
      after_cases (λ (t : T). t ≡ old i) i l (λ g. refl) (λ g s. absurd (true≢false (sym g ∙ h))) (λ g r. absurd (true≢false (sym g ∙ h)))

  -- what holds of a truck's estimate and of all that was sent holds of its estimate after the round
  pub estimate-next : Takes c → (P : ℕ → Type 0) (i : ℕ) → i < n → P (K.estimate (truck_in K ts i))
      → ((j : ℕ) → j < n → radio.sends j ≡ true → P (K.estimate (truck_in K ts j))) → P (K.estimate (truck_in K next i))
  estimate-next takes P i l own sent =
      after_cases (λ (t : T). P (K.estimate t)) i l (λ h. own) (λ h s. rw (takes.stops k (old i)) own)
      (λ h r. rw (plays_is i) (go (takes.plays k (active_bit w i) (radio.sends i) (radio.marked i) (values_in K radio ts i) (old i))))
    where
      new : ℕ
      new = K.estimate (c.plays k (active_bit w i) (radio.sends i) (radio.marked i) (values_in K radio ts i) (old i))

      go : (new ≡ K.estimate (old i)) ⊎ Memᴰ new (values_in K radio ts i) → P new
      go (inl e) = subst P (sym e) own
      go (inr m) = let r = heard_value i new m in subst P (sym r.3) (sent r.0 r.1 (hears-sends radio i r.0 r.2))

  module _ (stamps : Stamps c) where
    -- a truck that runs after the round played it
    pub next-played : (i : ℕ) → i < n → runs_in K (truck_in K next i) ≡ true → (radio.running i ≡ true) × (truck_in K next i ≡ plays_in c radio k w ts i)
    next-played i l =
        after_cases (λ (t : T). runs_in K t ≡ true → (radio.running i ≡ true) × (t ≡ plays_in c radio k w ts i)) i l
        (λ h r. absurd (true≢false (sym r ∙ h)))
        (λ h s r. absurd (false≢true (sym (ap is_running (stamps.stops k (old i))) ∙ r)))
        (λ h r x. (r, refl))

    -- a truck that is decided after the round was decided before it, or played it
    pub next_decided : (i : ℕ) → i < n → is_decided (K.state (truck_in K next i)) ≡ true
        → ((is_decided (K.state (truck_in K ts i)) ≡ true) × (truck_in K next i ≡ truck_in K ts i)) ⊎ ((radio.running i ≡ true) × (truck_in K next i ≡ plays_in c radio k w ts i))
    next_decided i l =
        after_cases (λ (t : T). is_decided (K.state t) ≡ true
        → ((is_decided (K.state (old i)) ≡ true) × (t ≡ old i)) ⊎ ((radio.running i ≡ true) × (t ≡ plays_in c radio k w ts i))) i l
        (λ h d. inl (d, refl))
        (λ h s d. absurd (false≢true (sym (ap is_decided (stamps.stops k (old i))) ∙ d)))
        (λ h r d. inr (r, refl))

    -- after a round in which no truck that plays decides, nobody has decided
    pub undecided_next : UndecidedIn K n ts → ((i : ℕ) → i < n → radio.running i ≡ true → is_decided (K.state (plays_in c radio k w ts i)) ≡ false)
        → UndecidedIn K n next
    undecided_next u none i l =
        after_cases (λ (t : T). is_decided (K.state t) ≡ false) i l (λ h. u i l) (λ h s. ap is_decided (stamps.stops k (old i))) (λ h r. none i l r)

    -- after a round in which each truck that plays decides, none runs
    pub ended_next : ((i : ℕ) → i < n → radio.running i ≡ true → runs_in K (plays_in c radio k w ts i) ≡ false) → EndedIn K n next
    ended_next ends i l =
        after_cases (λ (t : T). runs_in K t ≡ false) i l (λ h. h) (λ h s. ap is_running (stamps.stops k (old i))) (λ h r. ends i l r)

    -- all running and decided trucks go on to hold the one crusher
    pub settled-next : Takes c → SettledIn K n ts → SettledIn K n next
    settled-next takes s =
        record {
          crusher = v;
          running = λ i l r. keeps i l (s.running i l (running-runs i (next-played i l r).0));
          decided = λ i l d. ⊎_elim (λ x. keeps i l (s.decided i l x.0)) (λ x. keeps i l (s.running i l (running-runs i x.0))) (next_decided i l d);
        }
      where
        v : ℕ
        v = s.crusher

        keeps : (i : ℕ) → i < n → K.estimate (truck_in K ts i) ≡ v → K.estimate (truck_in K next i) ≡ v
        keeps i l own = estimate-next takes (λ (u : ℕ). u ≡ v) i l own (λ j lj x. s.running j lj (running-runs j (sender-runs j x)))

    -- the first decisions: in a round that leaves the estimates, and in which a truck that decides shares its own with all that run
    pub first-decisions : UndecidedIn K n ts
        → ((i : ℕ) → K.estimate (plays_in c radio k w ts i) ≡ K.estimate (truck_in K ts i))
        → ((i : ℕ) → i < n → radio.running i ≡ true → is_decided (K.state (plays_in c radio k w ts i)) ≡ true
        → (j : ℕ) → j < n → radio.running j ≡ true → K.estimate (truck_in K ts j) ≡ K.estimate (truck_in K ts i))
        → UndecidedIn K n next ⊎ SettledIn K n next
    first-decisions u keeps shares = go (some_below decided n) refl
      where
        decided : ℕ → Bool
        decided i = is_decided (K.state (truck_in K next i))

        -- what is known of a truck that played
        Played : ℕ → Type 0
        Played i = (radio.running i ≡ true) × (truck_in K next i ≡ plays_in c radio k w ts i)

        now : (i : ℕ) → i < n → decided i ≡ true → Played i
        now i l d = ⊎_elim (λ x. absurd (true≢false (sym x.0 ∙ u i l))) (λ x. x) (next_decided i l d)

        go : (b : Bool) → some_below decided n ≡ b → UndecidedIn K n next ⊎ SettledIn K n next
        go false g = inl (some_below-none decided n g)
        go true g =
            let s = some_below-at decided n g in
            let p = now s.0 s.1 s.2 in
            let own = shares s.0 s.1 p.0 (sym (ap (λ (t : T). is_decided (K.state t)) p.1) ∙ s.2) in
            let hold : (j : ℕ) → j < n → Played j → K.estimate (truck_in K next j) ≡ K.estimate (truck_in K ts s.0) =
            λ j l q. ap K.estimate q.1 ∙ keeps j ∙ own j l q.0 in
            inr (record { crusher = K.estimate (old s.0); running = λ j l r. hold j l (next-played j l r); decided = λ j l d. hold j l (now j l d) })

  module _ (b : ℕ) where
    -- in a calm round for proposals a running truck has no mark, and hears every value that was sent, at least one
    pub calm-all : calm_round b true radio ≡ true → (i : ℕ) → i < n → radio.running i ≡ true
        → (radio.marked i ≡ false) × (values_in K radio ts i ≡ sent_values) × ((u : ℕ) × Memᴰ u sent_values)
    unfolding radio_in values_in
    calm-all calm i l r =
        let f = calm-few b radio i l r calm in
        let h = calm-hears b true radio i l r calm f in
        let j = sent_by_lem radio (few-some b radio f) in (
          h.0,
          ap (map (λ j. K.estimate (truck_in K ts j))) h.1,
          (K.estimate (old j.0), value_of (λ j. K.estimate (truck_in K ts j)) radio.sends n j.0 j.1 j.2),
        )

    -- and the least of them is the least value sent, whatever its estimate was
    pub calm-least : calm_round b true radio ≡ true → (i e : ℕ) → i < n → radio.running i ≡ true
        → (radio.marked i ≡ false) × (least_or e (values_in K radio ts i) ≡ least_or 0 sent_values)
    calm-least calm i e l r =
        let h = calm-all calm i l r in
        (h.0, ap (least_or e) h.1 ∙ least_any e 0 sent_values h.2.0 h.2.1)

    -- in a calm round in which no running truck would send, a running truck has no noise
    pub calm_silent : (proposes : Bool) → calm_round b proposes radio ≡ true
        → ((j : ℕ) → j < n → runs_in K (truck_in K ts j) ≡ true → c.sends k (active j) (truck_in K ts j) ≡ false)
        → (i : ℕ) → i < n → radio.running i ≡ true → has_noise radio i ≡ false
    unfolding radio_in
    calm_silent proposes calm none i l r =
        silence radio i l r (calm-accurate b proposes radio calm) (none-sends (λ j lj rj. sends-rules j rj ∙ none j lj (running-runs j rj)))
