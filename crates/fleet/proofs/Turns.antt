-- What a step makes of each truck, worked out by sets of trucks, is what the rules of the cycle say.
use mathlib.Core.Path.{◌≡◌, refl, ap, ap₂, sym, ◌∙◌}
use mathlib.Core.Bool.{Bool, true, false, cond, not, ◌&&◌, ◌||◌, and-true}
use mathlib.Core.List.{List, map}
use Prim.Native.Nat.{ℕ, ◌+◌, ◌<◌, ◌≤◌, ◌%◌, min}
use native.Mathlib.Omega.{arith}
use borrow.Author.Tests.{lt-ltb}
use lib.Dec.{eqb, ltb}
use lib.ListN.{get_or}
use Rattle.basics.specs.Bits.{bit, odd}
use Rattle.basics.specs.Lists.{filled}
use Rattle.basics.proofs.Laws.{and_both, get_or-filled, filled_ext}
use Rattle.radio.specs.Round.{stop_bit, active_bit, mark_bit}
use Rattle.radio.specs.Radio.{Radio, hears, heard_by, heard}
use Rattle.radio.proofs.Laws.{hears-sends}
use Rattle.protocol.specs.declared.Cycle.{Cycle}
use Rattle.protocol.specs.declared.Cycle.TheVariants.{TwoRound, SixRound}
use Rattle.protocol.specs.declared.State.{State}
use Rattle.protocol.specs.declared.State.TheVariants.{Running, Stopped, Decided}
use Rattle.protocol.specs.declared.Truck.{Truck}
use Rattle.protocol.specs.declared.Fleet.{Fleet}
use Rattle.protocol.specs.Cycles.{Rules, is_running, turn, values_in, radio_in, plays_in, after_in}
use Rattle.protocol.specs.Rules.{recorded, two_rules, truck, runs, different, least_or, proposed, vetoed}
use Rattle.protocol.specs.Six.{six_rules, after_prepare, after_bit, after_accept}
use Rattle.protocol.specs.Fleets.{chosen, next_fleet_in}
use Rattle.protocol.proofs.OneRound.{plays_proposal, plays-veto}
use Rattle.protocol.proofs.SixRound.{bit-sends, plays-prepare, plays-bit, plays-accept}
use Rattle.truck.specs.declared.Event.{Event}
use Rattle.truck.specs.declared.Event.TheVariants.{Stop}
use Rattle.truck.specs.Events.{adds, happened, turned, updated_first}
use Rattle.sets.specs.Sets.{Members}
use Rattle.sets.proofs.Members.{member_below, member_has}
use Rattle.playback.specs.declared.hearing.Values.{Values}
use Rattle.fleet.specs.declared.round.Phase.{Phase}
use Rattle.fleet.specs.declared.round.Phase.TheVariants.{Proposals, Vetoes}
use Rattle.playback.specs.Sets.{heard_set, values_of, Sorted}
use Rattle.fleet.specs.Rounds.{phase_of, sends_in, stop_event, play_event, event_of, event_by, no_events, turned_fleet}
use Rattle.playback.specs.Sets.{estimates}
use Rattle.fleet.proofs.Laws.{next-kind, six_phases, message_right}
use Rattle.playback.proofs.ByCrusher.{values-right}
use Rattle.playback.proofs.Radios.{who-members, some-members, hearers}
use Rattle.fleet.proofs.Steps.{Room}

-- an event that is a stop where b says so, and else what the truck plays
event-turn : (k : ℕ) (s : State) (b : Bool) (t stopped played : Truck) (e : Event) → (is_running s ≡ true → happened k e t ≡ cond b stopped played)
    → turn s false t (happened k e t) t ≡ turn s b stopped played t
event-turn k Running true t stopped played e h = h refl
event-turn k Running false t stopped played e h = h refl
event-turn k (Stopped r) b t stopped played e h = refl
event-turn k (Decided r) b t stopped played e h = refl

-- a stop, in either cycle
stop_right : (c : Cycle) (d k : ℕ) (t : Truck) → happened k (stop_event (phase_of c d)) t ≡ (chosen c).rules.stops k t
stop_right TwoRound d k t = go (eqb (d % 2) 0)
  where
    go : (b : Bool) → happened k (stop_event (cond b Proposals Vetoes)) t ≡ two_rules.stops k t
    go true = refl
    go false = refl
stop_right SixRound d k t =
    six_phases (λ (p : Phase). happened k (stop_event p) t ≡ six_rules.stops k t) d (λ e. refl) (λ e f. refl) (λ e. refl)

-- the round after d, with the words w, of n trucks; values has those of a set of senders that sent each crusher, and truck i is one of the n
module _ (d n : ℕ) (w : List ℕ) (ts : List Truck) (senders : ℕ) (values : List ℕ) (sorted : Sorted values n senders (estimates ts))
    (small : (j : ℕ) → j < n → estimates ts j < 16) (i : ℕ) (l : i < n) where
  abbrev k : ℕ
  k = d + 1

  abbrev t : Truck
  t = truck ts i

  abbrev heard_senders : ℕ
  heard_senders = heard_set senders (get_or w (3 + i) 0) i

  -- the set is the round's senders, by the rules of any cycle
  module _ (rules : Rules recorded) (sends : Members senders n (radio_in rules n (active_bit w) (d + 1) w ts).sends) where
    abbrev radio_by : Radio
    radio_by = radio_in rules n (active_bit w) k w ts

    heard_is : Members heard_senders n (hears radio_by i)
    unfolding radio_in
    heard_is = hearers radio_by i senders (get_or w (3 + i) 0) sends (λ j lj s. refl)

    values_are : values_of values heard_senders (estimates ts i)
        ≡ record { heard = different (values_in recorded radio_by ts i); least = least_or (estimates ts i) (values_in recorded radio_by ts i) }
    unfolding values_in heard_by radio_in
    values_are =
        values-right values n senders heard_senders (estimates ts i) (estimates ts) sorted heard_is.below
        (λ j h. sends.each j (member_below heard_is j h) ∙ hears-sends radio_by i j (member_has heard_is j h)) (λ j lj s. small j lj)
        ∙ ap (λ (js : List ℕ). record { heard = different (map (estimates ts) js); least = least_or (estimates ts i) (map (estimates ts) js) }) (sym (who-members heard_is))

    any_heard : ltb 0 (heard radio_by i) ≡ not (eqb heard_senders 0)
    unfolding heard heard_by radio_in
    any_heard = some-members heard_is

    -- a count has room, so the event adds to it where the truck sends
    adds_is : (c : ℕ) → c < 255 → adds (bit senders i) c ≡ radio_by.sends i
    unfolding radio_in
    adds_is c lc = ap₂ ◌&&◌ (sends.each i l) (lt-ltb c 255 lc) ∙ and-true (radio_by.sends i)

  -- what a round is to truck i, if it plays
  abbrev played : Phase → Event
  played p = play_event p (bit senders i) (mark_bit w i) heard_senders values (estimates ts i)

  -- the event that was worked out for a truck that plays is what the rules make of it
  play_right : (c : Cycle) → Members senders n (radio_in (chosen c).rules n (active_bit w) (d + 1) w ts).sends → Room c t.sent → runs t ≡ true → stop_bit w i ≡ false
      → happened k (played (phase_of c d)) t ≡ plays_in (chosen c).rules (radio_in (chosen c).rules n (active_bit w) k w ts) k w ts i
  unfolding radio_in
  play_right TwoRound sends room run on = go (eqb (d % 2) 0) (next-kind d)
    where
      go : (b : Bool) → odd k ≡ b → happened k (played (cond b Proposals Vetoes)) t ≡ plays_in two_rules (radio_in two_rules n (active_bit w) k w ts) k w ts i
      go true o =
          ap₂ (λ (s : Bool) (v : Values). proposed s (mark_bit w i) v.heard v.least t) (adds_is two_rules sends t.sent.proposals room.0) (values_are two_rules sends)
          ∙ sym (plays_proposal n (active_bit w) k w ts i o)
      go false o =
          ap₂ (λ (s b : Bool). vetoed k s (mark_bit w i) b t) (adds_is two_rules sends t.sent.vetoes room.1) (sym (any_heard two_rules sends))
          ∙ sym (plays-veto n (active_bit w) k w ts i o)
  play_right SixRound sends room run on =
      six_phases (λ (p : Phase). happened k (played p) t ≡ plays_in six_rules (radio_in six_rules n (active_bit w) k w ts) k w ts i) d
      (λ e. ap (λ (v : Values). after_prepare (mark_bit w i) v.least t) (values_are six_rules sends) ∙ sym (plays-prepare n (active_bit w) k w ts i e))
      (λ e f. ap₂ (λ (s x : Bool). after_bit s (mark_bit w i || x) t)
      (sends.each i l ∙ bit-sends n (active_bit w) k w ts i e f (and_both (runs t) (not (stop_bit w i)) run (ap not on))) (sym (any_heard six_rules sends))
      ∙ sym (plays-bit n (active_bit w) k w ts i e f))
      (λ e. ap (λ (x : Bool). after_accept k (mark_bit w i || x) t) (sym (any_heard six_rules sends)) ∙ sym (plays-accept n (active_bit w) k w ts i e))

module _ (c : Cycle) (f : Fleet) (w : List ℕ) where
  abbrev trucks : List Truck
  trucks = f.trucks

  abbrev radio : Radio
  radio = radio_in (chosen c).rules f.n (active_bit w) (f.done + 1) w trucks

  -- what the round makes of truck i
  abbrev rule : ℕ → Truck
  rule i =
      turn (truck trucks i).state (stop_bit w i) ((chosen c).rules.stops (f.done + 1) (truck trucks i))
      (plays_in (chosen c).rules radio (f.done + 1) w trucks i) (truck trucks i)

  next_is : next_fleet_in (chosen c) f w ≡ record { n = f.n; done = f.done + 1; trucks = filled rule f.n trucks }
  unfolding next_fleet_in after_in
  next_is = refl

  -- who sends, truck by truck
  sends_is : (i : ℕ) → sends_in (phase_of c f.done) w trucks i ≡ radio.sends i
  unfolding radio_in
  sends_is i = ap (λ (b : Bool). (runs (truck trucks i) && not (stop_bit w i)) && b) (message_right c f.done (active_bit w i) (truck trucks i))

  module _ (phase : Phase) (next : phase ≡ phase_of c f.done) (senders : ℕ) (values : List ℕ) (sent : Members senders f.n (sends_in phase w f.trucks))
      (sorted : Sorted values f.n senders (estimates f.trucks)) (small : (j : ℕ) → j < f.n → estimates f.trucks j < 16)
      (room : (j : ℕ) → j < f.n → Room c (truck f.trucks j).sent) where
    sends : Members senders f.n radio.sends
    sends = record { below = sent.below; each = λ i l. sent.each i l ∙ ap (λ (p : Phase). sends_in p w trucks i) next ∙ sends_is i }

    -- what the round is to truck i
    abbrev event : ℕ → Event
    event i = event_by phase w senders values (estimates trucks i) i

    -- the event that was worked out is what the rules make of the truck
    event-right : (i : ℕ) → i < f.n → turned (f.done + 1) (event i) (truck trucks i) ≡ rule i
    unfolding event_of
    event-right i l =
        event-turn (f.done + 1) (truck trucks i).state (stop_bit w i) (truck trucks i) ((chosen c).rules.stops (f.done + 1) (truck trucks i))
        (plays_in (chosen c).rules radio (f.done + 1) w trucks i) (event i) (λ run. go run (stop_bit w i) refl)
      where
        heard_now : ℕ
        heard_now = heard_set senders (get_or w (3 + i) 0) i

        go : runs (truck trucks i) ≡ true → (b : Bool) → stop_bit w i ≡ b
            → happened (f.done + 1) (event_of phase b (bit senders i) (mark_bit w i) heard_now values (estimates trucks i)) (truck trucks i)
            ≡ cond b ((chosen c).rules.stops (f.done + 1) (truck trucks i)) (plays_in (chosen c).rules radio (f.done + 1) w trucks i)
        go run true e = ap (λ (p : Phase). happened (f.done + 1) (stop_event p) (truck trucks i)) next ∙ stop_right c f.done (f.done + 1) (truck trucks i)
        go run false e =
            ap (λ (p : Phase). happened (f.done + 1) (play_event p (bit senders i) (mark_bit w i) heard_now values (estimates trucks i)) (truck trucks i)) next
            ∙ play_right f.done f.n w trucks senders values sorted small i l c sends (room i l) run e

    -- so the trucks brought up to date by their events are the next record's
    pub turned-next : turned_fleet phase w senders values (f.done + 1) f ≡ next_fleet_in (chosen c) f w
    turned-next =
        ap (λ (ts : List Truck). record { n = f.n; done = f.done + 1; trucks = ts })
        (filled_ext (λ i. turned (f.done + 1) (event i) (truck trucks i)) rule f.n trucks event-right)
        ∙ sym next_is

    -- the same where the events stand in a list
    pub step_next : f.n ≤ 32 → (events : List Event) → events ≡ filled event f.n no_events
        → (g : Fleet) → g ≡ updated_first f (min f.n 32) (f.done + 1) events
        → record { n = g.n; done = f.done + 1; trucks = g.trucks } ≡ next_fleet_in (chosen c) f w
    step_next few events e g eg =
        ap (λ (x : Fleet). record { n = x.n; done = f.done + 1; trucks = x.trucks })
        (eg ∙ ap (λ (m : ℕ). updated_first f m (f.done + 1) events) (let z : min f.n 32 ≡ f.n = omega arith in z)
        ∙ ap (λ (l : List Truck). record { n = f.n; done = f.done; trucks = l })
        (filled_ext (λ i. turned (f.done + 1) (get_or events i Stop) (truck trucks i)) (λ i. turned (f.done + 1) (event i) (truck trucks i)) f.n trucks
        (λ i l. ap (λ (x : Event). turned (f.done + 1) x (truck trucks i))
        (ap (λ (es : List Event). get_or es i Stop) e ∙ get_or-filled event f.n no_events i Stop l))))
        ∙ turned-next
