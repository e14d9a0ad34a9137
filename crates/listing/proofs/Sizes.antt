-- How long a listing and the line of a refusal can be.
use mathlib.Core.Path.{◌≡◌, refl, ap, subst, ◌∙◌}
use mathlib.Core.Bool.{Bool, true, false, cond}
use mathlib.Core.List.{List, [], ◌∷◌, ◌++◌}
use Prim.Native.Nat.{ℕ, zero, suc, ◌+◌, ◌*◌, ◌-◌, ◌/◌, ◌%◌, ◌^◌, ◌≤◌, ◌<◌}
use native.Mathlib.Decide.{dec_lt}
use native.Mathlib.Nat.{pow-suc, div-lt_iff_lt-mul}
use native.Mathlib.Omega.{arith}
use borrow.Author.Tests.{ltb-false, leb-true}
use lib.Dec.{ltb}
use lib.ListN.{length, length-append, replicate}
use Rattle.std.specs.Prelude.{Option, Ok, Err, Some, None}
use Rattle.basics.specs.Lists.{all_below, sum_below}
use Rattle.basics.proofs.Laws.{sum_most}
use Rattle.refusals.specs.declared.Refusal.{Refusal}
use Rattle.refusals.specs.declared.Refusal.TheVariants.{OwnLoss}
use Rattle.refusals.specs.declared.Location.{Location}
use Rattle.refusals.specs.Numbers.{number_of}
use Rattle.refusals.specs.Locations.{location_at, location_of}
use Rattle.refusals.proofs.Numbers.{number_range}
use Rattle.refusals.proofs.Locations.{named_6}
use Rattle.recording.specs.Checks.{bad_trucks, check_of}
use Rattle.recording.proofs.Accepted.{bytes_good}
use Rattle.recording.proofs.Named.{check_in}
use Rattle.protocol.specs.declared.Heard.TheVariants.{Nothing}
use Rattle.protocol.specs.declared.State.{State}
use Rattle.protocol.specs.declared.State.TheVariants.{Running, Stopped, Decided}
use Rattle.protocol.specs.declared.Truck.{Truck}
use Rattle.protocol.specs.declared.Fleet.{Fleet}
use Rattle.protocol.specs.Rules.{truck}
use Rattle.protocol.specs.Fleets.{two_round, good_state, good_truck_in, good_fleet_in, good_fleet, fleet_in, ran}
use Rattle.protocol.proofs.Good.{Good, state_ended}
use Rattle.protocol.proofs.OneRound.{sound_two}
use Rattle.protocol.proofs.Rules.{counts-few}
use Rattle.protocol.proofs.Ran.{ran-fleet, ran-good}
use Rattle.listing.specs.Text.{text, decimal_in, decimal, state_text, sent_text, truck_line, truck_lines, totals_line, listing_of, location_text, refusal_text}
use Rattle.listing.specs.Program.{longest_listing, longest_refusal}

-- a number below 10 to the m + 1 has at most m + 1 digits
digits_in : (f m k : ℕ) → k < 10 ^ suc m → length (decimal_in f k) ≤ suc m
unfolding decimal_in
digits_in zero m k h = omega arith
digits_in (suc f) m k h = go m (ltb k 10) refl h (λ j. digits_in f j (k / 10))
  where
    go : (m : ℕ) (b : Bool) → ltb k 10 ≡ b → k < 10 ^ suc m → ((j : ℕ) → k / 10 < 10 ^ suc j → length (decimal_in f (k / 10)) ≤ suc j)
        → length (cond b ((48 + k) ∷ []) (decimal_in f (k / 10) ++ ((48 + k % 10) ∷ []))) ≤ suc m
    go m true e h ih = omega arith
    go zero false e h ih = absurd (omega (arith, ltb-false k 10 e))
    go (suc m) false e h ih =
        omega (
          arith,
          length-append (decimal_in f (k / 10)) ((48 + k % 10) ∷ []),
          ih m ((div-lt_iff_lt-mul (let z : 0 < 10 = omega arith in z)).1 (rw (← pow-suc 10 (suc m)) h)),
        )

pub digits : (m k : ℕ) → k < 10 ^ suc m → length (decimal k) ≤ suc m
unfolding decimal
digits m k h = digits_in 5 m k h

-- six texts one after the other
six_parts : (a b c d e f : List ℕ) → length (a ++ b ++ c ++ d ++ e ++ f) ≡ length a + length b + length c + length d + length e + length f
six_parts a b c d e f =
    omega (
      arith,
      length-append a b,
      length-append (a ++ b) c,
      length-append (a ++ b ++ c) d,
      length-append (a ++ b ++ c ++ d) e,
      length-append (a ++ b ++ c ++ d ++ e) f,
    )

-- two digits for a crusher, three for a round
crusher_size : (v : ℕ) → v ≤ 15 → length (decimal v) ≤ 2
crusher_size v h = digits 1 v (let o : v < 10 ^ 2 = omega arith in o)

round_size : (k : ℕ) → k ≤ 400 → length (decimal k) ≤ 3
round_size k h = digits 2 k (let o : k < 10 ^ 3 = omega arith in o)

ended_size : (word : List ℕ) (v k : ℕ) → length word ≡ 8 → v ≤ 15 → k ≤ 400 → length (word ++ decimal v ++ text " round " ++ decimal k) ≤ 20
ended_size word v k w h l =
    let e : length (text " round ") ≡ 7 = refl in
    omega (
      arith,
      length-append word (decimal v),
      length-append (word ++ decimal v) (text " round "),
      length-append (word ++ decimal v ++ text " round ") (decimal k),
      crusher_size v h,
      round_size k l,
    )

-- the state of a truck that refusal 7 lets pass
state_size : (R : ℕ) → R ≤ 400 → (s : State) (v : ℕ) → v ≤ 15 → good_state R s ≡ true → length (state_text s v) ≤ 20
unfolding state_text
state_size R l Running v h g =
    let e : length (text "running ") ≡ 8 = refl in
    omega (arith, length-append (text "running ") (decimal v), crusher_size v h)
state_size R l (Stopped k) v h g =
    let b : k ≤ R = state_ended two_round R (Stopped k) refl g in
    ended_size (text "stopped ") v k refl h (omega arith)
state_size R l (Decided k) v h g =
    let b : k ≤ R = state_ended two_round R (Decided k) refl g in
    ended_size (text "decided ") v k refl h (omega arith)

-- what two numbers of m + 1 digits take
sent_size : (m p v : ℕ) → p < 10 ^ suc m → v < 10 ^ suc m → length (sent_text p v) ≤ 15 + 2 * m
unfolding sent_text
sent_size m p v hp hv =
    let la : length (text "sent ") ≡ 5 = refl in
    let lc : length (text " vetoes ") ≡ 8 = refl in
    omega (
      arith,
      length-append (text "sent ") (decimal p),
      length-append (text "sent " ++ decimal p) (text " vetoes "),
      length-append (text "sent " ++ decimal p ++ text " vetoes ") (decimal v),
      digits m p hp,
      digits m v hv,
    )

-- the line of such a truck: 52 bytes besides its number
line_size : (R : ℕ) → R ≤ 400 → (i : ℕ) (t : Truck) → Good two_round R t → length (truck_line i t) ≤ length (decimal i) + 52
unfolding truck_line
line_size R l i t g =
    let lb : length (text " opened ") ≡ 8 = refl in
    let ld : length (text " ") ≡ 1 = refl in
    let lf : length (text "\n") ≡ 1 = refl in
    let a = decimal i ++ text " opened " ++ decimal t.opening ++ text " " ++ state_text t.state t.estimate ++ text " " in
    let b = sent_text t.sent.proposals t.sent.vetoes in
    let c = counts-few R t.sent l g.counts in
    omega (
      arith,
      six_parts (decimal i) (text " opened ") (decimal t.opening) (text " ") (state_text t.state t.estimate) (text " "),
      length-append a b,
      length-append (a ++ b) (text "\n"),
      crusher_size t.opening (leb-true t.opening 15 g.opening),
      state_size R l t.state t.estimate (leb-true t.estimate 15 g.estimate) g.state,
      sent_size 2 t.sent.proposals t.sent.vetoes (omega arith) (omega arith),
    )

-- a truck's number has one digit below 10, and two below 100
number_size : (i : ℕ) → i < 100 → length (decimal i) ≤ 1 + (suc i - 10) - (i - 10)
number_size i h = go (dec_lt i 10)
  where
    go : Dec (i < 10) → length (decimal i) ≤ 1 + (suc i - 10) - (i - 10)
    go (yes l) = omega (arith, digits 0 i (let o : i < 10 ^ 1 = omega arith in o))
    go (no l) = omega (arith, digits 1 i (let o : i < 10 ^ 2 = omega arith in o))

lines_size : (R : ℕ) → R ≤ 400 → (ts : List Truck) (n : ℕ) → n ≤ 32 → ((i : ℕ) → i < n → Good two_round R (truck ts i))
    → length (truck_lines ts n) ≤ 53 * n + (n - 10)
unfolding truck_lines
lines_size R l ts zero h g = omega arith
lines_size R l ts (suc i) h g =
    omega (
      arith,
      length-append (truck_lines ts i) (truck_line i (truck ts i)),
      lines_size R l ts i (omega arith) (λ j lj. g j (omega arith)),
      line_size R l i (truck ts i) (g i (omega arith)),
      number_size i (omega arith),
    )

-- the last line of at most 32 such trucks
totals_size : (R : ℕ) → R ≤ 400 → (ts : List Truck) (n : ℕ) → n ≤ 32 → ((i : ℕ) → i < n → Good two_round R (truck ts i)) → length (totals_line ts n) ≤ 22
unfolding totals_line
totals_size R l ts n h g =
    let p = sum_below (λ i. (truck ts i).sent.proposals) n in
    let v = sum_below (λ i. (truck ts i).sent.vetoes) n in
    let lf : length (text "\n") ≡ 1 = refl in
    let mp : p ≤ 200 * n = sum_most (λ i. (truck ts i).sent.proposals) 200 n (λ i li. (counts-few R (truck ts i).sent l (g i li).counts).0) in
    let mv : v ≤ 200 * n = sum_most (λ i. (truck ts i).sent.vetoes) 200 n (λ i li. (counts-few R (truck ts i).sent l (g i li).counts).1) in
    omega (arith, length-append (sent_text p v) (text "\n"), sent_size 3 p v (omega arith) (omega arith))

fleet_size : (f : Fleet) → f.n ≤ 32 → f.done ≤ 400 → ((i : ℕ) → i < f.n → Good two_round f.done (truck f.trucks i))
    → length (listing_of f) ≤ longest_listing
unfolding listing_of
fleet_size f h l g =
    let la : length (text "trucks ") ≡ 7 = refl in
    let lc : length (text " rounds ") ≡ 8 = refl in
    let le : length (text "\n") ≡ 1 = refl in
    let a = text "trucks " ++ decimal f.n ++ text " rounds " ++ decimal f.done ++ text "\n" ++ truck_lines f.trucks f.n in
    omega (
      arith,
      six_parts (text "trucks ") (decimal f.n) (text " rounds ") (decimal f.done) (text "\n") (truck_lines f.trucks f.n),
      length-append a (totals_line f.trucks f.n),
      digits 1 f.n (let o : f.n < 10 ^ 2 = omega arith in o),
      round_size f.done l,
      lines_size f.done l f.trucks f.n h g,
      totals_size f.done l f.trucks f.n h g,
    )

-- the listing of an accepted run
pub listing_size : (s : List ℕ) → check_of s ≡ Ok tt → length (listing_of (ran s).fleet) ≤ longest_listing
unfolding fleet_in
listing_size s h =
    let b = (bytes_good s h).frame in
    fleet_size (ran s).fleet (rw (ran-fleet two_round s h) b.most) (rw (ran-fleet two_round s h) b.rounds)
    (λ i l. rw (ap (λ (f : Fleet). f.done) (ran-fleet two_round s h)) (ran-good two_round s sound_two h i (subst (λ (f : Fleet). i < f.n) (ran-fleet two_round s h) l)))

-- a round within the limits and a truck below 32
location_size : (round truck : ℕ) → round ≤ 400 → truck < 32 → length (location_text (location_at round truck)) ≤ 19
unfolding location_text
location_size round truck h l =
    let a = text " round " ++ decimal round in
    let lb : length (text " round ") ≡ 7 = refl in
    let lc : length (text " truck ") ≡ 7 = refl in
    omega (
      arith,
      length-append (text " round ") (decimal round),
      length-append a (text " truck "),
      length-append (a ++ text " truck ") (decimal truck),
      round_size round h,
      digits 1 truck (let o : truck < 10 ^ 2 = omega arith in o),
    )

-- a line by its parts
line_parts : (r : Refusal) → length (refusal_text r) ≡ 9 + length (decimal (number_of r)) + length (location_text (location_of r))
unfolding refusal_text
line_parts r =
    let a = text "refused " ++ decimal (number_of r) in
    let b = location_text (location_of r) in
    let la : length (text "refused ") ≡ 8 = refl in
    let lc : length (text "\n") ≡ 1 = refl in
    omega (arith, length-append (text "refused ") (decimal (number_of r)), length-append a b, length-append (a ++ b) (text "\n"))

-- the line of a refusal that names a round and a truck within the limits, or none
pub refusal_size : (r : Refusal) → ((round truck : ℕ) → r ≡ OwnLoss round truck → (round ≤ 400) × (truck < 32)) → length (refusal_text r) ≤ longest_refusal
unfolding location_text
refusal_size r within = go (location_of r) refl
  where
    go : (p : Option Location) → location_of r ≡ p → length (refusal_text r) ≤ longest_refusal
    go None e =
        omega (
          arith,
          line_parts r,
          ap (λ (p : Option Location). length (location_text p)) e,
          digits 1 (number_of r) (let o : number_of r < 10 ^ 2 = omega (arith, number_range r) in o),
        )
    go (Some p) e =
        let six : r ≡ OwnLoss p.round p.truck = named_6 r p.round p.truck e in
        let l = within p.round p.truck six in
        omega (
          arith,
          line_parts r,
          ap (λ (p : Option Location). length (location_text p)) e,
          location_size p.round p.truck l.0 l.1,
          digits 0 (number_of r) (let o : number_of r < 10 ^ 1 = omega (arith, ap number_of six) in o),
        )

-- and so of a refused recording
pub refused_size : (s : List ℕ) (r : Refusal) → check_of s ≡ Err r → length (refusal_text r) ≤ longest_refusal
refused_size s r h = refusal_size r (λ round truck e. check_in s round truck (h ∙ ap Err e))

-- no size is larger than it has to be: a record that refusal 7 lets pass has the longest listing, and the last truck of the last round the longest line
pub fullest : Fleet
fullest = record { n = 32; done = 400; trucks = replicate 32 (record { opening = 15; estimate = 15; mark = false; heard = Nothing; unwilling = false; state = Decided 400; sent = record { proposals = 200; vetoes = 200 } }) }

pub listing_longest : (good_fleet fullest ≡ true) × (length (listing_of fullest) ≡ longest_listing)
unfolding fullest good_truck_in good_fleet_in bad_trucks all_below sum_below decimal_in decimal state_text sent_text truck_line truck_lines totals_line listing_of
listing_longest = (refl, refl)

pub refusal_longest : length (refusal_text (OwnLoss 400 31)) ≡ longest_refusal
unfolding decimal_in decimal location_text refusal_text
refusal_longest = refl
