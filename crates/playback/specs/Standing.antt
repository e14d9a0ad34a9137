-- A run by sets in packed order: truck j stands at the bit worth 2 to the 31 - j.
use Rattle.std.specs.Prelude.{ℕ, suc, ◌+◌, ◌*◌, ◌-◌, ◌<◌, ◌≤◌, ◌^◌, ◌≡◌, Bool, true, false, cond, not, ◌&&◌, List, [], eqb, ltb, length, get_or, replicate, Ok}
use Rattle.std.specs.Int.Bits.{bit_and, bit_or, bit_xor}
use Rattle.basics.specs.Bits.{bit}
use Rattle.basics.specs.Lists.{first, filled, some_below}
use Rattle.radio.specs.Round.{active_bit}
use Rattle.bitreader.specs.Bits.{bit_at, num_at}
use Rattle.recording.specs.Packed.{trucks_of, counts_of, opening_at, openings_into, openings_of, round_place, round_at}
use Rattle.recording.specs.declared.Counts.{Counts}
use Rattle.recording.specs.Checks.{frame_check}
use Rattle.protocol.specs.declared.Heard.{Heard}
use Rattle.protocol.specs.declared.Heard.TheVariants.{Nothing, One, Several}
use Rattle.protocol.specs.declared.State.{State}
use Rattle.protocol.specs.declared.State.TheVariants.{Running, Stopped, Decided}
use Rattle.protocol.specs.declared.Sent.{Sent}
use Rattle.protocol.specs.declared.Truck.{Truck}
use Rattle.protocol.specs.declared.Fleet.{Fleet}
use Rattle.protocol.specs.Cycles.{Rules, after_in}
use Rattle.protocol.specs.Rules.{recorded, truck, is_one, is_several}
use Rattle.protocol.specs.Runs.{opened_trucks, trucks_in}
use Rattle.playback.specs.declared.replay.Proposed.{Proposed}
use Rattle.playback.specs.declared.replay.Vetoed.{Vetoed}
use Rattle.playback.specs.declared.replay.Sets.{Sets}
use Rattle.playback.specs.declared.replay.Tally.{Tally}
use Rattle.playback.specs.declared.six.Played.{Played}
use Rattle.sets.specs.Sets.{Members, without}
use Rattle.counters.specs.Counters.{tally, in_use}
use Rattle.playback.specs.Sets.{Sorted, was_heard}
use Rattle.playback.specs.Listens.{row_from, heard_from, some_value, settled}

-- truck j is in the set
abbrev pub holds : ℕ → ℕ → Bool
holds set j = bit set (31 - j)

-- 32 bits from a place on
abbrev pub word_from : List ℕ → ℕ → ℕ
word_from s at = num_at (bit_at s) at 32

-- the trucks of a recording after k of these rounds by the rules of a cycle
abbrev pub trucks_after : Rules recorded → (ℕ → List ℕ) → List ℕ → ℕ → List Truck
trucks_after c rounds s k = trucks_in c (trucks_of s) (openings_of s) rounds k

-- these rounds have the words of the recording but for the active bits
abbrev pub AsRecorded : (ℕ → List ℕ) → List ℕ → Type 0
AsRecorded rounds s = (k i : ℕ) → (i ≡ 1 → ⊥) → get_or (rounds k) i 0 ≡ get_or (round_at s k) i 0

abbrev pub state_of : Bool → Bool → ℕ → State
state_of running decided end = cond running Running (cond decided (Decided end) (Stopped end))

abbrev pub memory_of : Bool → Bool → Heard
memory_of one several = cond one One (cond several Several Nothing)

-- a truck by the sets that it is in; h is what it heard, if it runs, and c what it sent
abbrev pub standing : ℕ → ℕ → Heard → Bool → Bool → Bool → Bool → ℕ → Sent → Truck
standing o e h running decided marked unwilling end c =
    record {
      opening = o;
      estimate = e;
      mark = running && marked;
      heard = cond running h Nothing;
      unwilling = running && unwilling;
      state = state_of running decided end;
      sent = c;
    }

-- how many proposals and vetoes the truck at place p sent, by the first m words of the counts: proposals are counted at its place, vetoes 32 places further
abbrev pub sent_by : List ℕ → ℕ → ℕ → Sent
sent_by words m p = record { proposals = tally words m p; vetoes = tally words m (32 + p) }

-- the truck at place p by these sets, its estimate, its opening, the round of its end and what it sent
abbrev pub truck_of : Sets → ℕ → ℕ → ℕ → Sent → ℕ → Truck
truck_of b e opening end c p =
    standing opening e (memory_of (bit b.one p) (bit b.several p))
    (bit b.running p) (bit b.decided p) (bit b.marked p) (bit b.unwilling p) end c

-- the same by the trucks of each crusher
abbrev pub truck_by : Sets → List ℕ → ℕ → ℕ → Sent → ℕ → Truck
truck_by b by opening end c p = truck_of b (first (was_heard by (2 ^ p)) 16) opening end c p

-- truck i
abbrev pub built_by : List ℕ → Sets → List ℕ → List ℕ → List ℕ → ℕ → Truck
built_by openings b by ends sent i = truck_by b by (get_or openings i 0) (get_or ends i 0) (sent_by sent (in_use sent 8) (31 - i)) (31 - i)

-- the record of the trucks by these sets, with all rounds done
abbrev pub fleet_by : Counts → List ℕ → Sets → List ℕ → List ℕ → List ℕ → Fleet
fleet_by c openings b by ends sent = record {
  n = c.trucks;
  done = c.rounds;
  trucks = filled (built_by openings b by ends sent) c.trucks (opened_trucks []);
}

-- the sets say how n trucks with these openings stand after k rounds of either cycle: in the two-round cycle nobody is unwilling, in the six-round cycle nobody
-- has a mark, a value or a count to remember. What a truck with a mark heard is known after the last round only: it sends a veto whatever it heard
pub record Stands (n last k : ℕ) (opening : ℕ → ℕ) (ts : List Truck) (by ends sent : List ℕ) (running decided marked one several unwilling : ℕ) : Type 0 where
  pub crushers : length by ≡ 16
  pub places : length ends ≡ 32
  pub digits : length sent ≡ 8
  pub fits : running < 2 ^ 32
  pub none : (j : ℕ) → n ≤ j → j < 32 → holds running j ≡ false
  pub apart : (j : ℕ) → j < n → holds running j ≡ true → holds decided j ≡ false
  pub each : (j : ℕ) → j < n
      → truck ts j
      ≡ standing (opening j) (truck ts j).estimate (truck ts j).heard (holds running j) (holds decided j) (holds marked j) (holds unwilling j) (get_or ends j 0) (truck ts j).sent
  pub counts : (j : ℕ) → j < n → (truck ts j).sent ≡ sent_by sent 8 (31 - j)
  pub heard : (j : ℕ) → j < n → holds running j ≡ true → (holds marked j ≡ true → k ≡ last)
      → (is_one (truck ts j).heard ≡ holds one j) × (is_several (truck ts j).heard ≡ holds several j)
  pub sorted : (c : ℕ) → c < 16 → (j : ℕ) → j < 32 → holds (get_or by c 0) j ≡ (ltb j n && eqb (truck ts j).estimate c)

-- the words of a round of n trucks stand packed at a place, but for the active bits
abbrev pub ReadsAs : List ℕ → ℕ → ℕ → List ℕ → Type 0
ReadsAs s at n w = (i j : ℕ) → (i ≡ 1 → ⊥) → i < 3 + n → j < n → holds (word_from s (at + i * n)) j ≡ bit (get_or w i 0) j

-- the set says who of the running trucks is active in the round with the words w
abbrev pub Active : ℕ → ℕ → List ℕ → ℕ → Type 0
Active n running w active = (j : ℕ) → j < n → holds running j ≡ true → holds active j ≡ active_bit w j

-- the trucks after round k + 1, which has the words w
abbrev pub next_trucks : Rules recorded → ℕ → ℕ → List ℕ → List Truck → List Truck
next_trucks c n k w ts = after_in c n (active_bit w) (suc k) w ts

-- those that run after the stops of the round at a place
abbrev pub going_on : List ℕ → ℕ → ℕ → ℕ
going_on s at running = without running (word_from s at)

-- the senders of a proposal round in which these are active
abbrev pub senders_of : List ℕ → ℕ → ℕ → ℕ → ℕ
senders_of s at running active = bit_and (going_on s at running) active

-- the same by the active bits of the round
abbrev pub proposers_of : List ℕ → ℕ → ℕ → ℕ → ℕ
proposers_of s at n running = senders_of s at running (word_from s (at + n))

-- those whose rows are read: nobody's, where nobody sends, and without those of `unread`
abbrev pub unread_of : ℕ → ℕ → ℕ
unread_of left mark = cond (eqb left 1) 0 mark

abbrev pub wanted_of : List ℕ → ℕ → ℕ → ℕ → ℕ → ℕ → ℕ
wanted_of s at n left running active =
    cond (eqb (senders_of s at running active) 0) 0 (without (going_on s at running) (unread_of left (word_from s (at + 2 * n))))

-- what a proposal round makes of the sets
pub record Proposes (s : List ℕ) (at n left running active : ℕ) (by by' : List ℕ) (r : Proposed) : Type 0 where
  pub going : r.going ≡ going_on s at running
  pub senders : r.senders ≡ senders_of s at running active
  pub mark : r.mark ≡ word_from s (at + 2 * n)
  pub one : Members r.one 32
      (λ p. bit (wanted_of s at n left running active) p && is_one (heard_from s (at + 3 * n) n (senders_of s at running active) by p).heard)
  pub several : Members r.several 32
      (λ p. bit (wanted_of s at n left running active) p && is_several (heard_from s (at + 3 * n) n (senders_of s at running active) by p).heard)
  pub taking : List ℕ
  pub sorted : Sorted taking 32 (wanted_of s at n left running active) (λ p. (heard_from s (at + 3 * n) n (senders_of s at running active) by p).least)
  pub took : by' ≡ filled (settled by taking (without (bit_or r.one r.several) r.mark)) 16 by

-- those that decide in a veto round where they hear no veto, and the senders
abbrev pub may_of : List ℕ → ℕ → ℕ → ℕ → ℕ → ℕ → ℕ
may_of s at n running marked one = without (bit_and (going_on s at running) one) (bit_or (word_from s (at + 2 * n)) marked)

abbrev pub vetoers_of : List ℕ → ℕ → ℕ → ℕ → ℕ → ℕ
vetoers_of s at running marked several = bit_and (going_on s at running) (bit_or marked several)

-- what a veto round makes of the sets
pub record Vetoes (s : List ℕ) (at n running marked one several : ℕ) (r : Vetoed) : Type 0 where
  pub going : r.going ≡ going_on s at running
  pub senders : r.senders ≡ vetoers_of s at running marked several
  pub mark : r.mark ≡ word_from s (at + 2 * n)
  pub done : Members r.done 32
      (λ p. bit (may_of s at n running marked one) p && eqb (without (vetoers_of s at running marked several) (row_from s (at + 3 * n) n p)) 0)
  pub on : r.on ≡ bit_xor (going_on s at running) r.done

-- those whose rows are read in prepare: nobody's, where nobody sends, and no truck's that has a mark, which keeps its estimate
abbrev pub unmarked_of : List ℕ → ℕ → ℕ → ℕ → ℕ
unmarked_of s at n running =
    cond (eqb (proposers_of s at n running) 0) 0 (without (going_on s at running) (word_from s (at + 2 * n)))

-- what prepare makes of the sets
pub record Prepares (s : List ℕ) (at n running : ℕ) (by by' : List ℕ) (r : Played) : Type 0 where
  pub changed : ℕ
  pub heard : Members changed 32
      (λ p. bit (unmarked_of s at n running) p && some_value (heard_from s (at + 3 * n) n (proposers_of s at n running) by p).heard)
  pub taking : List ℕ
  pub sorted : Sorted taking 32 (unmarked_of s at n running) (λ p. (heard_from s (at + 3 * n) n (proposers_of s at n running) by p).least)
  pub took : by' ≡ filled (settled by taking changed) 16 by
  pub played : r
      ≡ record {
        going = going_on s at running;
        senders = proposers_of s at n running;
        mark = word_from s (at + 2 * n);
        on = going_on s at running;
        done = 0;
        unwilling = 0;
      }

-- the truck at place p is one of a crusher whose number has the bit worth 2 to the b
abbrev pub with_bit : List ℕ → ℕ → ℕ → Bool
with_bit by b p = some_below (λ c. bit c b && bit (get_or by c 0) p) 16

-- those that listen in a bit round, where those of `shown` have its bit; and those of them whose rows are read: nobody's, where nobody sends
abbrev pub quiet_of : List ℕ → ℕ → ℕ → ℕ → ℕ
quiet_of s at running shown = without (going_on s at running) (bit_and (going_on s at running) shown)

abbrev pub asked_in : List ℕ → ℕ → ℕ → ℕ → ℕ → ℕ → ℕ
asked_in s at n running unwilling shown =
    cond (eqb (bit_and (going_on s at running) shown) 0) 0 (without (quiet_of s at running shown) (bit_or (word_from s (at + 2 * n)) unwilling))

-- what the round for the bit worth 2 to the b makes of the sets: unwilling are those that were so, those that listen with a mark, and those that hear a message
pub record Listens (s : List ℕ) (at n b running unwilling : ℕ) (by : List ℕ) (r : Played) : Type 0 where
  pub shown : ℕ
  pub bits : (p : ℕ) → p < 32 → bit shown p ≡ with_bit by b p
  pub some : ℕ
  pub heard : Members some 32
      (λ p. bit (asked_in s at n running unwilling shown) p && not (eqb (without (bit_and (going_on s at running) shown) (row_from s (at + 3 * n) n p)) 0))
  pub played : r
      ≡ record {
        going = going_on s at running;
        senders = bit_and (going_on s at running) shown;
        mark = word_from s (at + 2 * n);
        on = going_on s at running;
        done = 0;
        unwilling = bit_or (bit_or (bit_and (going_on s at running) unwilling) (bit_and (quiet_of s at running shown) (word_from s (at + 2 * n)))) some;
      }

-- those that decide in accept where they hear no veto: the willing without a mark
abbrev pub willing_of : List ℕ → ℕ → ℕ → ℕ → ℕ → ℕ
willing_of s at n running unwilling = without (going_on s at running) (bit_or (word_from s (at + 2 * n)) unwilling)

-- what accept makes of the sets
pub record Accepts (s : List ℕ) (at n running unwilling : ℕ) (r : Played) : Type 0 where
  pub some : ℕ
  pub heard : Members some 32
      (λ p. bit (willing_of s at n running unwilling) p && not (eqb (without (bit_and (going_on s at running) unwilling) (row_from s (at + 3 * n) n p)) 0))
  pub played : r
      ≡ record {
        going = going_on s at running;
        senders = bit_and (going_on s at running) unwilling;
        mark = word_from s (at + 2 * n);
        on = bit_xor (going_on s at running) (bit_xor (willing_of s at n running unwilling) some);
        done = bit_xor (willing_of s at n running unwilling) some;
        unwilling = 0;
      }

-- what the next round of the six-round cycle makes of them, with d rounds of the cycle done
pub record SixPlays (s : List ℕ) (at n d running unwilling : ℕ) (by by' : List ℕ) (r : Played) : Type 0 where
  pub prepare : d ≡ 0 → Prepares s at n running by by' r
  pub bits : (d ≡ 0 → ⊥) → (d ≡ 5 → ⊥) → Listens s at n (4 - d) running unwilling by r × (by' ≡ by)
  pub accept : d ≡ 5 → Accepts s at n running unwilling r × (by' ≡ by)

-- the end of truck j, where those of a set come to their end in round k
abbrev pub noted : List ℕ → ℕ → ℕ → ℕ → ℕ
noted ends who k j = cond (holds who j) k (get_or ends j 0)

-- those of `until` that decided did so in round k
abbrev pub Fresh : ℕ → ℕ → List ℕ → ℕ → ℕ → Type 0
Fresh n k ends decided until = (j : ℕ) → j < n → holds (bit_and decided until) j ≡ true → get_or ends j 0 ≡ k

-- the run of these rounds by the rules of a cycle stands so after k rounds, and the next of those left begins at a place
pub record Due (c : Rules recorded) (rounds : ℕ → List ℕ) (s : List ℕ) (at n left k : ℕ) (by ends sent : List ℕ) (running decided marked one several unwilling until : ℕ) : Type 0 where
  pub good : frame_check s ≡ Ok tt
  pub words : AsRecorded rounds s
  pub stands : Stands (trucks_of s) (k + left) k (opening_at s) (trucks_after c rounds s k) by ends sent running decided marked one several unwilling
  pub most : k + left ≤ 400
  pub count : n ≡ trucks_of s
  pub place : at ≡ round_place n k
  pub fresh : Fresh (trucks_of s) k ends decided until

-- where the run came to its end: all rounds are done, nobody runs any more, or one of `until` decided, in the round done last
pub record Halted (c : Rules recorded) (rounds : ℕ → List ℕ) (s : List ℕ) (last : ℕ) (by ends sent : List ℕ) (until : ℕ) (r : Sets) : Type 0 where
  pub good : frame_check s ≡ Ok tt
  pub stands : Stands (trucks_of s) last r.done (opening_at s) (trucks_after c rounds s r.done) by ends sent r.running r.decided r.marked r.one r.several r.unwilling
  pub most : r.done ≤ last
  pub over : (r.running ≡ 0 → ⊥) → bit_and r.decided until ≡ 0 → r.done ≡ last
  pub fresh : Fresh (trucks_of s) r.done ends r.decided until

-- what is noted before a recording's openings are read
abbrev pub zeros : Tally
zeros = record { openings = replicate 32 0; by = replicate 16 0; ends = replicate 32 0; sent = replicate 8 0; found = replicate 4 0 }

-- the set of the first n trucks
abbrev pub all_of : ℕ → ℕ
all_of n = (2 ^ n - 1) * 2 ^ (32 - n)

-- a recording before round 1: the counts and the openings as they were read, all trucks, and those of each opening
pub record Opens (s openings by : List ℕ) (c : Counts) (all : ℕ) : Type 0 where
  pub counts : c ≡ counts_of s
  pub read : openings ≡ openings_into s (replicate 32 0)
  pub everyone : all ≡ all_of c.trucks
  pub sorted : Sorted by 32 all (λ p. get_or openings (31 - p) 0)
  pub crushers : length by ≡ 16
