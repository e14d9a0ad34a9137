-- Grading, carried along a run by sets in packed order.
use Rattle.std.specs.Prelude.{ℕ, ◌*◌, ◌-◌, ◌<◌, ◌≤◌, ◌^◌, ◌≡◌, Bool, false, cond, not, ◌&&◌, ◌||◌, List, eqb, leb, length, get_or}
use Rattle.std.specs.Int.Bits.{bit_and, bit_or}
use Rattle.std.specs.Int.Count.{ones}
use Rattle.bitreader.specs.Bits.{mirrored}
use Rattle.radio.specs.Radio.{Radio, hears, complete, majority_complete, zero_complete, accurate}
use Rattle.protocol.specs.declared.Grades.{Grades}
use Rattle.sets.specs.Sets.{Members, without}
use Rattle.playback.specs.Sets.{heard_set}
use Rattle.playback.specs.Listens.{row_from}
use Rattle.playback.specs.Standing.{holds}

-- the senders that the truck at place p hears
abbrev pub heard_at : List ℕ → ℕ → ℕ → ℕ → ℕ → ℕ
heard_at s at n senders p = heard_set senders (row_from s at n p) p

-- a truck that heard these of the senders misses some, all, or at least half of them
abbrev pub misses_some : ℕ → ℕ → Bool
misses_some senders heard = not (eqb heard senders)

abbrev pub misses_all : ℕ → ℕ → Bool
misses_all senders heard = misses_some senders heard && eqb heard 0

abbrev pub misses_half : ℕ → ℕ → Bool
misses_half senders heard = misses_some senders heard && leb (2 * ones heard) (ones senders)

-- the first round that breaks a class, or 0, with round k looked at too
unfoldable pub carried : ℕ → Bool → ℕ → ℕ
carried first ok k = cond (eqb first 0) (cond ok 0 k) first

-- the grades with round k too
unfoldable pub carried_by : Grades → Radio → ℕ → Grades
carried_by g a k =
    record {
      complete = carried g.complete (complete a) k;
      majority = carried g.majority (majority_complete a) k;
      zero = carried g.zero (zero_complete a) k;
      accurate = carried g.accurate (accurate a) k;
    }

-- the grades, by the list of four numbers in which a run keeps them
abbrev pub grades_of : List ℕ → Grades
grades_of l = record { complete = get_or l 0 0; majority = get_or l 1 0; zero = get_or l 2 0; accurate = get_or l 3 0 }

-- a round on the radio is what these sets say
pub record RadioSets (a : Radio) (s : List ℕ) (at n going senders mark : ℕ) : Type 0 where
  pub few : a.trucks ≤ 32
  pub fits : senders < 2 ^ 32
  pub goes : going < 2 ^ 32
  pub running : (j : ℕ) → j < a.trucks → a.running j ≡ holds going j
  pub none : (j : ℕ) → a.trucks ≤ j → j < 32 → holds going j ≡ false
  pub sends : Members (mirrored 32 senders) a.trucks a.sends
  pub marked : (j : ℕ) → j < a.trucks → a.marked j ≡ holds mark j
  pub heard : (i : ℕ) → i < a.trucks → Members (mirrored 32 (heard_at s at n senders (31 - i))) a.trucks (hears a i)

-- those whose rows matter to a class that no round has broken yet: trucks without a mark to the first three, trucks with one to the last
abbrev pub asked_of : Grades → ℕ → ℕ → ℕ
asked_of g going mark =
    bit_or (cond (eqb g.complete 0 || eqb g.majority 0 || eqb g.zero 0) (without going mark) 0) (cond (eqb g.accurate 0) (bit_and going mark) 0)

-- what judging a round, with its first row at a place and as round k, makes of the four numbers, where it is asked for
pub record Judges (judging : Bool) (s : List ℕ) (at n k going senders mark : ℕ) (l l' : List ℕ) : Type 0 where
  pub four : length l' ≡ 4
  pub grades : (a : Radio) → RadioSets a s at n going senders mark → grades_of l' ≡ cond judging (carried_by (grades_of l) a k) (grades_of l)
