-- The starred cases C1 to C12 of document 01, a row for each thing that it says of them; C13, the classes of marks and each refusal, alone and with the next one true
-- besides; and cases of F-2, F-4, F-5 and F-7 of document 02.
use Rattle.std.specs.Prelude.{Bool, true, false, List, [], ◌∷◌, ◌++◌, ℕ, ◌+◌, replicate, None}
use Rattle.listing.specs.Text.{text}
use Rattle.refusals.specs.Locations.{location_at}
use Rattle.refusals.specs.declared.Refusal.TheVariants.{ShortRecording, RecordingLength, OwnLoss}
use Rattle.protocol.specs.declared.Cycle.TheVariants.{TwoRound, SixRound}
use Rattle.protocol.specs.declared.Heard.{Heard}
use Rattle.protocol.specs.declared.Heard.TheVariants.{Nothing, One, Several}
use Rattle.protocol.specs.declared.State.{State}
use Rattle.protocol.specs.declared.State.TheVariants.{Running, Stopped, Decided}
use Rattle.protocol.specs.declared.Truck.{Truck}
use Rattle.protocol.specs.declared.Fleet.{Fleet}
use Rattle.cases.specs.Questions.{Question, prints, shows, grades_in, grades, leaves_in, estimates_in, estimates, senders_in, senders, values, messages}
use Rattle.cases.specs.Questions.{starts, runs_in, runs, reads, lists, writes_into, writes, steps, steps_in, steps_of, returns_in, unpacks, steps_bytes_in, opens, takes}
use Rattle.cases.specs.Questions.{Reply, numbers, trucks, refused, holds, left, opening, exactly, says, grades_are, not_graded}

pub record Row : Type 0 where
  pub asks : Question
  pub gets : Reply

infix 5 ◌⟶◌
abbrev pub ◌⟶◌ : Question → Reply → Row
q ⟶ r = record { asks = q; gets = r }

-- the recordings of C1, C2 and C3
abbrev pub c1 : List ℕ
c1 = 0x08 ∷ 0x04 ∷ 0x35 ∷ 0x30 ∷ 0x00 ∷ 0x03 ∷ 0x00 ∷ 0x00 ∷ []

abbrev pub c2 : List ℕ
c2 = 0x08 ∷ 0x02 ∷ 0x35 ∷ 0x31 ∷ 0x80 ∷ 0x00 ∷ []

-- C2 with both mark bits of round 1 set
abbrev pub c3 : List ℕ
c3 = 0x08 ∷ 0x02 ∷ 0x35 ∷ 0x3d ∷ 0x80 ∷ 0x00 ∷ []

-- the recording of C13: trucks that open with 1, 2 and 3 send in its one round, and truck 0 misses truck 2
abbrev pub c13 : List ℕ
c13 = 0x0c ∷ 0x01 ∷ 0x12 ∷ 0x31 ∷ 0xc1 ∷ 0x00 ∷ []

-- two trucks that open with 3 and 5 send in the one round, and truck 0 misses truck 1
abbrev one_round : List ℕ
one_round = 0x08 ∷ 0x01 ∷ 0x35 ∷ 0x31 ∷ 0x00 ∷ []

-- a round of two trucks in which nothing happens, in plain form
abbrev quiet : List ℕ
quiet = 0 ∷ 0 ∷ 0 ∷ 0 ∷ 0 ∷ []

-- a truck without memory: its opening, its estimate, whether it is unwilling, its state, and how many proposals and vetoes it has sent
abbrev truck_of : ℕ → ℕ → Bool → State → ℕ → ℕ → Truck
truck_of o e u s p v = record { opening = o; estimate = e; mark = false; heard = Nothing; unwilling = u; state = s; sent = record { proposals = p; vetoes = v } }

-- a truck in this state that has sent so many proposals and vetoes
abbrev sender : State → ℕ → ℕ → Truck
sender = truck_of 3 3 false

-- a truck that has only known the six-round cycle
abbrev six : ℕ → ℕ → Bool → State → Truck
six o e u s = truck_of o e u s 0 0

-- a truck in this state that remembers whether it had a mark, and what it heard, and has sent nothing
abbrev minding : Bool → Heard → State → Truck
minding m h s = record { opening = 3; estimate = 3; mark = m; heard = h; unwilling = false; state = s; sent = record { proposals = 0; vetoes = 0 } }

-- one that runs, opened so, came to this estimate and has sent one proposal
abbrev proposer : ℕ → ℕ → Bool → Heard → Truck
proposer o e m h = record { opening = o; estimate = e; mark = m; heard = h; unwilling = false; state = Running; sent = record { proposals = 1; vetoes = 0 } }

-- the record of a refused start or run, and one before round 1 of two trucks that open with 3 and 15
abbrev no_fleet : Fleet
no_fleet = record { n = 0; done = 0; trucks = replicate 32 (six 0 0 false Running) }

abbrev two_trucks : Fleet
two_trucks = record { n = 2; done = 0; trucks = six 3 3 false Running ∷ six 15 15 false Running ∷ replicate 30 (six 0 0 false Running) }

-- a truck in this state that remembers a mark and several values and has sent one proposal
abbrev remembering : State → Truck
remembering s = record { opening = 3; estimate = 3; mark = true; heard = Several; unwilling = false; state = s; sent = record { proposals = 1; vetoes = 0 } }

-- an unwilling truck that remembers one value and has sent one proposal
abbrev unwilling_one : Truck
unwilling_one = record { opening = 3; estimate = 3; mark = false; heard = One; unwilling = true; state = Running; sent = record { proposals = 1; vetoes = 0 } }

-- two running trucks that opened with 3 and 5
abbrev three_five : List Truck
three_five = six 3 3 false Running ∷ six 5 5 false Running ∷ []

-- a running truck with something in every part
abbrev every_part : Truck
every_part = record { opening = 3; estimate = 5; mark = true; heard = Several; unwilling = true; state = Running; sent = record { proposals = 4; vetoes = 6 } }

-- a record of one truck as bytes, with 301 rounds done and these ten bytes of the truck; the other places hold bytes of no truck
abbrev bytes_of : List ℕ → List ℕ
bytes_of ten = 1 ∷ 45 ∷ 1 ∷ ten ++ replicate 310 9

-- and as it is taken: the other places hold trucks of opening and estimate 0
abbrev fleet_of : Truck → Fleet
fleet_of t = record { n = 1; done = 301; trucks = t ∷ replicate 31 (six 0 0 false Running) }

-- rounds of one truck in plain form: nothing happens, it stops, it is active
abbrev quiet_one : List ℕ
quiet_one = 0 ∷ 0 ∷ 0 ∷ 0 ∷ []

abbrev stop_one : List ℕ
stop_one = 1 ∷ 0 ∷ 0 ∷ 0 ∷ []

abbrev active_one : List ℕ
active_one = 0 ∷ 1 ∷ 0 ∷ 0 ∷ []

-- six rounds of two trucks that open with 3 and 5, both active in round 1
abbrev pub both_active : List ℕ
both_active = 0x08 ∷ 0x06 ∷ 0x35 ∷ 0x30 ∷ replicate 7 0x00

-- the same with a mark of truck 1 in round 1
abbrev pub one_marked : List ℕ
one_marked = 0x08 ∷ 0x06 ∷ 0x35 ∷ 0x34 ∷ replicate 7 0x00

-- six rounds of two trucks that open with 3 and 1 and are never active
abbrev pub never_active : List ℕ
never_active = 0x08 ∷ 0x06 ∷ 0x31 ∷ replicate 8 0x00

-- the same where truck 1 misses truck 0 in round 4
abbrev pub bit_missed : List ℕ
bit_missed = 0x08 ∷ 0x06 ∷ 0x31 ∷ 0x00 ∷ 0x00 ∷ 0x00 ∷ 0x00 ∷ 0x02 ∷ 0x00 ∷ 0x00 ∷ 0x00 ∷ []

-- six rounds of one truck that opens with 1, by the bits of round 1, of rounds 2 and 3, of rounds 4 and 5, and of round 6 with the end bits
abbrev pub alone : ℕ → ℕ → ℕ → ℕ → List ℕ
alone r₁ r₂₃ r₄₅ r₆ = 0x04 ∷ 0x06 ∷ (0x10 + r₁) ∷ r₂₃ ∷ r₄₅ ∷ r₆ ∷ []

unfoldable pub table : List Row
table =
    -- C1: both decide 3 in round 4; both propose in rounds 1 and 3; round 1 gives both estimate 3 and two values, so both veto
    (prints c1 ⟶ says "trucks 2 rounds 4\n0 opened 3 decided 3 round 4 sent 2 vetoes 1\n1 opened 5 decided 3 round 4 sent 2 vetoes 1\nsent 4 vetoes 2\n")
    ∷ (senders 1 c1 ⟶ numbers (0 ∷ 1 ∷ []))
    ∷ (senders 3 c1 ⟶ numbers (0 ∷ 1 ∷ []))
    ∷ (messages 1 c1 ⟶ numbers (2 ∷ 2 ∷ 2 ∷ []))
    ∷ (messages 3 c1 ⟶ numbers (2 ∷ 2 ∷ 2 ∷ []))
    ∷ (values 0 1 c1 ⟶ numbers (3 ∷ 5 ∷ []))
    ∷ (values 1 1 c1 ⟶ numbers (3 ∷ 5 ∷ []))
    ∷ (grades c1 ⟶ grades_are 0 0 0 0)
    ∷ (estimates 1 c1 ⟶ numbers (3 ∷ 3 ∷ []))
    ∷ (senders 2 c1 ⟶ numbers (0 ∷ 1 ∷ []))
    -- C2: both send, each misses the other without a mark, so it hears 1 of 2, and they decide 3 and 5
    ∷ (senders 1 c2 ⟶ numbers (0 ∷ 1 ∷ []))
    ∷ (messages 1 c2 ⟶ numbers (2 ∷ 1 ∷ 1 ∷ []))
    ∷ (prints c2 ⟶ says "trucks 2 rounds 2\n0 opened 3 decided 3 round 2 sent 1 vetoes 0\n1 opened 5 decided 5 round 2 sent 1 vetoes 0\nsent 2 vetoes 0\n")
    ∷ (grades c2 ⟶ grades_are 1 1 0 0)
    -- C3: both keep their estimates, both veto, none decides
    ∷ (prints c3 ⟶ says "trucks 2 rounds 2\n0 opened 3 running 3 sent 1 vetoes 1\n1 opened 5 running 5 sent 1 vetoes 1\nsent 2 vetoes 2\n")
    ∷ (estimates 1 c3 ⟶ numbers (3 ∷ 5 ∷ []))
    ∷ (senders 2 c3 ⟶ numbers (0 ∷ 1 ∷ []))
    -- each misses the other with a mark, so that marks are of all four classes
    ∷ (grades c3 ⟶ grades_are 0 0 0 0)
    -- C13: three trucks send, one hears two without a mark
    ∷ (messages 1 c13 ⟶ numbers (3 ∷ 2 ∷ 3 ∷ 3 ∷ []))
    ∷ (grades c13 ⟶ grades_are 1 0 0 0)
    -- messages are counted, equal values included: three trucks send 4, and truck 0 hears its own alone
    ∷ (grades (0x0c ∷ 0x01 ∷ 0x44 ∷ 0x41 ∷ 0xc3 ∷ 0x00 ∷ []) ⟶ grades_are 1 1 0 0)
    -- one truck sends, and the other hears nothing without a mark; one truck has a mark in a silent round, where the other classes ask for none
    ∷ (grades (0x08 ∷ 0x01 ∷ 0x35 ∷ 0x11 ∷ 0x00 ∷ []) ⟶ grades_are 1 1 1 0)
    ∷ (grades (0x04 ∷ 0x01 ∷ 0x72 ∷ []) ⟶ grades_are 0 0 0 1)
    -- the first round that breaks a class: truck 0 misses all in rounds 3 and 5, and marks are false in rounds 2 and 4
    ∷ (grades (0x08 ∷ 0x06 ∷ 0x35 ∷ 0x00 ∷ 0x02 ∷ 0x01 ∷ 0x10 ∷ 0x30 ∷ 0x11 ∷ 0x00 ∷ 0x00 ∷ []) ⟶ grades_are 3 3 3 2)
    -- the last round breaks all four: truck 0 misses what truck 1 sends in round 9, and truck 1 has a mark
    ∷ (grades (0x08 ∷ 0x09 ∷ 0x35 ∷ replicate 10 0x00 ++ (0x15 ∷ 0x00 ∷ [])) ⟶ grades_are 9 9 9 9)
    -- only running trucks are judged. Marks: truck 1 has one in round 1, where it stops, and in rounds 2 and 3; truck 0 in round 3, after it decided
    ∷ (grades (0x08 ∷ 0x03 ∷ 0x35 ∷ 0x64 ∷ 0x01 ∷ 0x00 ∷ 0xc0 ∷ []) ⟶ grades_are 0 0 0 0)
    -- losses: truck 1 misses truck 0 in round 1, where it stops; trucks 0 and 1 miss truck 2 in round 3, after truck 0 decided. The mark of truck 2 in round 2 is false
    ∷ (grades (0x0c ∷ 0x03 ∷ 0x35 ∷ 0x75 ∷ 0x00 ∷ 0x80 ∷ 0x02 ∷ 0x00 ∷ 0x04 ∷ 0x12 ∷ 0x00 ∷ []) ⟶ grades_are 0 0 0 2)
    -- C4: one truck, active in round 1, and never active
    ∷ (prints (0x04 ∷ 0x02 ∷ 0x74 ∷ 0x00 ∷ []) ⟶ says "trucks 1 rounds 2\n0 opened 7 decided 7 round 2 sent 1 vetoes 0\nsent 1 vetoes 0\n")
    ∷ (prints (0x04 ∷ 0x02 ∷ 0x70 ∷ 0x00 ∷ []) ⟶ says "trucks 1 rounds 2\n0 opened 7 running 7 sent 0 vetoes 0\nsent 0 vetoes 0\n")
    -- C5: no rounds
    ∷ (prints (0x08 ∷ 0x00 ∷ 0x35 ∷ []) ⟶ says "trucks 2 rounds 0\n0 opened 3 running 3 sent 0 vetoes 0\n1 opened 5 running 5 sent 0 vetoes 0\nsent 0 vetoes 0\n")
    -- C6: n of 32 is taken, 33 is not
    ∷ (estimates 0 (0x80 ∷ 0x00 ∷ replicate 16 0x11) ⟶ numbers (replicate 32 1))
    ∷ (grades (0x80 ∷ 0x00 ∷ replicate 16 0x11) ⟶ grades_are 0 0 0 0)
    ∷ (prints (0x84 ∷ 0x00 ∷ replicate 17 0x00) ⟶ says "refused 2\n")
    -- C7: R of 400 is taken, 401 is not
    ∷ (prints (0x05 ∷ 0x90 ∷ replicate 201 0x00) ⟶ says "trucks 1 rounds 400\n0 opened 0 running 0 sent 0 vetoes 0\nsent 0 vetoes 0\n")
    ∷ (prints (0x05 ∷ 0x91 ∷ replicate 201 0x00) ⟶ says "refused 3\n")
    -- C8: C1 without its last byte
    ∷ (prints (0x08 ∷ 0x04 ∷ 0x35 ∷ 0x30 ∷ 0x00 ∷ 0x03 ∷ 0x00 ∷ []) ⟶ says "refused 4\n")
    -- C9: C2 with last byte 01
    ∷ (prints (0x08 ∷ 0x02 ∷ 0x35 ∷ 0x31 ∷ 0x80 ∷ 0x01 ∷ []) ⟶ says "refused 5\n")
    -- C10: C2 with fourth byte 33, truck 0's own bit
    ∷ (prints (0x08 ∷ 0x02 ∷ 0x35 ∷ 0x33 ∷ 0x80 ∷ 0x00 ∷ []) ⟶ says "refused 6 round 1 truck 0\n")
    -- 1: no byte, and one; a number of trucks that is not there reads 0, and one byte has a 33 in it, but 1 comes first
    ∷ (prints [] ⟶ says "refused 1\n")
    ∷ (prints (0x08 ∷ []) ⟶ says "refused 1\n")
    ∷ (prints (0x84 ∷ []) ⟶ says "refused 1\n")
    -- 2: n is 0; with R of 401, 2 comes first for n of 0 and of 33
    ∷ (prints (0x00 ∷ 0x00 ∷ []) ⟶ says "refused 2\n")
    ∷ (prints (0x01 ∷ 0x91 ∷ []) ⟶ says "refused 2\n")
    ∷ (prints (0x85 ∷ 0x91 ∷ []) ⟶ says "refused 2\n")
    -- 3 before 4: R is 401, and the length wrong
    ∷ (prints (0x05 ∷ 0x91 ∷ []) ⟶ says "refused 3\n")
    -- 4: C2 with a byte too many; 4 before 5: that byte, or the end bits before it, are not 0
    ∷ (prints (c2 ++ (0x00 ∷ [])) ⟶ says "refused 4\n")
    ∷ (prints (c2 ++ (0x01 ∷ [])) ⟶ says "refused 4\n")
    ∷ (prints (0x08 ∷ 0x02 ∷ 0x35 ∷ 0x31 ∷ 0x80 ∷ 0x01 ∷ 0x00 ∷ []) ⟶ says "refused 4\n")
    -- 5: the first of the four end bits of C2
    ∷ (prints (0x08 ∷ 0x02 ∷ 0x35 ∷ 0x31 ∷ 0x80 ∷ 0x08 ∷ []) ⟶ says "refused 5\n")
    -- running and grading are refused as the listing is, and a refused run holds a record of no trucks; a run of no rounds leaves what a start does
    ∷ (runs [] ⟶ holds (1, None) no_fleet)
    ∷ (runs_in SixRound (c2 ++ (0x00 ∷ [])) ⟶ holds (4, None) no_fleet)
    ∷ (runs (0x08 ∷ 0x02 ∷ 0x35 ∷ 0x31 ∷ 0x80 ∷ 0x10 ∷ []) ⟶ holds (6, location_at 2 1) no_fleet)
    ∷ (runs (0x08 ∷ 0x00 ∷ 0x3f ∷ []) ⟶ holds (0, None) two_trucks)
    ∷ (grades [] ⟶ not_graded ShortRecording)
    ∷ (grades_in SixRound (c2 ++ (0x00 ∷ [])) ⟶ not_graded RecordingLength)
    ∷ (grades (0x08 ∷ 0x02 ∷ 0x35 ∷ 0x31 ∷ 0x80 ∷ 0x10 ∷ []) ⟶ not_graded (OwnLoss 2 1))
    -- reading to plain form: buffers that are just long enough; longer ones keep the rest; 9: one is a place too short; 6 comes before; nothing is changed
    ∷ (reads one_round (9 ∷ 9 ∷ []) (replicate 5 9) ⟶ left (0, 2 ∷ 1 ∷ []) ((3 ∷ 5 ∷ []) ∷ (0 ∷ 3 ∷ 0 ∷ 2 ∷ 0 ∷ []) ∷ []))
    ∷ (reads one_round (9 ∷ 9 ∷ 9 ∷ []) (replicate 6 9) ⟶ left (0, 2 ∷ 1 ∷ []) ((3 ∷ 5 ∷ 9 ∷ []) ∷ (0 ∷ 3 ∷ 0 ∷ 2 ∷ 0 ∷ 9 ∷ []) ∷ []))
    ∷ (reads one_round (9 ∷ []) (replicate 5 9) ⟶ left (9, []) ((9 ∷ []) ∷ replicate 5 9 ∷ []))
    ∷ (reads one_round (9 ∷ 9 ∷ []) (replicate 4 9) ⟶ left (9, []) ((9 ∷ 9 ∷ []) ∷ replicate 4 9 ∷ []))
    ∷ (reads (0x08 ∷ 0x01 ∷ 0x35 ∷ 0x33 ∷ 0x00 ∷ []) [] [] ⟶ left (6, []) ([] ∷ [] ∷ []))
    ∷ (reads [] [] [] ⟶ left (1, []) ([] ∷ [] ∷ []))
    -- listing in a buffer: the 71 bytes of C4, never active, with one over; 9 with one too few; 4 comes before
    ∷ (lists (0x04 ∷ 0x02 ∷ 0x70 ∷ 0x00 ∷ []) (replicate 72 9) ⟶ left (0, 71 ∷ []) ((text "trucks 1 rounds 2\n0 opened 7 running 7 sent 0 vetoes 0\nsent 0 vetoes 0\n" ++ (9 ∷ [])) ∷ []))
    ∷ (lists (0x04 ∷ 0x02 ∷ 0x70 ∷ 0x00 ∷ []) (replicate 70 9) ⟶ left (9, []) (replicate 70 9 ∷ []))
    ∷ (lists (0x04 ∷ 0x02 ∷ 0x70 ∷ []) [] ⟶ left (4, []) ([] ∷ []))
    -- F-7: C2 with other own bits. That of truck 1 in round 1, besides that of truck 0 in round 2; both in round 2, and that of truck 1 alone
    ∷ (prints (0x08 ∷ 0x02 ∷ 0x35 ∷ 0x31 ∷ 0xc0 ∷ 0x80 ∷ []) ⟶ says "refused 6 round 1 truck 1\n")
    ∷ (prints (0x08 ∷ 0x02 ∷ 0x35 ∷ 0x31 ∷ 0x80 ∷ 0x90 ∷ []) ⟶ says "refused 6 round 2 truck 0\n")
    ∷ (prints (0x08 ∷ 0x02 ∷ 0x35 ∷ 0x31 ∷ 0x80 ∷ 0x10 ∷ []) ⟶ says "refused 6 round 2 truck 1\n")
    -- all four, and an end bit, which comes before
    ∷ (prints (0x08 ∷ 0x02 ∷ 0x35 ∷ 0x33 ∷ 0xc0 ∷ 0x90 ∷ []) ⟶ says "refused 6 round 1 truck 0\n")
    ∷ (prints (0x08 ∷ 0x02 ∷ 0x35 ∷ 0x33 ∷ 0xc0 ∷ 0x91 ∷ []) ⟶ says "refused 5\n")
    -- one truck, in round 400
    ∷ (prints (0x05 ∷ 0x90 ∷ replicate 200 0x00 ++ (0x10 ∷ [])) ⟶ says "refused 6 round 400 truck 0\n")
    -- a step names the round after those done; 8 and 14 come before
    ∷ (steps 2 0 (0 ∷ 0 ∷ 0 ∷ 1 ∷ 2 ∷ []) ⟶ refused (6, location_at 1 0))
    ∷ (steps 2 399 (0 ∷ 0 ∷ 0 ∷ 1 ∷ 2 ∷ []) ⟶ refused (6, location_at 400 0))
    ∷ (steps 2 399 (0 ∷ 0 ∷ 0 ∷ 0 ∷ 2 ∷ []) ⟶ refused (6, location_at 400 1))
    ∷ (steps 2 399 (0 ∷ 4 ∷ 0 ∷ 1 ∷ 2 ∷ []) ⟶ refused (8, None))
    ∷ (steps 2 400 (0 ∷ 0 ∷ 0 ∷ 1 ∷ 2 ∷ []) ⟶ refused (14, None))
    -- writing: own bits of truck 1 in round 2 and of truck 0 in round 3; with a word too large in round 4; with an opening too high
    ∷ (writes 2 4 (3 ∷ 5 ∷ []) (quiet ++ (0 ∷ 0 ∷ 0 ∷ 0 ∷ 2 ∷ []) ++ (0 ∷ 0 ∷ 0 ∷ 1 ∷ 0 ∷ []) ++ quiet) ⟶ refused (6, location_at 2 1))
    ∷ (writes 2 4 (3 ∷ 5 ∷ []) (quiet ++ (0 ∷ 0 ∷ 0 ∷ 0 ∷ 2 ∷ []) ++ quiet ++ (0 ∷ 4 ∷ 0 ∷ 0 ∷ 0 ∷ [])) ⟶ refused (8, None))
    ∷ (writes 2 1 (3 ∷ 16 ∷ []) (0 ∷ 0 ∷ 0 ∷ 1 ∷ 0 ∷ []) ⟶ refused (7, None))
    -- 2: n is 0 or 33; 3: R is 401; 7: an opening of 16, one too few, one too many; 8: a word too few, one too many, a bit of truck 2
    ∷ (writes 0 0 [] [] ⟶ refused (2, None))
    ∷ (writes 33 0 (replicate 33 0) [] ⟶ refused (2, None))
    ∷ (writes 1 401 (0 ∷ []) (replicate 1604 0) ⟶ refused (3, None))
    ∷ (writes 2 1 (3 ∷ 16 ∷ []) quiet ⟶ refused (7, None))
    ∷ (writes 2 1 (3 ∷ []) quiet ⟶ refused (7, None))
    ∷ (writes 2 1 (3 ∷ 5 ∷ 7 ∷ []) quiet ⟶ refused (7, None))
    ∷ (writes 2 1 (3 ∷ 5 ∷ []) (0 ∷ 0 ∷ 0 ∷ 0 ∷ []) ⟶ refused (8, None))
    ∷ (writes 2 1 (3 ∷ 5 ∷ []) (0 ∷ quiet) ⟶ refused (8, None))
    ∷ (writes 2 1 (3 ∷ 5 ∷ []) (0 ∷ 0 ∷ 0 ∷ 0 ∷ 4 ∷ []) ⟶ refused (8, None))
    -- in their order, each with the next one true besides: 2, 3, 7, 8
    ∷ (writes 33 401 (replicate 33 0) [] ⟶ refused (2, None))
    ∷ (writes 1 401 (16 ∷ []) (replicate 1604 0) ⟶ refused (3, None))
    ∷ (writes 2 1 (3 ∷ 16 ∷ []) (0 ∷ 0 ∷ 0 ∷ 0 ∷ []) ⟶ refused (7, None))
    ∷ (writes 2 1 (3 ∷ 5 ∷ []) (0 ∷ 4 ∷ 0 ∷ 1 ∷ 0 ∷ []) ⟶ refused (8, None))
    -- openings of 15, 32 trucks, no rounds
    ∷ (writes 2 1 (15 ∷ 15 ∷ []) quiet ⟶ refused (0, None))
    ∷ (writes 32 0 (replicate 32 15) [] ⟶ refused (0, None))
    -- into a buffer with one byte over; 9 with one too few; 6 comes before; nothing is changed
    ∷ (writes_into 2 1 (3 ∷ 5 ∷ []) (0 ∷ 3 ∷ 0 ∷ 2 ∷ 0 ∷ []) (replicate 6 9) ⟶ left (0, 5 ∷ []) ((one_round ++ (9 ∷ [])) ∷ []))
    ∷ (writes_into 2 1 (3 ∷ 5 ∷ []) (0 ∷ 3 ∷ 0 ∷ 2 ∷ 0 ∷ []) (replicate 4 9) ⟶ left (9, []) (replicate 4 9 ∷ []))
    ∷ (writes_into 2 1 (3 ∷ 5 ∷ []) (0 ∷ 3 ∷ 0 ∷ 1 ∷ 0 ∷ []) (replicate 4 9) ⟶ left (6, []) (replicate 4 9 ∷ []))
    -- starting: 2, n is 0 or 33; 7, an opening of 16, one too few, one too many; 2 before 7; a refused start holds a record of no trucks
    ∷ (starts 0 [] ⟶ holds (2, None) no_fleet)
    ∷ (starts 33 (replicate 33 0) ⟶ holds (2, None) no_fleet)
    ∷ (starts 2 (3 ∷ 16 ∷ []) ⟶ holds (7, None) no_fleet)
    ∷ (starts 2 (3 ∷ []) ⟶ holds (7, None) no_fleet)
    ∷ (starts 2 (3 ∷ 15 ∷ 0 ∷ []) ⟶ holds (7, None) no_fleet)
    ∷ (starts 33 (16 ∷ []) ⟶ holds (2, None) no_fleet)
    ∷ (starts 2 (3 ∷ 15 ∷ []) ⟶ holds (0, None) two_trucks)
    -- a step, 7: n is 0 or 33, and 401 rounds done, where 14 is asked no more; 32 trucks are taken; 7 before 14, 14 before 8, 8 for a word too few and one too many
    ∷ (steps 0 0 (0 ∷ 0 ∷ 0 ∷ []) ⟶ refused (7, None))
    ∷ (steps 33 0 (replicate 36 0) ⟶ refused (7, None))
    ∷ (steps 1 401 quiet_one ⟶ refused (7, None))
    ∷ (steps 32 0 (replicate 35 0) ⟶ refused (0, None))
    ∷ (steps_of 1 400 (six 16 3 false Running ∷ []) quiet_one ⟶ refused (7, None))
    ∷ (steps 2 400 (0 ∷ 4 ∷ 0 ∷ 0 ∷ 0 ∷ []) ⟶ refused (14, None))
    ∷ (steps 2 0 (0 ∷ 0 ∷ 0 ∷ 0 ∷ []) ⟶ refused (8, None))
    ∷ (steps 2 0 (0 ∷ quiet) ⟶ refused (8, None))
    -- a crusher of 16, as opening and as estimate; 15 is taken
    ∷ (steps_of 1 0 (six 16 3 false Running ∷ []) quiet_one ⟶ refused (7, None))
    ∷ (steps_of 1 0 (six 3 16 false Running ∷ []) quiet_one ⟶ refused (7, None))
    ∷ (steps_of 1 0 (six 15 15 false Running ∷ []) quiet_one ⟶ refused (0, None))
    -- a memory with even rounds done: a mark, one value, several values; with odd rounds done it is taken of a running truck
    ∷ (steps_of 1 2 (minding true Nothing Running ∷ []) quiet_one ⟶ refused (7, None))
    ∷ (steps_of 1 2 (minding false One Running ∷ []) quiet_one ⟶ refused (7, None))
    ∷ (steps_of 1 2 (minding false Several Running ∷ []) quiet_one ⟶ refused (7, None))
    ∷ (steps_of 1 3 (minding true Nothing Running ∷ []) quiet_one ⟶ refused (0, None))
    ∷ (steps_of 1 3 (minding false One Running ∷ []) quiet_one ⟶ refused (0, None))
    ∷ (steps_of 1 3 (minding false Several Running ∷ []) quiet_one ⟶ refused (0, None))
    -- but not of a stopped one, nor of a decided one
    ∷ (steps_of 1 3 (minding true Nothing (Stopped 2) ∷ []) quiet_one ⟶ refused (7, None))
    ∷ (steps_of 1 3 (minding false One (Stopped 2) ∷ []) quiet_one ⟶ refused (7, None))
    ∷ (steps_of 1 3 (minding false Several (Stopped 2) ∷ []) quiet_one ⟶ refused (7, None))
    ∷ (steps_of 1 3 (minding true Nothing (Decided 2) ∷ []) quiet_one ⟶ refused (7, None))
    ∷ (steps_of 1 3 (minding false One (Decided 2) ∷ []) quiet_one ⟶ refused (7, None))
    ∷ (steps_of 1 3 (minding false Several (Decided 2) ∷ []) quiet_one ⟶ refused (7, None))
    -- a stop round of 0, and one later than the rounds done; the last of them, odd or even, is taken
    ∷ (steps_of 1 5 (six 3 3 false (Stopped 0) ∷ []) quiet_one ⟶ refused (7, None))
    ∷ (steps_of 1 5 (six 3 3 false (Stopped 6) ∷ []) quiet_one ⟶ refused (7, None))
    ∷ (steps_of 1 5 (six 3 3 false (Stopped 5) ∷ []) quiet_one ⟶ refused (0, None))
    ∷ (steps_of 1 4 (six 3 3 false (Stopped 4) ∷ []) quiet_one ⟶ refused (0, None))
    -- a decided round of 0, an odd one, and one later than the rounds done; the last of them is taken
    ∷ (steps_of 1 5 (six 3 3 false (Decided 0) ∷ []) quiet_one ⟶ refused (7, None))
    ∷ (steps_of 1 5 (six 3 3 false (Decided 3) ∷ []) quiet_one ⟶ refused (7, None))
    ∷ (steps_of 1 5 (six 3 3 false (Decided 6) ∷ []) quiet_one ⟶ refused (7, None))
    ∷ (steps_of 1 4 (six 3 3 false (Decided 4) ∷ []) quiet_one ⟶ refused (0, None))
    -- the memory after a proposal round of two trucks. Both have a mark: truck 0 heard itself alone, truck 1 heard both; both keep their estimates
    ∷ (returns_in TwoRound 2 0 three_five (0 ∷ 3 ∷ 3 ∷ 2 ∷ 0 ∷ []) ⟶ trucks (proposer 3 3 true One ∷ proposer 5 5 true Several ∷ []))
    -- the same without marks: truck 1 takes the least value
    ∷ (returns_in TwoRound 2 0 three_five (0 ∷ 3 ∷ 0 ∷ 2 ∷ 0 ∷ []) ⟶ trucks (proposer 3 3 false One ∷ proposer 5 3 false Several ∷ []))
    -- nobody sends, and truck 0 has a mark; a refused step returns the trucks that it was given
    ∷ (returns_in TwoRound 2 0 three_five (0 ∷ 0 ∷ 1 ∷ 0 ∷ 0 ∷ []) ⟶ trucks (minding true Nothing Running ∷ six 5 5 false Running ∷ []))
    ∷ (returns_in TwoRound 2 0 three_five (0 ∷ 3 ∷ 0 ∷ 1 ∷ 0 ∷ []) ⟶ trucks three_five)
    -- a record as bytes: a running truck with every part of it, a stopped one, a decided one, one that heard one value
    ∷ (unpacks (bytes_of (3 ∷ 5 ∷ 1 ∷ 2 ∷ 0 ∷ 0 ∷ 0 ∷ 4 ∷ 6 ∷ 1 ∷ [])) ⟶ holds (0, None) (fleet_of every_part))
    ∷ (unpacks (bytes_of (3 ∷ 5 ∷ 0 ∷ 0 ∷ 1 ∷ 44 ∷ 1 ∷ 0 ∷ 0 ∷ 0 ∷ [])) ⟶ holds (0, None) (fleet_of (six 3 5 false (Stopped 300))))
    ∷ (unpacks (bytes_of (3 ∷ 5 ∷ 0 ∷ 0 ∷ 2 ∷ 44 ∷ 1 ∷ 0 ∷ 0 ∷ 0 ∷ [])) ⟶ holds (0, None) (fleet_of (six 3 5 false (Decided 300))))
    ∷ (unpacks (bytes_of (3 ∷ 3 ∷ 0 ∷ 1 ∷ 0 ∷ 0 ∷ 0 ∷ 0 ∷ 0 ∷ 0 ∷ [])) ⟶ holds (0, None) (fleet_of (minding false One Running)))
    -- bytes that are no record, 7 and no trucks: one too few, n of 0 and of 33, a mark of 2, 3 for what it heard, 3 for its state, a running truck with a round in
    -- either byte, 2 for whether it is unwilling
    ∷ (unpacks (1 ∷ replicate 321 0) ⟶ holds (7, None) no_fleet)
    ∷ (unpacks (0 ∷ replicate 322 0) ⟶ holds (7, None) no_fleet)
    ∷ (unpacks (33 ∷ replicate 322 0) ⟶ holds (7, None) no_fleet)
    ∷ (unpacks (bytes_of (3 ∷ 3 ∷ 2 ∷ 0 ∷ 0 ∷ 0 ∷ 0 ∷ 0 ∷ 0 ∷ 0 ∷ [])) ⟶ holds (7, None) no_fleet)
    ∷ (unpacks (bytes_of (3 ∷ 3 ∷ 0 ∷ 3 ∷ 0 ∷ 0 ∷ 0 ∷ 0 ∷ 0 ∷ 0 ∷ [])) ⟶ holds (7, None) no_fleet)
    ∷ (unpacks (bytes_of (3 ∷ 3 ∷ 0 ∷ 0 ∷ 3 ∷ 0 ∷ 0 ∷ 0 ∷ 0 ∷ 0 ∷ [])) ⟶ holds (7, None) no_fleet)
    ∷ (unpacks (bytes_of (3 ∷ 3 ∷ 0 ∷ 0 ∷ 0 ∷ 1 ∷ 0 ∷ 0 ∷ 0 ∷ 0 ∷ [])) ⟶ holds (7, None) no_fleet)
    ∷ (unpacks (bytes_of (3 ∷ 3 ∷ 0 ∷ 0 ∷ 0 ∷ 0 ∷ 1 ∷ 0 ∷ 0 ∷ 0 ∷ [])) ⟶ holds (7, None) no_fleet)
    ∷ (unpacks (bytes_of (3 ∷ 3 ∷ 0 ∷ 0 ∷ 0 ∷ 0 ∷ 0 ∷ 0 ∷ 0 ∷ 2 ∷ [])) ⟶ holds (7, None) no_fleet)
    -- a step of such bytes, and of a record with a crusher of 16, is refused 7, and they stay; an accepted one leaves the round done, and the veto sent
    ∷ (steps_bytes_in TwoRound (bytes_of (3 ∷ 3 ∷ 2 ∷ 0 ∷ 0 ∷ 0 ∷ 0 ∷ 0 ∷ 0 ∷ 0 ∷ [])) quiet_one ⟶ left (7, []) (bytes_of (3 ∷ 3 ∷ 2 ∷ 0 ∷ 0 ∷ 0 ∷ 0 ∷ 0 ∷ 0 ∷ 0 ∷ []) ∷ []))
    ∷ (steps_bytes_in SixRound (1 ∷ 2 ∷ []) quiet_one ⟶ left (7, []) ((1 ∷ 2 ∷ []) ∷ []))
    ∷ (steps_bytes_in TwoRound (bytes_of (16 ∷ 3 ∷ 0 ∷ 0 ∷ 0 ∷ 0 ∷ 0 ∷ 0 ∷ 0 ∷ 0 ∷ [])) quiet_one ⟶ left (7, []) (bytes_of (16 ∷ 3 ∷ 0 ∷ 0 ∷ 0 ∷ 0 ∷ 0 ∷ 0 ∷ 0 ∷ 0 ∷ []) ∷ []))
    ∷ (steps_bytes_in TwoRound (bytes_of (3 ∷ 3 ∷ 1 ∷ 1 ∷ 0 ∷ 0 ∷ 0 ∷ 0 ∷ 0 ∷ 0 ∷ [])) quiet_one ⟶ left (0, []) ((1 ∷ 46 ∷ 1 ∷ 3 ∷ 3 ∷ 0 ∷ 0 ∷ 0 ∷ 0 ∷ 0 ∷ 0 ∷ 1 ∷ 0 ∷ replicate 310 9) ∷ []))
    -- F-5: three trucks. All propose in round 1. Truck 0 hears only itself, so it decides in round 2, where the others veto; truck 1 stops in round 3; truck 2
    -- proposes in round 3 with a mark, so it vetoes in round 4. Stop, active and mark bits of the decided and the stopped truck do nothing
    ∷ (prints (0x0c ∷ 0x04 ∷ 0x12 ∷ 0x31 ∷ 0xc3 ∷ 0x00 ∷ 0x00 ∷ 0xc0 ∷ 0xde ∷ 0x80 ∷ 0x17 ∷ 0x00 ∷ 0x00 ∷ []) ⟶ says "trucks 3 rounds 4\n0 opened 1 decided 1 round 2 sent 1 vetoes 0\n1 opened 2 stopped 1 round 3 sent 1 vetoes 1\n2 opened 3 running 1 sent 2 vetoes 2\nsent 4 vetoes 3\n")
    -- one truck that is active and has a mark in every proposal round of 400
    ∷ (prints (0x05 ∷ 0x90 ∷ replicate 200 0x06 ++ (0x00 ∷ [])) ⟶ says "trucks 1 rounds 400\n0 opened 0 running 0 sent 200 vetoes 200\nsent 200 vetoes 200\n")
    -- numbers: 32 trucks that propose in 200 rounds make the largest that is printed
    ∷ (shows 0 ⟶ says "0")
    ∷ (shows 10 ⟶ says "10")
    ∷ (shows 999 ⟶ says "999")
    ∷ (shows 1000 ⟶ says "1000")
    ∷ (shows 6400 ⟶ says "6400")
    -- a step: with 4 rounds done 2 of each kind have been, whatever the trucks' states
    ∷ (steps_of 2 4 (sender Running 2 2 ∷ sender (Stopped 1) 2 2 ∷ []) quiet ⟶ refused (0, None))
    ∷ (steps_of 2 4 (sender Running 2 2 ∷ sender Running 3 2 ∷ []) quiet ⟶ refused (7, None))
    ∷ (steps_of 2 4 (sender (Stopped 1) 2 3 ∷ sender Running 2 2 ∷ []) quiet ⟶ refused (7, None))
    -- with 5 done, 3 odd rounds and 2 even ones
    ∷ (steps_of 2 5 (sender Running 3 2 ∷ sender (Decided 2) 3 2 ∷ []) quiet ⟶ refused (0, None))
    ∷ (steps_of 2 5 (sender Running 3 2 ∷ sender (Decided 2) 4 2 ∷ []) quiet ⟶ refused (7, None))
    ∷ (steps_of 2 5 (sender Running 3 3 ∷ sender (Decided 2) 3 2 ∷ []) quiet ⟶ refused (7, None))
    -- with none done none, and with 400 done 200 of each kind, where 14 is asked next; places n and above are not read
    ∷ (steps_of 2 0 (sender Running 0 0 ∷ sender Running 1 0 ∷ []) quiet ⟶ refused (7, None))
    ∷ (steps_of 2 400 (sender Running 200 200 ∷ sender (Stopped 400) 200 200 ∷ []) quiet ⟶ refused (14, None))
    ∷ (steps_of 2 400 (sender Running 200 200 ∷ sender (Stopped 400) 200 201 ∷ []) quiet ⟶ refused (7, None))
    ∷ (steps_of 2 0 (sender Running 0 0 ∷ sender Running 0 0 ∷ sender Running 1 1 ∷ []) quiet ⟶ refused (0, None))
    -- F-4: round 1 leaves both trucks 3, whose bits are 0, 0, 1, 1: both send in rounds 4 and 5, nobody becomes unwilling, and both decide in round 6
    ∷ (senders_in SixRound 1 both_active ⟶ numbers (0 ∷ 1 ∷ []))
    ∷ (senders_in SixRound 3 both_active ⟶ numbers [])
    ∷ (senders_in SixRound 4 both_active ⟶ numbers (0 ∷ 1 ∷ []))
    ∷ (senders_in SixRound 5 both_active ⟶ numbers (0 ∷ 1 ∷ []))
    ∷ (senders_in SixRound 6 both_active ⟶ numbers [])
    ∷ (leaves_in SixRound both_active ⟶ trucks (six 3 3 false (Decided 6) ∷ six 5 3 false (Decided 6) ∷ []))
    ∷ (grades_in SixRound both_active ⟶ grades_are 0 0 0 0)
    -- the same recording in two rounds: both hear two values, so both veto in round 2, and nobody proposes later
    ∷ (leaves_in TwoRound both_active ⟶ trucks (truck_of 3 3 false Running 1 1 ∷ truck_of 5 3 false Running 1 1 ∷ []))
    -- a marked truck keeps its estimate in prepare: truck 1 sends the second bit of 5, truck 0 the third of 3, so both become unwilling, and both veto
    ∷ (estimates_in SixRound 1 one_marked ⟶ numbers (3 ∷ 5 ∷ []))
    ∷ (senders_in SixRound 3 one_marked ⟶ numbers (1 ∷ []))
    ∷ (senders_in SixRound 4 one_marked ⟶ numbers (0 ∷ []))
    ∷ (senders_in SixRound 6 one_marked ⟶ numbers (0 ∷ 1 ∷ []))
    ∷ (leaves_in SixRound one_marked ⟶ trucks (six 3 3 false Running ∷ six 5 5 false Running ∷ []))
    ∷ (grades_in SixRound one_marked ⟶ grades_are 0 0 0 1)
    -- 3 and 1 differ in the third bit: after four rounds truck 1 is unwilling; it sends its last bit all the same, and vetoes, so truck 0 does not decide
    ∷ (leaves_in SixRound (0x08 ∷ 0x04 ∷ 0x31 ∷ replicate 5 0x00) ⟶ trucks (six 3 3 false Running ∷ six 1 1 true Running ∷ []))
    ∷ (senders_in SixRound 5 never_active ⟶ numbers (0 ∷ 1 ∷ []))
    ∷ (senders_in SixRound 6 never_active ⟶ numbers (1 ∷ []))
    ∷ (leaves_in SixRound never_active ⟶ trucks (six 3 3 false Running ∷ six 1 1 false Running ∷ []))
    -- where truck 1 misses that bit without a mark, both decide; in two rounds nothing is sent at all
    ∷ (leaves_in SixRound bit_missed ⟶ trucks (six 3 3 false (Decided 6) ∷ six 1 1 false (Decided 6) ∷ []))
    ∷ (grades_in SixRound bit_missed ⟶ grades_are 4 4 4 0)
    ∷ (grades_in TwoRound bit_missed ⟶ grades_are 0 0 0 0)
    -- a silent prepare: both open with 3 and decide it
    ∷ (leaves_in SixRound (0x08 ∷ 0x06 ∷ 0x33 ∷ replicate 8 0x00) ⟶ trucks (six 3 3 false (Decided 6) ∷ six 3 3 false (Decided 6) ∷ []))
    -- one truck, bits 0, 0, 0, 1: a mark in round 5 changes nothing; one in round 4 makes it unwilling, and it hears its own veto; one in accept keeps it from deciding
    ∷ (leaves_in SixRound (alone 0x0 0x00 0x02 0x00) ⟶ trucks (six 1 1 false (Decided 6) ∷ []))
    ∷ (grades_in SixRound (alone 0x0 0x00 0x02 0x00) ⟶ grades_are 0 0 0 5)
    ∷ (senders_in SixRound 6 (alone 0x0 0x00 0x20 0x00) ⟶ numbers (0 ∷ []))
    ∷ (leaves_in SixRound (alone 0x0 0x00 0x20 0x00) ⟶ trucks (six 1 1 false Running ∷ []))
    ∷ (leaves_in SixRound (alone 0x0 0x00 0x00 0x20) ⟶ trucks (six 1 1 false Running ∷ []))
    -- a stop in each round; in the last two it is unwilling before, and a truck that stops does not veto
    ∷ (leaves_in SixRound (alone 0x8 0x00 0x00 0x00) ⟶ trucks (six 1 1 false (Stopped 1) ∷ []))
    ∷ (leaves_in SixRound (alone 0x0 0x80 0x00 0x00) ⟶ trucks (six 1 1 false (Stopped 2) ∷ []))
    ∷ (leaves_in SixRound (alone 0x0 0x08 0x00 0x00) ⟶ trucks (six 1 1 false (Stopped 3) ∷ []))
    ∷ (leaves_in SixRound (alone 0x0 0x00 0x80 0x00) ⟶ trucks (six 1 1 false (Stopped 4) ∷ []))
    ∷ (leaves_in SixRound (alone 0x0 0x00 0x28 0x00) ⟶ trucks (six 1 1 false (Stopped 5) ∷ []))
    ∷ (leaves_in SixRound (alone 0x0 0x00 0x20 0x80) ⟶ trucks (six 1 1 false (Stopped 6) ∷ []))
    ∷ (senders_in SixRound 6 (alone 0x0 0x00 0x20 0x80) ⟶ numbers [])
    -- 3 and 1 again: truck 0 stops in round 4 and sends nothing, so truck 1 stays willing and decides
    ∷ (leaves_in SixRound (0x08 ∷ 0x06 ∷ 0x31 ∷ 0x00 ∷ 0x00 ∷ 0x00 ∷ 0x02 ∷ replicate 4 0x00) ⟶ trucks (six 3 3 false (Stopped 4) ∷ six 1 1 false (Decided 6) ∷ []))
    -- a record handed on: a bit round, a stop and a decision of the six-round cycle leave memory and counts; the veto round of the two-round cycle reads them
    ∷ (returns_in SixRound 1 1 (remembering Running ∷ []) quiet_one ⟶ trucks (remembering Running ∷ []))
    ∷ (returns_in SixRound 1 1 (remembering Running ∷ []) stop_one ⟶ trucks (remembering (Stopped 2) ∷ []))
    ∷ (returns_in SixRound 1 5 (remembering Running ∷ []) quiet_one ⟶ trucks (remembering (Decided 6) ∷ []))
    ∷ (returns_in TwoRound 1 1 (remembering Running ∷ []) quiet_one ⟶ trucks (sender Running 1 1 ∷ []))
    -- a proposal, a stop and a decision of the two-round cycle leave willingness; accept reads it
    ∷ (returns_in TwoRound 1 2 (six 3 3 true Running ∷ []) active_one ⟶ trucks (unwilling_one ∷ []))
    ∷ (returns_in TwoRound 1 2 (six 3 3 true Running ∷ []) stop_one ⟶ trucks (six 3 3 true (Stopped 3) ∷ []))
    ∷ (returns_in TwoRound 1 3 (unwilling_one ∷ []) quiet_one ⟶ trucks (truck_of 3 3 true (Decided 4) 1 0 ∷ []))
    ∷ (returns_in SixRound 1 5 (six 3 3 true Running ∷ []) quiet_one ⟶ trucks (six 3 3 false Running ∷ []))
    -- 7 reads each cycle's own part: a memory with two rounds done, and five proposals, are refused in two rounds alone
    ∷ (steps_in TwoRound 1 2 (remembering Running ∷ []) quiet_one ⟶ refused (7, None))
    ∷ (steps_in SixRound 1 2 (remembering Running ∷ []) quiet_one ⟶ refused (0, None))
    ∷ (steps_in TwoRound 1 2 (sender Running 5 0 ∷ []) quiet_one ⟶ refused (7, None))
    ∷ (steps_in SixRound 1 2 (sender Running 5 0 ∷ []) quiet_one ⟶ refused (0, None))
    -- an unwilling truck is refused in six rounds alone, unless it runs and 2 to 5 rounds of the cycle are done
    ∷ (steps_in TwoRound 1 1 (six 3 3 true Running ∷ []) quiet_one ⟶ refused (0, None))
    ∷ (steps_in SixRound 1 0 (six 3 3 true Running ∷ []) quiet_one ⟶ refused (7, None))
    ∷ (steps_in SixRound 1 1 (six 3 3 true Running ∷ []) quiet_one ⟶ refused (7, None))
    ∷ (steps_in SixRound 1 2 (six 3 3 true Running ∷ []) quiet_one ⟶ refused (0, None))
    ∷ (steps_in SixRound 1 5 (six 3 3 true Running ∷ []) quiet_one ⟶ refused (0, None))
    ∷ (steps_in SixRound 1 6 (six 3 3 true Running ∷ []) quiet_one ⟶ refused (7, None))
    ∷ (steps_in SixRound 1 7 (six 3 3 true Running ∷ []) quiet_one ⟶ refused (7, None))
    ∷ (steps_in SixRound 1 400 (six 3 3 true Running ∷ []) quiet_one ⟶ refused (14, None))
    ∷ (steps_in TwoRound 1 4 (six 3 3 true (Stopped 2) ∷ []) quiet_one ⟶ refused (0, None))
    ∷ (steps_in SixRound 1 4 (six 3 3 true (Stopped 2) ∷ []) quiet_one ⟶ refused (7, None))
    ∷ (steps_in SixRound 1 8 (six 3 3 true (Decided 6) ∷ []) quiet_one ⟶ refused (7, None))
    -- places n and above are not read
    ∷ (steps_in SixRound 1 0 (six 3 3 false Running ∷ six 3 3 true Running ∷ []) quiet_one ⟶ refused (0, None))
    -- a decided round: 4 and 6 in two rounds, 6 alone in six; not 0, and not past the rounds done
    ∷ (steps_in TwoRound 1 11 (six 3 3 false (Decided 4) ∷ []) quiet_one ⟶ refused (0, None))
    ∷ (steps_in SixRound 1 11 (six 3 3 false (Decided 4) ∷ []) quiet_one ⟶ refused (7, None))
    ∷ (steps_in TwoRound 1 11 (six 3 3 false (Decided 6) ∷ []) quiet_one ⟶ refused (0, None))
    ∷ (steps_in SixRound 1 11 (six 3 3 false (Decided 6) ∷ []) quiet_one ⟶ refused (0, None))
    ∷ (steps_in SixRound 1 11 (six 3 3 false (Decided 12) ∷ []) quiet_one ⟶ refused (7, None))
    ∷ (steps_in SixRound 1 11 (six 3 3 false (Decided 0) ∷ []) quiet_one ⟶ refused (7, None))
    -- C11: both roads take 180 seconds
    ∷ (takes 1200 600 90 ⟶ exactly (180, 0))
    ∷ (takes 900 300 60 ⟶ exactly (180, 0))
    ∷ (opens (1200 ∷ 900 ∷ []) (600 ∷ 300 ∷ []) (90 ∷ 60 ∷ []) ⟶ opening (0, 0 ∷ []))
    -- C12: the first road is idle; it alone; metres in no time
    ∷ (opens (500 ∷ 900 ∷ []) (0 ∷ 300 ∷ []) (40 ∷ 60 ∷ []) ⟶ opening (0, 1 ∷ []))
    ∷ (opens (500 ∷ []) (0 ∷ []) (40 ∷ []) ⟶ opening (13, []))
    ∷ (opens (500 ∷ []) (1 ∷ []) (0 ∷ []) ⟶ opening (12, []))
    -- F-2: a road of length 0 takes 0 seconds, idle or not; alone, beside a longer road, beside a longer idle one
    ∷ (takes 0 0 40 ⟶ exactly (0, 0))
    ∷ (takes 0 0 0 ⟶ exactly (0, 0))
    ∷ (takes 0 5 60 ⟶ exactly (0, 0))
    ∷ (opens (0 ∷ []) (0 ∷ []) (40 ∷ []) ⟶ opening (0, 0 ∷ []))
    ∷ (opens (900 ∷ 0 ∷ []) (300 ∷ 0 ∷ []) (60 ∷ 0 ∷ []) ⟶ opening (0, 1 ∷ []))
    ∷ (opens (500 ∷ 0 ∷ []) (0 ∷ 0 ∷ []) (40 ∷ 0 ∷ []) ⟶ opening (0, 1 ∷ []))
    -- two roads of length 0, the idle one before and after the other
    ∷ (opens (900 ∷ 0 ∷ 0 ∷ []) (300 ∷ 0 ∷ 5 ∷ []) (60 ∷ 40 ∷ 60 ∷ []) ⟶ opening (0, 1 ∷ []))
    ∷ (opens (900 ∷ 0 ∷ 0 ∷ []) (300 ∷ 5 ∷ 0 ∷ []) (60 ∷ 60 ∷ 0 ∷ []) ⟶ opening (0, 1 ∷ []))
    -- 11 and 12 are asked of length 0 too, and 12 of a longer road beside it; every road idle and longer than 0
    ∷ (opens (0 ∷ []) (0 ∷ []) (3601 ∷ []) ⟶ opening (11, []))
    ∷ (opens (0 ∷ []) (5 ∷ []) (0 ∷ []) ⟶ opening (12, []))
    ∷ (opens (500 ∷ []) (7 ∷ []) (0 ∷ []) ⟶ opening (12, []))
    ∷ (opens (0 ∷ 500 ∷ []) (0 ∷ 7 ∷ []) (40 ∷ 0 ∷ []) ⟶ opening (12, []))
    ∷ (opens (500 ∷ 1 ∷ []) (0 ∷ 0 ∷ []) (40 ∷ 0 ∷ []) ⟶ opening (13, []))
    -- 10: no roads, 17, and each list longer and shorter than the others; before 11
    ∷ (opens [] [] [] ⟶ opening (10, []))
    ∷ (opens (replicate 17 900) (replicate 17 300) (replicate 17 60) ⟶ opening (10, []))
    ∷ (opens (900 ∷ 900 ∷ []) (300 ∷ []) (60 ∷ []) ⟶ opening (10, []))
    ∷ (opens (900 ∷ []) (300 ∷ 300 ∷ []) (60 ∷ 60 ∷ []) ⟶ opening (10, []))
    ∷ (opens (900 ∷ []) (300 ∷ 300 ∷ []) (60 ∷ []) ⟶ opening (10, []))
    ∷ (opens (900 ∷ 900 ∷ []) (300 ∷ []) (60 ∷ 60 ∷ []) ⟶ opening (10, []))
    ∷ (opens (900 ∷ []) (300 ∷ []) (60 ∷ 60 ∷ []) ⟶ opening (10, []))
    ∷ (opens (900 ∷ 900 ∷ []) (300 ∷ 300 ∷ []) (60 ∷ []) ⟶ opening (10, []))
    ∷ (opens (900 ∷ []) (300 ∷ 300 ∷ []) (3601 ∷ []) ⟶ opening (10, []))
    -- 16 roads, of which the last is the fastest
    ∷ (opens (replicate 15 900 ++ (899 ∷ [])) (replicate 16 300) (replicate 16 60) ⟶ opening (0, 15 ∷ []))
    -- 11: 3,600 seconds are taken; 3,601 on a later road; before 12 on an earlier one, and before 13
    ∷ (opens (900 ∷ []) (300 ∷ []) (3600 ∷ []) ⟶ opening (0, 0 ∷ []))
    ∷ (opens (900 ∷ 900 ∷ []) (300 ∷ 300 ∷ []) (60 ∷ 3601 ∷ []) ⟶ opening (11, []))
    ∷ (opens (900 ∷ 900 ∷ []) (300 ∷ 300 ∷ []) (0 ∷ 3601 ∷ []) ⟶ opening (11, []))
    ∷ (opens (500 ∷ []) (0 ∷ []) (3601 ∷ []) ⟶ opening (11, []))
    -- 12: on a later road, also where the first is idle
    ∷ (opens (900 ∷ 900 ∷ []) (300 ∷ 300 ∷ []) (60 ∷ 0 ∷ []) ⟶ opening (12, []))
    ∷ (opens (500 ∷ 900 ∷ []) (0 ∷ 300 ∷ []) (40 ∷ 0 ∷ []) ⟶ opening (12, []))
    ∷ []
