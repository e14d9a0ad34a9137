-- `read_front` meets its contract: the openings read so far stand in their places, and the reader is at the place of the next one.
use mathlib.Core.Path.{◌≡◌, ap, ap₂, sym, ◌∙◌}
use mathlib.Core.List.{List}
use Prim.Native.Nat.{ℕ, min}
use native.Mathlib.Omega.{arith}
use mathlib.Core.List.{◌++◌}
use lib.ListN.{length, drop, length-take}
use Rattle.std.proofs.lemmas.List.{take-append-drop, set-append_left}
use Rattle.basics.specs.Lists.{filled}
use Rattle.basics.proofs.Laws.{filled_none, fill_step}
use Rattle.bitreader.specs.declared.Reader.{Reader}
use Rattle.bitreader.specs.Bits.{num_at, bits_read, place_after, moved_by}
use Rattle.recording.specs.Packed.{bit_at, trucks_of, rounds_of, opening_place, opening_at}
use Rattle.recording.proofs.Fronts.{after-counts, after-opening, trucks-lt, rounds_lt, opening-lt}
use Rattle.recording.proofs.read_front.Goals as goal
use Rattle.recording.proofs.read_front.Goals.{After-take-trucks, After-take-rounds, After-take}

-- a reader of s at place p, and what it says of k bits
module _ (s : List ℕ) (r : Reader) (p k : ℕ) (b : r.bytes.now ≡ s) (a : r.at ≡ p) where
  taken : (v : ℕ) → v ≡ num_at (bit_at r.bytes.now) r.at (bits_read k) → v ≡ num_at (bit_at s) p (bits_read k)
  taken v e = e ∙ ap₂ (λ (t : List ℕ) (q : ℕ). num_at (bit_at t) q (bits_read k)) b a

  moved : (n : Reader) → n ≡ moved_by r k → (n.bytes.now ≡ s) × (n.at ≡ place_after p k)
  moved n e = (ap (λ (m : Reader). m.bytes.now) e ∙ b, ap (λ (m : Reader). m.at) e ∙ ap (λ (q : ℕ). place_after q k) a)

trucks-read : (c : After-take-trucks) → (c.take-trucks.result ≡ trucks_of c.args.s.now) × (c.take-trucks.new.self.bytes.now ≡ c.args.s.now) × (c.take-trucks.new.self.at ≡ place_after 0 6)
unfolding trucks_of
trucks-read c =
    let b : c.new-r.result.bytes.now ≡ c.args.s.now = ap (λ x. x.now) c.new-r.ensures.0 in
    let m = moved c.args.s.now c.new-r.result 0 6 b c.new-r.ensures.1 c.take-trucks.new.self c.take-trucks.ensures.1 in
    (taken c.args.s.now c.new-r.result 0 6 b c.new-r.ensures.1 c.take-trucks.result c.take-trucks.ensures.0, m.0, m.1)

pub overflow_cast-trucks : goal.overflow_cast-trucks
overflow_cast-trucks c = omega (arith, (trucks-read c).0, trucks-lt c.args.s.now)

rounds-read : (c : After-take-rounds) → (c.take-rounds.result ≡ rounds_of c.args.s.now) × (c.take-rounds.new.self.bytes.now ≡ c.args.s.now) × (c.take-rounds.new.self.at ≡ opening_place 0)
unfolding rounds_of
rounds-read c =
    let t = trucks-read (goal.at.overflow_cast-rounds c).After-take-trucks in
    let m = moved c.args.s.now c.take-trucks.new.self (place_after 0 6) 10 t.1 t.2 c.take-rounds.new.self c.take-rounds.ensures.1 in
    (taken c.args.s.now c.take-trucks.new.self (place_after 0 6) 10 t.1 t.2 c.take-rounds.result c.take-rounds.ensures.0, m.0, m.1 ∙ after-counts)

pub overflow_cast-rounds : goal.overflow_cast-rounds
overflow_cast-rounds c = omega (arith, (rounds-read c).0, rounds_lt c.args.s.now)

pub loop-opening-init : goal.loop-opening-init
loop-opening-init c =
    let t = rounds-read (goal.at.loop-opening-init c).After-take-rounds in
    (t.1, t.2, take-append-drop c.min-end.result c.args.openings.now ∙ sym (filled_none (opening_at c.args.s.now) c.args.openings.now))

opening-read : (c : After-take) → c.take.result ≡ opening_at c.args.s.now c.loop-opening.opening-index
unfolding opening_at
opening-read c =
    let l = c.loop-opening in
    taken c.args.s.now l.r (opening_place l.opening-index) 4 l.invariant.0 l.invariant.1 c.take.result c.take.ensures.0

pub overflow_cast-opening : goal.overflow_cast-opening
overflow_cast-opening c = omega (arith, opening-read c, opening-lt c.args.s.now c.loop-opening.opening-index)

pub loop-opening-preserved : goal.loop-opening-preserved
loop-opening-preserved c =
    let l = c.loop-opening in
    let s = c.args.s.now in
    let xs = c.args.openings.now in
    let past = drop c.min-end.result xs in
    let m = moved s l.r (opening_place l.opening-index) 4 l.invariant.0 l.invariant.1 c.take.new.self c.take.ensures.1 in
    let t = (trucks-read (goal.at.loop-opening-preserved c).After-take-trucks).0 in
    let long = length-take c.min-end.result xs in (
      m.0,
      m.1 ∙ after-opening l.opening-index (omega (arith, t, long, trucks-lt s)),
      sym (set-append_left l.opening-items past l.opening-index c.take.result (omega arith))
          ∙ fill_step (opening_at s) xs (l.opening-items ++ past) l.opening-index l.invariant.2 c.take.result (omega (arith, long)) (opening-read c),
    )

pub returns : goal.returns
returns c =
    let l = c.loop-opening in
    let s = c.args.s.now in
    let xs = c.args.openings.now in
    let r = (rounds-read (goal.at.returns c).After-take-rounds).0 in
    let t = (trucks-read (goal.at.returns c).After-take-trucks).0 in
    let all : l.opening-index ≡ min (trucks_of s) (length xs) = omega (arith, t, length-take c.min-end.result xs) in
    (ap₂ (λ (n k : ℕ). record { trucks = n; rounds = k }) t r, l.invariant.2 ∙ ap (λ (i : ℕ). filled (opening_at s) i xs) all)
