-- `own_truck` meets its contract: no truck that the loop has passed has its own bit set.
use mathlib.Core.Path.{◌≡◌, sym, ◌∙◌}
use Prim.Native.Nat.{ℕ}
use native.Mathlib.Omega.{arith}
use borrow.Author.Tests.{eq-eqb, ne_eqb}
use lib.Dec.{eqb}
use Rattle.basics.specs.Lists.{first}
use Rattle.basics.proofs.Laws.{first-none, first_step, first_found}
use Rattle.recording.specs.Packed.{bit_at, word_in}
use Rattle.recording.specs.Checks.{own_truck}
use Rattle.recording.proofs.OwnLoss.{own_searched}
use Rattle.recording.proofs.Searches.{own_packed, own-packed, bit-read}
use Rattle.recording.proofs.OwnBits.own_truck.Goals as goal
use Rattle.recording.proofs.OwnBits.own_truck.Goals.{After-place-at, After-read_at}

-- what the bit read says of the truck
read : (c : After-read_at) → eqb c.read_at.result 1 ≡ own_packed c.args.self.now.bytes.now c.place-at.result c.args.self.now.trucks c.loop-truck.truck
read c = bit-read c.args.self.now.bytes.now _ _ c.read_at.result c.read_at.ensures (rw (c.from.ensures, c.from-in-loop-truck.ensures))

-- what a search of the bits says of the trucks
searched : (c : After-place-at) (truck : ℕ) → truck ≡ first (own_packed c.args.self.now.bytes.now c.place-at.result c.args.self.now.trucks) c.args.self.now.trucks
    → own_truck (word_in (bit_at c.args.self.now.bytes.now) c.args.self.now.trucks) c.args.self.now.trucks c.args.r ≡ truck
searched c =
    let own = c.args.self.now in
    let n = own.trucks in
    own_searched (word_in (bit_at own.bytes.now) n) n c.args.r (own_packed own.bytes.now c.place-at.result n)
    (own-packed own.bytes.now n c.args.r c.place-at.result c.place-at.ensures)

pub loop-truck-init : goal.loop-truck-init
loop-truck-init c = first-none (own_packed c.args.self.now.bytes.now c.place-at.result c.args.self.now.trucks)

pub returns-then-read_at-eq1 : goal.returns-then-read_at-eq1
returns-then-read_at-eq1 c =
    let own = c.args.self.now in
    let l = c.loop-truck in
    let at = goal.at.returns-then-read_at-eq1 c in (
      omega arith,
      searched at.After-place-at l.truck
          (sym (first_found (own_packed own.bytes.now c.place-at.result own.trucks) own.trucks l.truck (omega arith) l.invariant
          (sym (read at.After-read_at) ∙ eq-eqb c.read_at.result 1 c.if-read_at-eq1.true))),
    )

pub loop-truck-preserved : goal.loop-truck-preserved
loop-truck-preserved c =
    let own = c.args.self.now in
    let l = c.loop-truck in
    first_step (own_packed own.bytes.now c.place-at.result own.trucks) l.truck l.invariant
    (sym (read (goal.at.loop-truck-preserved c).After-read_at) ∙ ne_eqb c.read_at.result 1 c.if-read_at-eq1.false)

pub returns : goal.returns
returns c =
    let own = c.args.self.now in
    let all : c.loop-truck.truck ≡ own.trucks = omega arith in
    searched (goal.at.returns c).After-place-at own.trucks (sym (rw all at c.loop-truck.invariant))
