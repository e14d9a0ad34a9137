-- `own_any` meets its contract: the bit worth 128 of the union says whether a truck that the loop has passed has its own bit set.
use mathlib.Core.Path.{◌≡◌, ap, sym, ◌∙◌}
use Prim.Native.Nat.{ℕ, ◌+◌, ◌*◌, ◌%◌, ◌^◌}
use native.Mathlib.Omega.{arith}
use lib.Bits.{bit_or}
use lib.ListN.{length}
use Rattle.basics.specs.Bits.{bit}
use Rattle.basics.proofs.Laws.{some-none}
use Rattle.recording.specs.Packed.{bit_at, word_in}
use Rattle.recording.proofs.OwnLoss.{own_looked}
use Rattle.recording.proofs.Searches.{own_packed, own-packed, own-near, union_more, within_rows}
use Rattle.recording.proofs.Sizes.{rounds_within, rows_within}
use Rattle.recording.proofs.OwnBits.own_any.Goals as goal

pub loop-truck-init : goal.loop-truck-init
loop-truck-init c = (omega arith, sym (some-none (own_packed c.args.self.now.bytes.now c.place-p.result c.args.self.now.trucks)))

pub bounds-self-p : goal.bounds-self-p
bounds-self-p c =
    let own = c.args.self.now in
    let l = c.loop-truck in
    let rows = rows_within own.trucks own.rounds c.args.r c.place-p.result (8 * length own.bytes.now) c.requires c.place-p.ensures own.all_there in
    let p = l.invariant.0 ∙ ap (λ (n : ℕ). c.place-p.result + l._truck * (n + 1)) c.from-n.ensures in
    omega (arith, p, rows, within_rows own.trucks l._truck (omega arith))

pub overflow_add-p-in-loop-truck : goal.overflow_add-p-in-loop-truck
overflow_add-p-in-loop-truck c =
    let own = c.args.self.now in
    let l = c.loop-truck in
    let p = l.invariant.0 ∙ ap (λ (n : ℕ). c.place-p.result + l._truck * (n + 1)) c.from-n.ensures in
    omega (arith, p, own.few_rounds, rounds_within own.trucks c.args.r own.few_trucks (omega arith), own-near own.trucks l._truck own.few_trucks (omega arith))

pub loop-truck-preserved : goal.loop-truck-preserved
loop-truck-preserved c =
    let own = c.args.self.now in
    let l = c.loop-truck in (
      omega (arith, l.invariant.0),
      ap (λ (v : ℕ). bit (bit_or l.any (v * 2 ^ (l.p % 8) % 2 ^ 32)) 7) c.from.ensures
          ∙ union_more own.bytes.now c.place-p.result own.trucks l._truck l.p l.any (omega (arith, c.type_inv.self))
          (l.invariant.0 ∙ ap (λ (n : ℕ). c.place-p.result + l._truck * (n + 1)) c.from-n.ensures) l.invariant.1,
    )

pub returns : goal.returns
returns c =
    let own = c.args.self.now in
    let n = own.trucks in
    let all : c.loop-truck._truck ≡ n = omega arith in
    sym
    (own_looked (word_in (bit_at own.bytes.now) n) n c.args.r (own_packed own.bytes.now c.place-p.result n)
    (own-packed own.bytes.now n c.args.r c.place-p.result c.place-p.ensures) _ (rw all at c.loop-truck.invariant.1))
