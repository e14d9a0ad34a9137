-- `put` meets its contract: the loop holds that the head and the places passed are in the buffer.
use mathlib.Core.Path.{◌≡◌}
use Prim.Native.Nat.{◌/◌, ◌%◌}
use native.Mathlib.Omega.{arith}
use borrow.Author.Rules.{rules}
use lib.ListN.{get_or}
use Rattle.recordbytes.proofs.Laws.{head_filled, put_more}
use Rattle.recordbytes.proofs.put.Goals as goal

pub loop-i-init : goal.loop-i-init
loop-i-init c =
    let a = c.args in
    let low : get_or c.to_le_bytes.result 0 0 ≡ a.f.done % 256 = search rules in
    let high : get_or c.to_le_bytes.result 1 0 ≡ a.f.done / 256 = search rules in
    rw (low, high) (head_filled a.f a.d.now c.requires.1)

pub loop-i-preserved : goal.loop-i-preserved
loop-i-preserved c =
    let a = c.args in
    let l = c.loop-i in
    put_more a.f a.d.now c.requires.1 l.d l.i (omega arith) l.invariant c.put_truck.new.d c.put_truck.ensures
