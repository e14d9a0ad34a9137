-- `own_mask` meets its contract: the bits of the mask are those of the trucks that the loop has passed.
use mathlib.Core.Path.{refl, ◌∙◌}
use Prim.Native.Nat.{◌+◌, ◌*◌, ◌/◌, ◌%◌, ◌^◌}
use native.Mathlib.Omega.{arith}
use lib.Bits.{bit_or}
use lib.ListN.{get_or, length-set}
use Rattle.recording.proofs.Masks.{mask_begins, mask_more}
use Rattle.recording.proofs.Searches.{own-near}
use Rattle.recording.proofs.own_mask.Goals as goal

pub loop-i-init : goal.loop-i-init
loop-i-init c = (refl, mask_begins 136 c.args.at c.args.n)

pub loop-i-preserved : goal.loop-i-preserved
loop-i-preserved c =
    let a = c.args in
    let l = c.loop-i in
    let p = a.at + l.i * (a.n + 1) in (
      length-set l.mask (p / 8) (bit_or (get_or l.mask (p / 8) 0) (128 / 2 ^ (p % 8))) ∙ l.invariant.0,
      mask_more l.mask a.at a.n l.i p (omega (arith, l.invariant.0, own-near a.n l.i (omega arith) (omega arith))) refl l.invariant.1,
    )
