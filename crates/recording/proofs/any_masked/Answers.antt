-- `any_masked` meets its contract: the union is not 0 exactly where a byte that the loop has passed has a bit of the mask.
use mathlib.Core.Path.{◌≡◌, sym, ◌∙◌}
use native.Mathlib.Omega.{arith}
use lib.ListN.{length}
use Rattle.basics.proofs.Laws.{some-none}
use Rattle.recording.proofs.Masks.{masked, masked_more, masked-bits}
use Rattle.recording.proofs.any_masked.Goals as goal

pub loop-j-init : goal.loop-j-init
loop-j-init c = sym (some-none (masked c.args.bytes.now c.args.mask.now))

pub loop-j-preserved : goal.loop-j-preserved
loop-j-preserved c = masked_more c.args.bytes.now c.args.mask.now c.loop-j.j c.loop-j.any c.loop-j.invariant

pub returns : goal.returns
returns c =
    let bytes = c.args.bytes.now in
    let all : c.loop-j.j ≡ length bytes = omega arith in
    rw all at c.loop-j.invariant ∙ masked-bits bytes c.args.mask.now (length bytes) (λ q. omega (arith, c.type_inv.bytes q))
