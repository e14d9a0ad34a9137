-- `end_bit` meets its contract: the number of the bits left over is 0 exactly where each of them is.
use Prim.Native.Nat.{◌*◌, ◌-◌}
use native.Mathlib.Nat.{min-eq_left}
use native.Mathlib.Omega.{arith}
use mathlib.Core.Path.{ap, ◌∙◌}
use lib.ListN.{length}
use Rattle.bitreader.proofs.Digits.{bit_at_lt}
use Rattle.recording.specs.Packed.{bit_at, num_at}
use Rattle.recording.proofs.Searches.{number_tests}
use Rattle.recording.proofs.end_bit.Goals as goal

pub returns : goal.returns
returns c =
    let a = c.args in
    let s = a.s.now in
    let k = 8 * length s - a.total in
    number_tests (bit_at s) (bit_at_lt s) a.total k c.read_at.result
    (c.read_at.ensures ∙ ap (num_at (bit_at s) a.total) (min-eq_left (omega arith)))
