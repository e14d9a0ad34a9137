-- `six_round` meets its contract.
use mathlib.Core.Path.{refl}
use native.Mathlib.Omega.{arith}
use Rattle.playback.proofs.six.six_round.Goals as goal

pub returns-in-0 : goal.returns-in-0
returns-in-0 c =
    let z = c.in-0.is in
    record { prepare = λ e. c.prepare.ensures; bits = λ none last. absurd (none z); accept = λ e. absurd (omega (arith, z, e)) }

pub returns-in-5 : goal.returns-in-5
returns-in-5 c =
    let z = c.in-5.is in
    record { prepare = λ e. absurd (omega (arith, z, e)); bits = λ none last. absurd (last z); accept = λ e. (c.accept.ensures, refl) }

pub returns-in_default : goal.returns-in_default
returns-in_default c =
    record {
      prepare = λ e. absurd (omega arith);
      bits = λ none last. (c.bit_round.ensures, refl);
      accept = λ e. absurd (omega arith);
    }
