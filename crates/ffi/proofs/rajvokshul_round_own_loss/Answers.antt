-- `rajvokshul_round_own_loss` meets its contract: a law for each return.
use mathlib.Core.Bool.{◌||◌}
use native.Mathlib.Omega.{arith}
use lib.Dec.{eqb}
use Rattle.ffi.proofs.OwnLoss.{round-none, round-few, round-own}
use Rattle.ffi.proofs.rajvokshul_round_own_loss.Goals as goal

pub overflow_cast-round : goal.overflow_cast-round
overflow_cast-round c =
    let k = c.args.round in
    omega (arith, round-few (c.bad_trucks.result || eqb k 0) k c.if-bad_trucks-round.false)

pub returns-then-bad_trucks-round : goal.returns-then-bad_trucks-round
returns-then-bad_trucks-round c = search round-none

pub returns : goal.returns
returns c = search round-own
