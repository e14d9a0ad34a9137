-- `everyone` meets its contract.
use native.Mathlib.Omega.{arith}
use lib.Pow.{pow_pos}
use Rattle.bitreader.proofs.Digits.{one_shifted}
use Rattle.playback.proofs.Places.{everyone_lt, everyone_is}
use Rattle.playback.proofs.replay.everyone.Goals as goal

pub overflow_sub-result : goal.overflow_sub-result
overflow_sub-result c = rw (one_shifted c.args.n (omega (arith, c.requires))) (pow_pos c.args.n)

pub overflow_cast-result : goal.overflow_cast-result
overflow_cast-result c = rw (everyone_is c.args.n c.requires) (record { fits = everyone_lt c.args.n c.requires })

pub returns : goal.returns
returns c = everyone_is c.args.n c.requires
