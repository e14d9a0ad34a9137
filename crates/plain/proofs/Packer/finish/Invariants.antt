-- `finish` meets its contract: the loop holds the buffer with the bytes so far.
use Rattle.std.proofs.Common.{◌≡◌}
use Rattle.plain.specs.Steps.{over, byte_of}
use Rattle.plain.proofs.Packer.finish.Given as goal

abbrev pub invariant-loop-j : goal.invariant-loop-j
invariant-loop-j l = l.buf ≡ over (byte_of l.all l.digits) l.at l.j l.initial.buf
