-- `finish` meets its contract: the loop holds the buffer with the bytes so far.
use Prim.Native.Nat.{◌+◌, ◌*◌, ◌%◌, ◌^◌}
use Rattle.plain.specs.Steps.{byte_of}
use Rattle.plain.proofs.Putting.{over_none, over_step}
use Rattle.plain.proofs.Packer.finish.Goals as goal

pub loop-j-init : goal.loop-j-init
loop-j-init c =
    let p = c.args.self in
    over_none (byte_of (p.acc * 2 ^ 7 % 2 ^ 64) (p.have + 7)) p.at p.buf.now

pub loop-j-preserved : goal.loop-j-preserved
loop-j-preserved c =
    let p = c.args.self in
    over_step (byte_of (p.acc * 2 ^ 7 % 2 ^ 64) (p.have + 7)) p.at c.loop-j.j p.buf.now c.loop-j.buf c.loop-j.invariant
