-- `put_fleet` meets its contract: the first loop puts the trucks' places, the second the others.
use Prim.Native.Nat.{ℕ}
use Rattle.protocol.specs.declared.Truck.{Truck}
use Rattle.protocol.specs.Rules.{opened}
use Rattle.playback.specs.Standing.{built_by}
use Rattle.playback.proofs.Put.{Puts}
use Rattle.playback.proofs.replay.put_fleet.Given as goal

abbrev pub none : ℕ → Truck
none j = opened 0

abbrev pub invariant-loop-i : goal.invariant-loop-i
invariant-loop-i l = Puts (built_by l.t.openings l.b l.t.by l.t.ends l.t.sent) 0 l.n l.initial.d l.i l.d

abbrev pub invariant-loop-i-2 : goal.invariant-loop-i-2
invariant-loop-i-2 l = Puts none l.n 32 l.initial.d l.i l.d
