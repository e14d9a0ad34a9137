-- `sent_at` meets its contract: the loop holds both counts as one number, by the words passed so far.
use mathlib.Core.Path.{◌≡◌}
use Rattle.playback.proofs.Pairs.{pair_of}
use Rattle.playback.proofs.replay.sent_at.Given as goal

abbrev pub invariant-loop-i : goal.invariant-loop-i
invariant-loop-i l = l.both ≡ pair_of l.words l.i l.p
