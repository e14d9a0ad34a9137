-- `count_up` meets its contract: the loop holds the words raised so far.
use mathlib.Core.Path.{◌≡◌}
use Rattle.counters.specs.Counters.{carried, raised}
use Rattle.counters.proofs.count_up.Given as goal

abbrev pub invariant-loop-word : goal.invariant-loop-word
invariant-loop-word l = (l.words ≡ raised l.initial.words l.who l.word-index) × (l.carry ≡ carried l.initial.words l.who l.word-index)
