-- `check_own` meets its contract: no own bit of the rounds that the loop has passed is 1.
use Rattle.std.proofs.Common.{◌≡◌, ◌+◌, ◌*◌, ◌≤◌, length, drop, get_or}
use Rattle.std.specs.Slice.Iter.{chunks_exact_rest, chunks_exact_size}
use Rattle.std.specs.Iterator.Adapters.{enumerate_source, enumerate_count}
use Rattle.recording.specs.Checks.{own_round}
use Rattle.plain.proofs.check_own.Given as goal

abbrev pub invariant-loop-r : goal.invariant-loop-r
invariant-loop-r l =
    (goal.iterator-loop-r).can_next l.r-iterator
    × (goal.iterator-loop-r).is_finite l.r-iterator
    × (chunks_exact_size (enumerate_source l.r-iterator) ≡ 3 + l.n)
    × (chunks_exact_rest (enumerate_source l.r-iterator) ≡ drop (enumerate_count l.r-iterator * (3 + l.n)) l.words)
    × (enumerate_count l.r-iterator * (3 + l.n) ≤ length l.words)
    × (own_round (λ w. get_or l.words w 0) l.n (enumerate_count l.r-iterator) ≡ enumerate_count l.r-iterator)
