-- `check_own` meets its contract: no own bit of the rounds that the loop has passed is 1.
use Rattle.std.proofs.Common.{◌≡◌, true, false, ◌+◌, ◌*◌, ◌/◌, ℕ, List, length, drop, get_or, sym, ap, subst, ◌∙◌, arith, rules}
use Rattle.std.specs.Slice.Iter.{chunks_exact_rest, chunks_exact_size}
use Rattle.std.specs.Iterator.Adapters.{enumerate_source, enumerate_count}
use Rattle.basics.proofs.Laws.{first-le}
use Rattle.recording.specs.Checks.{own_round}
use Rattle.recording.proofs.OwnLoss.{own_begins, own_passes, own_found, own-ends}
use Rattle.plain.proofs.Chunks.{Taken, rows, rows_count, rest-there, round_fits, round_counted, rounds_passed}
use Rattle.plain.specs.Steps.{own_in_rows}
use Rattle.plain.proofs.Tests.{plain_looked, plain_searched}
use Rattle.plain.proofs.check_own.Goals as goal
use Rattle.plain.proofs.check_own.Goals.{After-own_truck}

-- the round that the turn took off the words
taken : (c : After-own_truck) → Taken c.args.words.now c.args.n (enumerate_count c.loop-r.r-iterator) c.in-Some.round.now (chunks_exact_rest (enumerate_source c.next.new.self))
taken c =
    let step = c.in-Some.ensures.steps in
    let i = c.loop-r.invariant in
    record { front = sym i.3 ∙ step.0.1.0; whole = step.0.1.1 ∙ i.2 }

pub loop-r-init : goal.loop-r-init
loop-r-init c =
    let n : ℕ = c.args.n in
    let made = c.into_iter-r-iterator.ensures.into_iter_gives in
    let source = ap enumerate_source made ∙ c.enumerate-r-items.ensures.source in
    let count = ap enumerate_count made ∙ c.enumerate-r-items.ensures.count in
    let none : enumerate_count c.into_iter-r-iterator.result * (3 + n) ≡ 0 = omega (arith, ap (λ (k : ℕ). k * (3 + n)) count) in (
      search rules,
      search rules,
      ap chunks_exact_size source ∙ c.chunks_exact.ensures.size,
      ap chunks_exact_rest source ∙ c.chunks_exact.ensures.rest ∙ ap (λ (k : ℕ). drop k c.args.words.now) (sym none),
      omega (arith, none),
      subst (λ (q : ℕ). own_round (λ (w : ℕ). get_or c.args.words.now w 0) n q ≡ q) (sym count) (own_begins (λ (w : ℕ). get_or c.args.words.now w 0) n),
    )

pub overflow_cast-result-in-Some-own_truck : goal.overflow_cast-result-in-Some-own_truck
overflow_cast-result-in-Some-own_truck c =
    let t = taken (goal.at.overflow_cast-result-in-Some-own_truck c).After-own_truck in
    let part : List ℕ = rows c.in-Some.round.now c.min-held.result in
    omega (arith, c.min-held.ensures, c.in-Some-own_truck.ensures.1, first-le (own_in_rows part) (length part), rows_count t c.min-held.result (omega (arith, c.min-held.ensures)))

pub returns-in-Some-own_truck : goal.returns-in-Some-own_truck
returns-in-Some-own_truck c =
    let t = taken (goal.at.returns-in-Some-own_truck c).After-own_truck in
    let i = c.loop-r.invariant in
    let words : List ℕ = c.args.words.now in
    let q : ℕ = enumerate_count c.loop-r.r-iterator in
    let truck = c.in-Some-own_truck.ensures in
    own_found (λ (w : ℕ). get_or words w 0) c.args.n c.args.k (length words / (3 + c.args.n)) q (c.args.k + c.in-Some.r) c.in-Some-own_truck.truck
    (round_counted t) i.5
    (plain_looked t c.min-held.result (λ k. omega (arith, c.type_inv.words k)) c.min-held.ensures true truck.0)
    (plain_searched t c.min-held.result (λ k. omega (arith, c.type_inv.words k)) c.min-held.ensures c.in-Some-own_truck.truck truck.0 truck.1)
    (omega (arith, c.in-Some.ensures.steps.1))

pub loop-r-preserved : goal.loop-r-preserved
loop-r-preserved c =
    let t = taken (goal.at.loop-r-preserved c).After-own_truck in
    let step = c.in-Some.ensures.steps in
    let i = c.loop-r.invariant in
    let n : ℕ = c.args.n in
    let word : ℕ → ℕ = λ (w : ℕ). get_or c.args.words.now w 0 in
    let next = step.2 in (
      search rules,
      search rules,
      step.0.0 ∙ i.2,
      rest-there t ∙ ap (λ (k : ℕ). drop (k * (3 + n)) c.args.words.now) (sym next),
      omega (arith, round_fits t, ap (λ (k : ℕ). k * (3 + n)) next),
      subst (λ (q : ℕ). own_round word n q ≡ q) (sym next)
          (own_passes word n (enumerate_count c.loop-r.r-iterator) i.5 (plain_looked t c.min-held.result (λ k. omega (arith, c.type_inv.words k)) c.min-held.ensures false c.in_default.ensures)),
    )

pub returns : goal.returns
returns c =
    let step = c.in-None.ensures.steps in
    let i = c.loop-r.invariant in
    let words : List ℕ = c.args.words.now in
    let q : ℕ = enumerate_count c.loop-r.r-iterator in
    own-ends (λ (w : ℕ). get_or words w 0) c.args.n c.args.k (length words / (3 + c.args.n)) q
    (rounds_passed words c.args.n q i.4 (omega (arith, step.0.1.0, i.2, ap length i.3))) i.5
