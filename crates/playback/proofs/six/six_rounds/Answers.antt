-- `six_rounds` meets its contract: before each turn of the loop the run stands after k rounds.
use mathlib.Core.Path.{◌≡◌, refl, subst}
use Prim.Native.Nat.{ℕ, ◌+◌, ◌-◌}
use native.Mathlib.Omega.{arith}
use borrow.Author.Rules.{rules}
use Rattle.recording.specs.Packed.{round_at}
use Rattle.protocol.specs.Six.{six_rules}
use Rattle.playback.specs.Standing.{Due}
use Rattle.playback.proofs.HaltsSix.{six-on, six_room, six-next, six-graded, six_halts}
use Rattle.playback.proofs.six.six_rounds.Goals as goal

pub loop-k-init : goal.loop-k-init
loop-k-init c =
    let p = c.requires in
    let a = c.args in
    let t = a.t.now in (
      search rules,
      (
        subst (λ (x : ℕ). Due six_rules (round_at a.s.now) a.s.now a.first a.n x 0 t.by t.ends t.sent a.all 0 0 0 0 0 0) (let e : a.rounds ≡ a.rounds - 0 = omega arith in e) p.0,
        (p.1, refl),
      ),
    )

pub six_round-q-requires : goal.six_round-q-requires
six_round-q-requires c = let r = six_room c.args.rounds c.loop-k.k c.loop-k.invariant.1.0 c.loop-k-test.true in (r.0, (omega (arith, r), omega arith))

pub judged-requires : goal.judged-requires
judged-requires c = let r = six_room c.args.rounds c.loop-k.k c.loop-k.invariant.1.0 c.loop-k-test.true in (r.0, omega (arith, r))

pub overflow_add-at : goal.overflow_add-at
overflow_add-at c = record { fits = omega (arith, six_room c.args.rounds c.loop-k.k c.loop-k.invariant.1.0 c.loop-k-test.true) }

pub overflow_mul-at : goal.overflow_mul-at
overflow_mul-at c = record { fits = omega (arith, six_room c.args.rounds c.loop-k.k c.loop-k.invariant.1.0 c.loop-k-test.true) }

pub overflow_add-at-in-loop-k-2 : goal.overflow_add-at-in-loop-k-2
overflow_add-at-in-loop-k-2 c = record { fits = omega (arith, six_room c.args.rounds c.loop-k.k c.loop-k.invariant.1.0 c.loop-k-test.true) }

pub loop-k-preserved : goal.loop-k-preserved
loop-k-preserved c =
    let l = c.loop-k in
    let a = c.args in
    let i = l.invariant.1 in
    let on = six-on c.args.rounds c.loop-k.k i.0 c.loop-k-test.true in
    let r = six_room c.args.rounds c.loop-k.k i.0 c.loop-k-test.true in
    let q = c.six_round-q in
    let w = c.without in
    let e = c.ended in (
      omega (arith, r.1.1.1.0),
      (
        six-next i.0 on q.ensures w.result e.new.ends (a.rounds - (l.k + 1)) w.ensures e.ensures (omega arith),
        (six-graded i.0 on q.ensures a.judging i.1.0 c.judged.ensures, i.1.1),
      ),
    )

pub returns : goal.returns
returns c =
    let i = c.loop-k.invariant in
    (six_halts i.1.0 c.args.rounds i.0 refl c.loop-k-test.false, i.1.1)
