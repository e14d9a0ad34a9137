-- `missing` meets its contract.
use mathlib.Core.Path.{◌≡◌, ap}
use mathlib.Core.Bool.{Bool, cond, ◌&&◌}
use Prim.Native.Nat.{ℕ}
use lib.Bits.{bit_or}
use Rattle.basics.specs.Bits.{bit}
use Rattle.sets.specs.Sets.{Members}
use Rattle.playback.specs.Grading.{heard_at, misses_some, misses_all, misses_half}
use Rattle.playback.proofs.Asking.{Asking, next_is, asking-starts, asking_more, asking-done}
use Rattle.playback.proofs.grading.missing.Invariants.{asked}
use Rattle.playback.proofs.grading.missing.Goals as goal

pub loop-p-init : goal.loop-p-init
loop-p-init c =
    let a = c.args in
    let start : (f : ℕ → Bool) → Asking a.wanted (asked f a.s.now a.at a.n a.senders) a.wanted 0 = λ f. asking-starts a.wanted (asked f a.s.now a.at a.n a.senders) in
    rw (c.into_iter-p-iterator.ensures.into_iter_gives, c.members_of-p-items.ensures)
    (tt, tt, start (misses_some a.senders), start (misses_all a.senders), start (misses_half a.senders))

pub heard_of-heard-requires : goal.heard_of-heard-requires
heard_of-heard-requires c = (c.requires.0, (c.requires.1, c.in-Some.ensures.steps.below))

pub loop-p-preserved : goal.loop-p-preserved
loop-p-preserved c =
    let a = c.args in
    let l = c.loop-p in
    let h = c.heard_of-heard in
    let w = c.with_truck-m in
    let next = next_is c.in-Some.ensures.steps c.only.ensures in
    let more : (f : ℕ → Bool) (set set' : ℕ) → set' ≡ cond (f h.result) (bit_or set c.only.result) set
    → Asking a.wanted (asked f a.s.now a.at a.n a.senders) l.p-iterator.left set
    → Asking a.wanted (asked f a.s.now a.at a.n a.senders) c.next.new.self.left set'
    = λ f set set' e m. asking_more a.wanted (asked f a.s.now a.at a.n a.senders) next (f h.result) (ap f h.ensures) e m in (
      tt,
      tt,
      more (misses_some a.senders) l.m.some w.result.some w.ensures.0 l.invariant.2,
      more (misses_all a.senders) l.m.all w.result.all w.ensures.1.0 l.invariant.3,
      more (misses_half a.senders) l.m.half w.result.half w.ensures.1.1 l.invariant.4,
    )

pub returns : goal.returns
returns c =
    let a = c.args in
    let i = c.loop-p.invariant in
    let all : (f : ℕ → Bool) (set : ℕ) → Asking a.wanted (asked f a.s.now a.at a.n a.senders) c.loop-p.p-iterator.left set
    → Members set 32 (λ p. bit a.wanted p && f (heard_at a.s.now a.at a.n a.senders p))
    = λ f set m. asking-done a.wanted (asked f a.s.now a.at a.n a.senders) m c.in-None.ensures.steps.0 in
    let m = c.loop-p.m in (
      all (misses_some a.senders) m.some i.2,
      (all (misses_all a.senders) m.all i.3, all (misses_half a.senders) m.half i.4),
    )
