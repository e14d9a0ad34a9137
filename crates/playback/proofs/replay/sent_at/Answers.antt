-- `sent_at` meets its contract: the loop holds both counts as one number, by the words passed so far.
use mathlib.Core.Path.{◌≡◌, refl, ap, ap₂, ◌∙◌}
use mathlib.Core.List.{List}
use Prim.Native.Nat.{ℕ, ◌+◌, ◌*◌, ◌/◌, ◌%◌, ◌^◌, ◌<◌, ◌≤◌}
use native.Mathlib.Omega.{arith}
use lib.Bits.{bit_and}
use lib.ListN.{length, get_or, take}
use Rattle.std.proofs.lemmas.List.{length-take-le, get_or-take}
use Rattle.counters.specs.Counters.{tally}
use Rattle.playback.specs.Standing.{sent_by}
use Rattle.playback.proofs.Pairs.{pair_of, pair_next, pair_lt, pair_low, pair_high}
use Rattle.playback.proofs.replay.sent_at.Goals as goal

module _ (words : List ℕ) (both i m p : ℕ) (most : m ≤ 8) (long : length words ≡ 8) where
  taken : length (take m words) ≡ m
  taken = length-take-le m words (omega (arith, most, long))

  -- one word more of the first m
  pair-taken : i < length (take m words) → both ≡ pair_of words i p
      → both + bit_and (get_or (take m words) i 0 / 2 ^ p) 4294967297 * 2 ^ i % 18446744073709551616 ≡ pair_of words (i + 1) p
  pair-taken l e = rw (get_or-take m words i 0 (omega (arith, l, taken))) (pair_next words both i p (omega (arith, l, taken, most)) e)

pub loop-i-init : goal.loop-i-init
unfolding tally
loop-i-init c = refl

pub overflow_add-both : goal.overflow_add-both
overflow_add-both c =
    let l = c.loop-i in
    let a = c.args in
    let r = c.requires in
    let t = taken a.words.now l.both l.i a.m a.p r.0 c.told-words in
    record { fits = omega (arith, pair-taken a.words.now l.both l.i a.m a.p r.0 c.told-words c.loop-i-test.true l.invariant, pair_lt a.words.now (l.i + 1) a.p (omega (arith, c.loop-i-test.true, r.0, t))) }

pub loop-i-preserved : goal.loop-i-preserved
loop-i-preserved c =
    let l = c.loop-i in
    let a = c.args in
    pair-taken a.words.now l.both l.i a.m a.p c.requires.0 c.told-words c.loop-i-test.true l.invariant

pub overflow_cast-result : goal.overflow_cast-result
overflow_cast-result c =
    let l = c.loop-i in
    let a = c.args in
    let r = c.requires in
    let t = taken a.words.now l.both l.i a.m a.p r.0 c.told-words in
    record { fits = (pair_low a.words.now l.both l.i a.p (omega (arith, l.auto.i-end, r.0, t)) l.invariant).0 }

pub overflow_cast-result-2 : goal.overflow_cast-result-2
overflow_cast-result-2 c =
    let l = c.loop-i in
    let a = c.args in
    let r = c.requires in
    let t = taken a.words.now l.both l.i a.m a.p r.0 c.told-words in
    record { fits = (pair_high a.words.now l.both l.i a.p (omega (arith, l.auto.i-end, r.0, t)) l.invariant).0 }

pub returns : goal.returns
returns c =
    let l = c.loop-i in
    let a = c.args in
    let r = c.requires in
    let t = taken a.words.now l.both l.i a.m a.p r.0 c.told-words in
    let all : l.i ≡ a.m = omega (arith, l.auto.i-end, c.loop-i-test.false, t) in
    let most : l.i ≤ 8 = omega (arith, all, r.0) in
    ap₂ (λ (x y : ℕ). record { proposals = x; vetoes = y })
    (pair_low a.words.now l.both l.i a.p most l.invariant).1
    (pair_high a.words.now l.both l.i a.p most l.invariant).1
    ∙ ap (λ (k : ℕ). sent_by a.words.now k a.p) all
