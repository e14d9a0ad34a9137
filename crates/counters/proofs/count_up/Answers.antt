-- `count_up` meets its contract: the loop ends where nothing is carried, or after the last word.
use mathlib.Core.Path.{◌≡◌, refl, ap, ap₂, sym, ◌∙◌}
use mathlib.Core.List.{List}
use Prim.Native.Nat.{ℕ, suc, ◌+◌, ◌-◌}
use native.Mathlib.Numerals.{add-one}
use native.Mathlib.Omega.{arith}
use lib.Bits.{bit_and, bit_xor, and_comm}
use lib.ListN.{get_or, set}
use lib.Seq.{set-get_or}
use Rattle.counters.specs.Counters.{carried, raised}
use Rattle.counters.proofs.Counts.{raised-next, carried-next, raised-done}
use Rattle.counters.proofs.count_up.Goals as goal

pub loop-word-init : goal.loop-word-init
unfolding carried raised
loop-word-init c = (refl, refl)

pub loop-word-preserved : goal.loop-word-preserved
loop-word-preserved c =
    let l = c.loop-word in
    let a = c.args in
    let i = l.word-index in
    let more : suc i ≡ i + 1 = sym (add-one i) in (
      ap₂ (λ (x : List ℕ) (y : ℕ). set x i (bit_xor (get_or x i 0) y)) l.invariant.0 l.invariant.1
          ∙ sym (raised-next a.words.now a.who i)
          ∙ ap (raised a.words.now a.who) more,
      and_comm l.carry (get_or l.words i 0)
          ∙ ap₂ (λ (x : List ℕ) (y : ℕ). bit_and (get_or x i 0) y) l.invariant.0 l.invariant.1
          ∙ sym (carried-next a.words.now a.who i)
          ∙ ap (carried a.words.now a.who) more,
    )

pub returns-then-carry-eq0 : goal.returns-then-carry-eq0
returns-then-carry-eq0 c =
    let l = c.loop-word in
    let a = c.args in
    let i = l.word-index in
    set-get_or l.words i 0
    ∙ l.invariant.0
    ∙ sym (raised-done a.words.now a.who i (8 - i) (sym l.invariant.1 ∙ c.if-carry-eq0.true)).1
    ∙ ap (raised a.words.now a.who) (let z : i + (8 - i) ≡ 8 = omega arith in z)
