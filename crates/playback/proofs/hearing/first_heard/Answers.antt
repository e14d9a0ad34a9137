-- `first_heard` meets its contract.
use mathlib.Core.Path.{◌≡◌, ap, sym, ◌∙◌}
use mathlib.Core.Bool.{not}
use native.Mathlib.Omega.{arith}
use native.Mathlib.Numerals.{add-one}
use borrow.Author.Tests.{ne_eqb, eq-eqb}
use borrow.Author.Rules.{rules}
use Rattle.basics.specs.Lists.{first}
use Rattle.basics.proofs.Laws.{first_on, first_found}
use Rattle.playback.specs.Sets.{was_heard}
use Rattle.playback.proofs.hearing.first_heard.Goals as goal

pub loop-c-init : goal.loop-c-init
loop-c-init c = c.requires

pub returns-then-heard-by-ne0 : goal.returns-then-heard-by-ne0
returns-then-heard-by-ne0 c =
    let a = c.args in
    let i = c.loop-c in
    sym (first_found (was_heard a.by.now a.heard) 16 i.c c.loop-c-test.true i.invariant.1 (ap not (ne_eqb _ 0 c.if-heard-by-ne0.true)))

pub loop-c-preserved : goal.loop-c-preserved
loop-c-preserved c =
    let a = c.args in
    let i = c.loop-c in
    (search rules, ap (first (was_heard a.by.now a.heard)) (add-one i.c) ∙ first_on (was_heard a.by.now a.heard) i.c i.invariant.1 (ap not (eq-eqb _ 0 c.if-heard-by-ne0.false)) ∙ sym (add-one i.c))

pub returns : goal.returns
returns c =
    let a = c.args in
    let i = c.loop-c in
    let e : i.c ≡ 16 = omega (arith, i.invariant.0, c.loop-c-test.false) in
    sym (ap (first (was_heard a.by.now a.heard)) (sym e) ∙ i.invariant.1 ∙ e)
