-- `values_of` meets its contract.
use mathlib.Core.Path.{◌≡◌, ap, sym, ◌∙◌}
use mathlib.Core.Bool.{Bool, cond}
use Prim.Native.Nat.{ℕ}
use native.Mathlib.Omega.{arith}
use borrow.Author.Rules.{rules}
use borrow.Author.Tests.{eq-eqb, ne_eqb}
use lib.Dec.{eqb}
use lib.ListN.{get_or}
use Rattle.basics.proofs.Laws.{first-none, first-le}
use Rattle.protocol.specs.declared.Heard.{Heard}
use Rattle.protocol.specs.declared.Heard.TheVariants.{One, Several}
use Rattle.sets.specs.Sets.{without}
use Rattle.playback.specs.Sets.{was_heard}
use Rattle.playback.proofs.ByCrusher.{values_hit, values-none}
use Rattle.playback.proofs.hearing.values_of.Goals as goal
use Rattle.playback.proofs.hearing.values_of.Goals.{then-several, else-several}

pub first_heard-c-requires : goal.first_heard-c-requires
first_heard-c-requires c = (search rules, first-none (was_heard c.args.by.now c.args.heard))

pub returns-then-c-lt16 : goal.returns-then-c-lt16
returns-then-c-lt16 c =
    let a = c.args in
    let f = c.first_heard-c in
    let w = c.without-several in
    let told : (b : Bool) → eqb w.result 0 ≡ b → cond b One Several ≡ cond (eqb (without a.heard (get_or a.by.now f.result 0)) 0) One Several
    = λ b e. ap (λ (x : Bool). cond x One Several) (sym e ∙ ap (λ (x : ℕ). eqb x 0) w.ensures) in
    ap (λ (h : Heard). record { heard = h; least = f.result })
    (elim c.if-several.branch [ then-several x ↦ x.result-is ∙ told _ (ne_eqb w.result 0 x.if-several.true) | else-several x ↦ x.result-is ∙ told _ (eq-eqb w.result 0 x.if-several.false) ])
    ∙ sym (values_hit a.by.now a.heard a.estimate f.result c.if-c-lt16.true (sym f.ensures))

pub returns : goal.returns
returns c =
    let a = c.args in
    let f = c.first_heard-c in
    let e : f.result ≡ 16 = omega (arith, f.ensures, first-le (was_heard a.by.now a.heard) 16, c.if-c-lt16.false) in
    sym (values-none a.by.now a.heard a.estimate (sym f.ensures ∙ e))
