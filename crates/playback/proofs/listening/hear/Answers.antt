-- `hear` meets its contract.
use mathlib.Core.Path.{◌≡◌, refl, ap, sym, ◌∙◌}
use mathlib.Core.Bool.{Bool, true, false, cond, not, ◌&&◌, and-false}
use Prim.Native.Nat.{ℕ}
use lib.Dec.{eqb}
use lib.ListN.{get_or}
use borrow.Author.Rules.{rules}
use Rattle.basics.proofs.Laws.{first-none}
use Rattle.protocol.specs.declared.Heard.{Heard}
use Rattle.protocol.specs.declared.Heard.TheVariants.{Nothing, One, Several}
use Rattle.protocol.specs.Rules.{is_one}
use Rattle.sets.specs.Sets.{without}
use Rattle.playback.specs.Sets.{was_heard, values_of}
use Rattle.playback.specs.declared.hearing.Values.{Values}
use Rattle.playback.specs.Listens.{row_from, heard_from}
use Rattle.playback.proofs.Sorting.{sent-from}
use Rattle.playback.proofs.Asking.{next_is, asking-starts, asking_more, asking-done, heard-at, takes-starts, takes_more, takes_none, takes-done}
use Rattle.playback.proofs.listening.hear.Invariants.{hears_one}
use Rattle.playback.proofs.listening.hear.Goals as goal

is-lone : (b : Bool) → is_one (cond b One Several) ≡ b
is-lone true = refl
is-lone false = refl

none-lone : {v : Heard} (counted : Bool) → v ≡ Nothing → false ≡ (counted && is_one v)
none-lone counted e = sym (ap (λ (x : Heard). counted && is_one x) e ∙ and-false counted)

pub first_heard-low-requires : goal.first_heard-low-requires
first_heard-low-requires g c = (search rules, first-none (was_heard c.args.by.now c.args.senders))

pub loop-p-init : goal.loop-p-init
loop-p-init g c =
    let a = c.args in
    rw (c.into_iter-p-iterator.ensures.into_iter_gives, c.members_of-p-items.ensures)
    (tt, tt, asking-starts a.wanted (hears_one (not (eqb g.row.COUNTED 0)) a.s.now a.at a.n a.senders a.by.now), takes-starts a.wanted (heard_from a.s.now a.at a.n a.senders a.by.now))

pub heard_of-heard-requires : goal.heard_of-heard-requires
heard_of-heard-requires g c = (c.requires.0, (c.requires.1, c.in-Some.ensures.steps.below))

pub first_heard-c-requires : goal.first_heard-c-requires
first_heard-c-requires g c =
    let a = c.args in
    sent-from a.by.now a.senders (row_from a.s.now a.at a.n c.in-Some.p) c.in-Some.p c.ranges.senders.fits c.heard_of-heard.ensures c.first_heard-low.ensures

pub loop-p-preserved-then-c-lt16 : goal.loop-p-preserved-then-c-lt16
loop-p-preserved-then-c-lt16 g c =
    let a = c.args in
    let f = c.first_heard-c in
    let w = c.heard_of-heard in
    let counted = not (eqb g.row.COUNTED 0) in
    let h : ℕ → Values = heard_from a.s.now a.at a.n a.senders a.by.now in
    let next = next_is c.in-Some.ensures.steps c.only-own.ensures in
    let is : h c.in-Some.p ≡ values_of a.by.now w.result 16 = heard-at a.s.now a.at a.n a.senders a.by.now c.in-Some.p w.ensures in
    let v = takes_more a.by.now a.wanted h next f.result w.result is f.ensures c.loop-p.invariant.3 c.if-c-lt16.true refl refl in
    let lone : eqb c.without.result 0 ≡ is_one (h c.in-Some.p).heard =
    ap (λ (y : ℕ). eqb y 0) c.without.ensures ∙ sym (ap is_one v.0 ∙ is-lone (eqb (without w.result (get_or a.by.now f.result 0)) 0)) in (
      tt,
      tt,
      asking_more a.wanted (hears_one counted a.s.now a.at a.n a.senders a.by.now) next (counted && eqb c.without.result 0) (ap (λ (b : Bool). counted && b) lone) c.union_where-one.ensures
          c.loop-p.invariant.2,
      v.1,
    )

pub loop-p-preserved : goal.loop-p-preserved
loop-p-preserved g c =
    let a = c.args in
    let f = c.first_heard-c in
    let w = c.heard_of-heard in
    let counted = not (eqb g.row.COUNTED 0) in
    let h : ℕ → Values = heard_from a.s.now a.at a.n a.senders a.by.now in
    let next = next_is c.in-Some.ensures.steps c.only-own.ensures in
    let is : h c.in-Some.p ≡ values_of a.by.now w.result 16 = heard-at a.s.now a.at a.n a.senders a.by.now c.in-Some.p w.ensures in
    let v = takes_none a.by.now a.wanted h next f.result w.result is f.ensures c.loop-p.invariant.3 c.if-c-lt16.false refl refl in (
      tt,
      tt,
      asking_more a.wanted (hears_one counted a.s.now a.at a.n a.senders a.by.now) next false (none-lone counted v.0) refl c.loop-p.invariant.2,
      v.1,
    )

pub returns : goal.returns
returns g c =
    let a = c.args in
    let i = c.loop-p.invariant in
    let none = c.in-None.ensures.steps.0 in
    let t = takes-done a.wanted (heard_from a.s.now a.at a.n a.senders a.by.now) i.3 none in
    (t.0, (asking-done a.wanted (hears_one (not (eqb g.row.COUNTED 0)) a.s.now a.at a.n a.senders a.by.now) i.2 none, t.1))
