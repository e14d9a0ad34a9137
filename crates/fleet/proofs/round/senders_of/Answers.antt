-- `senders_of` meets its contract: the loop holds the senders among the trucks passed, those of each crusher, and these trucks' estimates.
use mathlib.Core.Path.{◌≡◌, ap, sym, ◌∙◌}
use Prim.Native.Nat.{◌<◌}
use native.Mathlib.Omega.{arith}
use native.Mathlib.Numerals.{add-one}
use borrow.Author.Rules.{rules}
use Rattle.basics.proofs.Laws.{filled_none, fill_step}
use Rattle.protocol.specs.Rules.{truck}
use Rattle.protocol.specs.declared.Truck.{Truck}
use Rattle.sets.proofs.Members.{only_is}
use Rattle.fleet.specs.Rounds.{sends_in}
use Rattle.playback.specs.Sets.{estimates}
use Rattle.playback.proofs.Sorting.{sending_more}
use Rattle.fleet.proofs.round.senders_of.Goals as goal

pub loop-i-preserved : goal.loop-i-preserved
loop-i-preserved g c =
    let w = c.args.words.now in
    let f = g.R.Trucks.fleet c.args.trucks.now in
    let o = c.loop-i in
    let less : o.i < f.n = omega (arith, c.loop-i-test.true, c.count-i-end.ensures) in
    let few : o.i < 32 = omega (arith, less, c.requires.0) in
    let is : c.truck-t.result ≡ truck f.trucks o.i = c.truck-t.ensures in
    let sends = c.sends-joins in (
      search rules,
      rw (c.union_where.ensures, c.union_where-senders.ensures, c.only-in-loop-i.ensures ∙ only_is o.i few, c.only.ensures ∙ only_is o.i few, add-one o.i, is)
          (sending_more (sends_in c.args.phase w f.trucks) (estimates f.trucks) o.invariant.1 (c.requires.2 o.i less) sends.result
          (rw (sends.ensures, c.holds.ensures, c.holds-in-loop-i.ensures, is))),
      fill_step (estimates f.trucks) c.args.held.now o.held o.i o.invariant.2 c.truck-t.result.estimate (omega (arith, few, c.told-held)) (ap (λ (t : Truck). t.estimate) is),
    )

pub loop-i-init : goal.loop-i-init
loop-i-init g c =
    (search rules, search rules, sym (filled_none (estimates (g.R.Trucks.fleet c.args.trucks.now).trucks) c.args.held.now))
