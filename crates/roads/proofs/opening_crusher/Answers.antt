-- `opening_crusher` meets its contract: each return cites the law of its answer, with what the tests before it left.
use mathlib.Core.Path.{sym, ◌∙◌}
use Rattle.roads.proofs.Answers.{right, opening_10, opening_11, opening_12, opening_13, opening-road}
use Rattle.roads.proofs.opening_crusher.Goals as goal

pub returns-then-bad_lists : goal.returns-then-bad_lists
returns-then-bad_lists c = opening_10 _ _ _ (sym c.bad_lists.ensures ∙ c.if-bad_lists.true)

pub returns-then-above_limit : goal.returns-then-above_limit
returns-then-above_limit c =
    opening_11 _ _ _ (sym c.bad_lists.ensures ∙ c.if-bad_lists.false) (sym c.above_limit.ensures ∙ c.if-above_limit.true)

pub without_time-requires : goal.without_time-requires
without_time-requires c =
    let e = right c.args.lengths.now c.args.metres.now c.args.seconds.now (sym c.bad_lists.ensures ∙ c.if-bad_lists.false) in
    e.as_metres ∙ sym e.as_seconds

pub returns-then-without_time : goal.returns-then-without_time
returns-then-without_time c =
    opening_12 _ _ _ (sym c.bad_lists.ensures ∙ c.if-bad_lists.false) (sym c.above_limit.ensures ∙ c.if-above_limit.false)
    (sym c.without_time.ensures ∙ c.if-without_time.true)

pub fastest_road-requires : goal.fastest_road-requires
fastest_road-requires c =
    let e = right c.args.lengths.now c.args.metres.now c.args.seconds.now (sym c.bad_lists.ensures ∙ c.if-bad_lists.false) in
    (e.as_metres, e.as_seconds, e.few)

pub returns-in-None : goal.returns-in-None
returns-in-None c =
    opening_13 c.args.lengths.now c.args.metres.now c.args.seconds.now (sym c.bad_lists.ensures ∙ c.if-bad_lists.false) (sym c.above_limit.ensures ∙ c.if-above_limit.false)
    (sym c.without_time.ensures ∙ c.if-without_time.false) (λ k. (c.type_inv.lengths k).fits) (λ k. (c.type_inv.metres k).fits) (λ k. (c.type_inv.seconds k).fits)
    c.fastest_road.result c.fastest_road.ensures c.in-None.is

pub returns-in-Some : goal.returns-in-Some
returns-in-Some c =
    opening-road c.args.lengths.now c.args.metres.now c.args.seconds.now (sym c.bad_lists.ensures ∙ c.if-bad_lists.false) (sym c.above_limit.ensures ∙ c.if-above_limit.false)
    (sym c.without_time.ensures ∙ c.if-without_time.false) (λ k. (c.type_inv.lengths k).fits) (λ k. (c.type_inv.metres k).fits) (λ k. (c.type_inv.seconds k).fits)
    c.fastest_road.result c.fastest_road.ensures _ c.in-Some.is
