-- `bad_openings` meets its contract: the test of all openings is that of some number below their number.
use Rattle.std.proofs.Common.{ltb, rules, tests, ◌∙◌}
use Rattle.std.proofs.lemmas.Iterator.{YieldsList-from_slice}
use Rattle.std.proofs.lemmas.Iterator.Search.{any_from_yields_List}
use Rattle.plain.proofs.Tests.{openings-count, openings_tested, some_in_list}
use Rattle.plain.proofs.bad_openings.Goals as goal

pub returns-then-openings-n : goal.returns-then-openings-n
returns-then-openings-n c = openings-count c.args.n c.args.openings.now c.if-openings-n.true

pub returns-else-openings-n : goal.returns-else-openings-n
returns-else-openings-n c =
    let s = c.args.openings.now in
    openings_tested c.args.n s c.any.result c.if-openings-n.false
    (any_from_yields_List (ltb 15) _ _ _ c.any.ensures.ran (YieldsList-from_slice s c.iter.ensures.rest) (λ x b q k. search (rules, tests)) ∙ some_in_list (ltb 15) s)
