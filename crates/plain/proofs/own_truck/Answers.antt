-- `own_truck` meets its contract: the search takes the trucks from the lowest up.
use Rattle.std.proofs.Common.{◌≡◌, true, false, length, rules, tests}
use Rattle.std.proofs.lemmas.Iterator.{first_from_Range}
use Rattle.plain.specs.Steps.{own_in_rows}
use Rattle.plain.proofs.Tests.{first_searched}
use Rattle.plain.proofs.own_truck.Goals as goal

pub returns : goal.returns
returns c =
    let rows = c.args.rows.now in
    first_searched (own_in_rows rows) (length rows) c.find.result
    (first_from_Range _ _ _ c.find.result (λ i. own_in_rows rows i ≡ true) (λ i. own_in_rows rows i ≡ false) c.find.ensures.ran
    (λ x q k. search (rules, tests)) (λ x q k. search (rules, tests)))
