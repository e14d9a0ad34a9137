-- `without_time` meets its contract.
use borrow.Author.Rules.{rules}
use Rattle.roads.proofs.Tests.{some_by}
use Rattle.roads.proofs.without_time.Goals as goal

pub returns : goal.returns
returns c = some_by _ _ _ (search rules)
