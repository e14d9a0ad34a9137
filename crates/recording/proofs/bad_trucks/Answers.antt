-- `bad_trucks` meets its contract: the test is the definition.
use borrow.Author.Rules.{rules}
use Rattle.recording.specs.Checks.{bad_trucks}
use Rattle.recording.proofs.bad_trucks.Goals as goal

pub returns : goal.returns
unfolding bad_trucks
returns c = search rules
