-- `check_plain` meets its contract: one law for each return.
use Rattle.plain.proofs.Outcomes.{plain_2, plain_3, plain_7, plain-rest}
use Rattle.plain.proofs.check_plain.Goals as goal

pub returns-then-bad_trucks : goal.returns-then-bad_trucks
returns-then-bad_trucks c = search plain_2

pub returns-then-rounds-gt400 : goal.returns-then-rounds-gt400
returns-then-rounds-gt400 c = search plain_3

pub returns-then-bad_openings : goal.returns-then-bad_openings
returns-then-bad_openings c = search plain_7

pub returns : goal.returns
returns c = search plain-rest
