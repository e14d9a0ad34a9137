-- `blank` meets its contract.
use Rattle.basics.specs.Lists.{tab, tab_from}
use Rattle.protocol.specs.Runs.{opened_in}
use Rattle.protocol.specs.Fleets.{blank}
use Rattle.fleetrecord.proofs.blank.Goals as goal

pub returns : goal.returns
unfolding blank opened_in tab tab_from
returns c = rw c.opened.ensures
