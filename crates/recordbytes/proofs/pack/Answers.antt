-- `pack` meets its contract.
use borrow.Author.Rules.{rules}
use Rattle.recording.proofs.Accepted.{trucks_in_lem}
use Rattle.recordbytes.specs.Layout.{packed_record}
use Rattle.recordbytes.proofs.pack.Goals as goal

pub pack_places-requires : goal.pack_places-requires
pack_places-requires c = λ h. (trucks_in_lem _ h).1

pub returns : goal.returns
unfolding packed_record
returns c = search rules
