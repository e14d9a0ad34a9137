-- `pack_whole` meets its contract.
use borrow.Author.Rules.{rules}
use Rattle.recordbytes.specs.Layout.{packed_whole}
use Rattle.recordbytes.proofs.pack_whole.Goals as goal

pub returns : goal.returns
unfolding packed_whole
returns c = search rules
