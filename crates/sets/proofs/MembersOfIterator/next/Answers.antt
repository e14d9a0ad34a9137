-- `next` makes progress: the set that is left falls.
use borrow.Author.Rules.{rules}
use Rattle.sets.proofs.Members.{taken_out}
use Rattle.sets.proofs.MembersOfIterator.next.Goals as goal

pub returns-clause-goes : goal.returns-clause-goes
returns-clause-goes c = let t = taken_out c.if-self-eq0.false c.lowest-p.ensures c.rest-self.ensures in let l = t.less in search rules
