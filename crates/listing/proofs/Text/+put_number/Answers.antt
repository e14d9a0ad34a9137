-- `put_number` meets its contract: the last digit alone, or after the digits of a tenth, which take four places at most.
use mathlib.Core.Path.{◌≡◌}
use mathlib.Core.List.{◌++◌, append_assoc}
use native.Mathlib.Omega.{arith}
use borrow.Author.Rules.{rules}
use lib.ListN.{length-append}
use Rattle.listing.specs.Text.{decimal}
use Rattle.listing.proofs.Laws.{decimal_small, decimal_more, length_decimal, length_tenth}
use Rattle.listing.proofs.Text.+put_number.Goals as goal
use Rattle.listing.proofs.Text.+put_number.Goals.{then-k-ge10, else-k-ge10}

pub put-requires : goal.put-requires
put-requires g t c = (
  search rules,
  elim c.if-k-ge10.branch [
    | then-k-ge10 w ↦ rw (w.self-is, w.put_number.ensures.placed, length-append) (omega (arith, length_tenth c.args.k c.ranges.k.fits))
    | else-k-ge10 w ↦ rw w.self-is (omega arith)
  ],
)

pub returns : goal.returns
returns g t c = let e : c.put.new.self ≡ c.args.self.now ++ decimal c.args.k = elim c.if-k-ge10.branch [
  | then-k-ge10 w ↦ rw (c.put.ensures, w.self-is, w.put_number.ensures.placed, append_assoc, decimal_more c.args.k w.if-k-ge10.true c.ranges.k.fits)
  | else-k-ge10 w ↦ rw (c.put.ensures, w.self-is, decimal_small c.args.k w.if-k-ge10.false)
] in record { placed = e; within = rw (e, length-append) (omega (arith, length_decimal c.args.k)) }
