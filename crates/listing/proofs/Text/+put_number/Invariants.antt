-- It calls itself for the digits before the last, of a smaller number.
use Rattle.listing.proofs.Text.+put_number.Given as goal

abbrev pub decreases-put_number : goal.decreases-put_number
decreases-put_number g l = l.k
