-- `begin` meets its contract: the bits put out so far are those of the packed form up to the next opening, whatever the words are.
use Rattle.std.proofs.Common.{◌≡◌, ℕ, List}
use Rattle.recording.specs.Packed.{opening_place, pack_bit}
use Rattle.plain.specs.Steps.{BitsPut}
use Rattle.plain.proofs.Packer.begin.Given as goal

abbrev pub invariant-loop-opening : goal.invariant-loop-opening
invariant-loop-opening l =
    (l.packer.buf.ghost_name ≡ l.initial.packer.buf.ghost_name)
    × ((words : List ℕ) → BitsPut (pack_bit l.trucks l.rounds l.openings words) (opening_place l.opening-index) l.packer.at l.packer.have l.packer.acc l.initial.packer.buf.now l.packer.buf.now)
