-- `put_all` meets its contract: the bits put out so far are those of the packed form up to the place of the next word.
use Rattle.std.proofs.Common.{◌≡◌}
use Rattle.recording.specs.Packed.{word_place, pack_bit}
use Rattle.plain.specs.Steps.{BitsPut}
use Rattle.plain.proofs.put_all.Given as goal

abbrev pub invariant-loop-word : goal.invariant-loop-word
invariant-loop-word l =
    (l.packer.buf.ghost_name ≡ l.initial.packer.buf.ghost_name)
    × BitsPut (pack_bit l.trucks l.rounds l.openings l.words) (word_place l.trucks l.word-index) l.packer.at l.packer.have l.packer.acc l.fn.buf l.packer.buf.now
