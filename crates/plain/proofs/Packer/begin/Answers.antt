-- `begin` meets its contract: the bits put out so far are those of the packed form up to the next opening, whatever the words are.
use mathlib.Core.Path.{refl, ◌∙◌}
use mathlib.Core.List.{[]}
use Prim.Native.Nat.{ℕ, ◌<◌, ◌+◌, ◌*◌}
use native.Mathlib.Omega.{arith}
use lib.ListN.{get_or}
use Rattle.recording.specs.Packed.{header_bits, opening_place, pack_bit}
use Rattle.recording.proofs.Accepted.{openings_in}
use Rattle.recording.proofs.Packing.{pack_bit-lt}
use Rattle.plain.proofs.Fields.{header_number, opening-number}
use Rattle.plain.proofs.Putting.{bits-put-first, bits-put-at, bits-put-asks, bits-put_more}
use Rattle.plain.proofs.Packer.begin.Goals as goal

pub loop-opening-init : goal.loop-opening-init
loop-opening-init c =
    let a = c.args in (
      refl,
      λ words. bits-put-first (pack_bit a.trucks a.rounds a.openings.now words) (pack_bit-lt a.trucks a.rounds a.openings.now words) header_bits (a.trucks * 1024 + a.rounds) a.buf.now (omega arith) (header_number a.trucks a.rounds a.openings.now words c.requires.0 c.requires.1.0),
    )

pub put-requires : goal.put-requires
put-requires c =
    let a = c.args in
    let g = openings_in a.trucks a.openings.now c.requires.1.1.0 in
    let l = c.loop-opening in
    let i : ℕ = l.opening-index in
    let o : i < a.trucks = omega (arith, g.count) in
    bits-put-asks (pack_bit a.trucks a.rounds a.openings.now []) (opening_place i) l.packer.at l.packer.have l.packer.acc a.buf.now l.packer.buf.now (l.invariant.1 []) (pack_bit-lt a.trucks a.rounds a.openings.now [])
    (get_or a.openings.now i 0) 4 (opening-number a.trucks a.rounds a.openings.now [] g i o) (omega arith) (omega arith)

pub loop-opening-preserved : goal.loop-opening-preserved
loop-opening-preserved c =
    let a = c.args in
    let g = openings_in a.trucks a.openings.now c.requires.1.1.0 in
    let l = c.loop-opening in
    let i : ℕ = l.opening-index in
    let r = c.put.new.self in
    let e = c.put.ensures in
    let o : i < a.trucks = omega (arith, g.count) in (
      e.same_buffer ∙ l.invariant.0,
      λ words.
          let f : ℕ → ℕ = pack_bit a.trucks a.rounds a.openings.now words in
          bits-put-at f (opening_place i + 4) (opening_place (i + 1)) r.at r.have r.acc a.buf.now r.buf.now (omega arith)
          (bits-put_more f (opening_place i) l.packer.at l.packer.have l.packer.acc a.buf.now l.packer.buf.now (l.invariant.1 words) (pack_bit-lt a.trucks a.rounds a.openings.now words) (get_or a.openings.now i 0) 4
          (opening-number a.trucks a.rounds a.openings.now words g i o) (omega arith) (omega arith) r.at r.have r.acc r.buf.now e.bytes e.acc e.have e.at),
    )

pub returns-clause-bits : goal.returns-clause-bits
returns-clause-bits c =
    let a = c.args in
    let g = openings_in a.trucks a.openings.now c.requires.1.1.0 in
    let l = c.loop-opening in
    let p = l.packer in
    λ words. bits-put-at (pack_bit a.trucks a.rounds a.openings.now words) (opening_place l.opening-index) (opening_place a.trucks) p.at p.have p.acc a.buf.now p.buf.now (omega (arith, g.count)) (l.invariant.1 words)
