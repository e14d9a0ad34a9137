-- `put_all` meets its contract: the bits put out so far are those of the packed form up to the place of the next word.
use mathlib.Core.Path.{◌≡◌, refl, ap, sym, ◌∙◌}
use mathlib.Core.List.{List}
use Prim.Native.Nat.{ℕ, ◌≤◌, ◌<◌, ◌+◌, ◌*◌, ◌/◌}
use native.Mathlib.Nat.{min-eq_left}
use native.Mathlib.Omega.{arith}
use lib.ListN.{length, get_or}
use Rattle.std.specs.Prelude.{Ok}
use Rattle.basics.specs.Lists.{filled}
use Rattle.bitreader.specs.Bits.{mirrored}
use Rattle.recording.specs.Packed.{num_at, opening_place, word_place, pack_bit, bits_for, bytes_for}
use Rattle.recording.specs.Checks.{plain_check}
use Rattle.recording.proofs.Accepted.{GoodPlain, plain-good, in_openings}
use Rattle.recording.proofs.Packing.{pack_bit-lt, bits_flat, bytes_enough}
use Rattle.plain.specs.Steps.{over, byte_of, added, packed_byte, BitsPut}
use Rattle.plain.proofs.Fields.{word_number, word_room, end_number, last_byte}
use Rattle.plain.proofs.Putting.{bits-put-at, bits-put-length, bits-put-asks, bits-put_more, bits-put_end}
use Rattle.plain.proofs.put_all.Goals as goal
use Rattle.plain.proofs.put_all.Goals.{After-loop-word, After-mirror}

-- the packed form's bits, and what was checked of openings and words
module _ (n R : ℕ) (openings words : List ℕ) where
  abbrev F : ℕ → ℕ
  F = pack_bit n R openings words

  abbrev G : ℕ → ℕ
  G = packed_byte n R openings words

  bits : (i : ℕ) → F i < 2
  bits = pack_bit-lt n R openings words

  good : plain_check n R openings words ≡ Ok tt → GoodPlain n R openings words
  good e = plain-good n R openings words e

-- there is room for all bits, and so for header and openings
module _ (n R m : ℕ) (h : bytes_for n R ≤ m) where
  enough : bits_for n R ≤ 8 * m
  enough = omega (arith, h, (bytes_enough n R).0)

  front-room : opening_place n ≤ 8 * m
  front-room = omega (arith, enough, bits_flat n R)

-- the word, as bits of the packed form
value : (c : After-mirror) → c.mirror.result ≡ num_at (F c.args.trucks c.args.rounds c.args.openings.now c.args.words.now) (word_place c.args.trucks c.loop-word.word-index) c.args.trucks
value c =
    let a = c.args in
    let g = good a.trucks a.rounds a.openings.now a.words.now c.requires.0 in
    let w = c.loop-word.word-index in
    c.mirror.ensures
    ∙ ap (λ (k : ℕ). mirrored k (get_or a.words.now w 0)) (min-eq_left g.most)
    ∙ word_number a.trucks a.rounds a.openings.now a.words.now w (omega (arith, g.rounds_good.count))

room : (c : After-mirror) → word_place c.args.trucks c.loop-word.word-index + c.args.trucks ≤ 8 * length c.args.buf.now
room c =
    let a = c.args in
    let g = good a.trucks a.rounds a.openings.now a.words.now c.requires.0 in
    omega
    (arith, word_room a.trucks a.rounds c.loop-word.word-index (omega (arith, g.rounds_good.count)), enough a.trucks a.rounds (length a.buf.now) c.requires.1)

-- after the last word
all-put : (c : After-loop-word)
    → BitsPut (F c.args.trucks c.args.rounds c.args.openings.now c.args.words.now) (bits_for c.args.trucks c.args.rounds)
    c.loop-word.packer.at c.loop-word.packer.have c.loop-word.packer.acc c.args.buf.now c.loop-word.packer.buf.now
all-put c =
    let a = c.args in
    let n : ℕ = a.trucks in
    let R : ℕ = a.rounds in
    let l = c.loop-word in
    let p = l.packer in
    let e : l.word-index ≡ R * (3 + n) = omega (arith, (good n R a.openings.now a.words.now c.requires.0).rounds_good.count) in
    bits-put-at (F n R a.openings.now a.words.now) (word_place n l.word-index) (bits_for n R) p.at p.have p.acc a.buf.now p.buf.now (ap (word_place n) e ∙ sym (bits_flat n R)) l.invariant.1

-- the bytes up to the last
ended : (c : After-loop-word) → c.loop-word.packer.at + (c.loop-word.packer.have + 7) / 8 ≡ bytes_for c.args.trucks c.args.rounds
ended c = last_byte c.args.trucks c.args.rounds c.loop-word.packer.at c.loop-word.packer.have (all-put c).bytes (all-put c).left

-- and what `finish` makes of them
written : (c : After-loop-word) (x z : List ℕ) → z ≡ x
    → x ≡ over (byte_of (added c.loop-word.packer.acc 0 7) (c.loop-word.packer.have + 7)) c.loop-word.packer.at ((c.loop-word.packer.have + 7) / 8) c.loop-word.packer.buf.now
    → z ≡ filled (G c.args.trucks c.args.rounds c.args.openings.now c.args.words.now) (bytes_for c.args.trucks c.args.rounds) c.args.buf.now
written c x z same e =
    let a = c.args in
    let n : ℕ = a.trucks in
    let R : ℕ = a.rounds in
    let p = c.loop-word.packer in
    same
    ∙ bits-put_end (F n R a.openings.now a.words.now) (bits_for n R) p.at p.have p.acc a.buf.now p.buf.now (all-put c) (bits n R a.openings.now a.words.now) 0 7
    (end_number n R a.openings.now a.words.now 7) (omega arith) (omega (arith, ended c, c.requires.1)) x e
    ∙ ap (λ (m : ℕ). filled (G n R a.openings.now a.words.now) m a.buf.now) (ended c)

pub begin-packer-requires : goal.begin-packer-requires
begin-packer-requires c =
    let a = c.args in
    let g = good a.trucks a.rounds a.openings.now a.words.now c.requires.0 in
    (g.most, (g.rounds, (in_openings a.trucks a.openings.now g.openings-good, front-room a.trucks a.rounds (length a.buf.now) c.requires.1)))

pub loop-word-init : goal.loop-word-init
loop-word-init c =
    let a = c.args in
    let r = c.begin-packer in
    let p = r.result in
    (refl, bits-put-at (F a.trucks a.rounds a.openings.now a.words.now) (opening_place a.trucks) (word_place a.trucks 0) p.at p.have p.acc a.buf.now p.buf.now (omega arith) (r.ensures.bits a.words.now))

pub put-requires : goal.put-requires
put-requires c =
    let a = c.args in
    let l = c.loop-word in
    let p = l.packer in
    let v = (goal.at.put-requires c).After-mirror in
    bits-put-asks (F a.trucks a.rounds a.openings.now a.words.now) (word_place a.trucks l.word-index) p.at p.have p.acc a.buf.now p.buf.now l.invariant.1 (bits a.trucks a.rounds a.openings.now a.words.now) c.mirror.result a.trucks (value v) (room v)
    (good a.trucks a.rounds a.openings.now a.words.now c.requires.0).most

pub loop-word-preserved : goal.loop-word-preserved
loop-word-preserved c =
    let a = c.args in
    let l = c.loop-word in
    let p = l.packer in
    let v = (goal.at.loop-word-preserved c).After-mirror in
    let n = a.trucks in
    let f : ℕ → ℕ = F n a.rounds a.openings.now a.words.now in
    let r = c.put.new.self in
    let e = c.put.ensures in (
      e.same_buffer ∙ l.invariant.0,
      bits-put-at f (word_place n l.word-index + n) (word_place n (l.word-index + 1)) r.at r.have r.acc a.buf.now r.buf.now (omega arith)
          (bits-put_more f (word_place n l.word-index) p.at p.have p.acc a.buf.now p.buf.now l.invariant.1 (bits n a.rounds a.openings.now a.words.now) c.mirror.result n (value v) (room v) (good n a.rounds a.openings.now a.words.now c.requires.0).most
          r.at r.have r.acc r.buf.now e.bytes e.acc e.have e.at),
    )

pub finish-requires : goal.finish-requires
finish-requires c =
    let o = (goal.at.finish-requires c).After-loop-word in
    let a = c.args in
    let p = c.loop-word.packer in
    (omega (arith, (all-put o).left), omega (arith, ended o, c.requires.1, bits-put-length (F a.trucks a.rounds a.openings.now a.words.now) (bits_for a.trucks a.rounds) p.at p.have p.acc a.buf.now p.buf.now (all-put o) (enough a.trucks a.rounds (length a.buf.now) c.requires.1)))

-- the packer has held this buffer throughout
pub returns : goal.returns
returns c =
    let same = c.loop-word.invariant.0 ∙ c.begin-packer.ensures.same_buffer in
    written (goal.at.returns c).After-loop-word c.finish.new.self.0 _ (grind (arith, same)) c.finish.ensures
