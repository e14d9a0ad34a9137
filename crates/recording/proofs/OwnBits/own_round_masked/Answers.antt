-- `own_round_masked` meets its contract: no own bit of the rounds that the loop has passed is 1.
use mathlib.Core.Path.{◌≡◌, ap, sym, subst, ◌∙◌}
use Prim.Native.Nat.{ℕ, min, ◌+◌, ◌-◌, ◌*◌, ◌/◌, ◌%◌, ◌≤◌, ◌<◌}
use native.Mathlib.Omega.{arith}
use lib.ListN.{length, drop, length-take, length-drop}
use Rattle.recording.specs.Packed.{bit_at, round_place, word_in}
use Rattle.recording.specs.declared.OwnBits.{OwnBits}
use Rattle.recording.specs.Checks.{own_in}
use Rattle.recording.proofs.Masks.{OwnMask, whole-bytes}
use Rattle.recording.proofs.MaskedRounds.{slice-own}
use Rattle.recording.proofs.Searches.{own_packed, own-packed}
use Rattle.recording.proofs.Sizes.{rows_within}
use Rattle.recording.proofs.OwnLoss.{own_looked, own_begins, own_passes, own_at}
use Rattle.recording.proofs.OwnBits.own_round_masked.Goals as goal
use Rattle.recording.proofs.OwnBits.own_round_masked.Goals.{After-any_masked}

-- round r, whose bits are looked at from a byte on: where the first own bit stands, and that the bytes that are looked at hold each of them and are there
module _ (own : OwnBits) (r at n k bits m : ℕ) (first : at ≡ round_place own.trucks 0 + 3 * own.trucks) (counted : n ≡ own.trucks) (same : k ≡ r)
    (sized : bits ≡ 3 * own.trucks + own.trucks * own.trucks) (whole : (3 * own.trucks + own.trucks * own.trucks) % 8 ≡ 0) (there : r < own.rounds) (ceiled : m ≡ (at % 8 + n * n) / 8 + min 1 ((at % 8 + n * n) % 8)) where
  placed : 8 * (at / 8 + k * (bits / 8)) + at % 8 ≡ round_place own.trucks r + 3 * own.trucks
  placed =
      whole-bytes own.trucks r at (at / 8 + k * (bits / 8)) (bits / 8) first (omega arith)
      (ap (λ (q : ℕ). at / 8 + q * (bits / 8)) same)

  covered : at % 8 + own.trucks * own.trucks ≤ 8 * m
  covered = omega (arith, ap (λ (q : ℕ). q * q) counted)

  inside : at / 8 + k * (bits / 8) + m ≤ length own.bytes.now
  inside =
      omega
      (arith, rows_within own.trucks own.rounds r (8 * (at / 8 + k * (bits / 8)) + at % 8) (8 * length own.bytes.now) there placed own.all_there, ap (λ (q : ℕ). q * q) counted)

-- what the look at a round says
looked : (c : After-any_masked)
    → own_in (word_in (bit_at c.args.self.now.bytes.now) c.args.self.now.trucks) c.args.self.now.trucks c.loop-round.round ≡ c.any_masked.result
looked c =
    let own = c.args.self.now in
    let at = c.place-at.result in
    let b : ℕ = at / 8 + c.from.result * (c.round_bits-size.result / 8) in
    let m = c.div_ceil-m.result in
    own_looked (word_in (bit_at own.bytes.now) own.trucks) own.trucks c.loop-round.round (own_packed own.bytes.now (8 * b + at % 8) own.trucks)
    (own-packed own.bytes.now own.trucks c.loop-round.round (8 * b + at % 8)
    (placed own c.loop-round.round at c.from-n.result c.from.result c.round_bits-size.result c.div_ceil-m.result c.place-at.ensures c.from-n.ensures c.from.ensures c.round_bits-size.ensures c.requires c.loop-round-test.true c.div_ceil-m.ensures))
    c.any_masked.result
    (c.any_masked.ensures
    ∙ slice-own own.bytes.now c.own_mask-mask.result b (b + m - b) (at % 8) own.trucks own.each_fits
    (subst (λ (n : ℕ). OwnMask c.own_mask-mask.result (at % 8) n n) c.from-n.ensures c.own_mask-mask.ensures)
    (omega (
      arith,
      length-take (b + m - b) (drop b own.bytes.now),
      length-drop b own.bytes.now,
      covered own c.loop-round.round at c.from-n.result c.from.result c.round_bits-size.result c.div_ceil-m.result c.place-at.ensures c.from-n.ensures c.from.ensures c.round_bits-size.ensures c.requires c.loop-round-test.true c.div_ceil-m.ensures,
      inside own c.loop-round.round at c.from-n.result c.from.result c.round_bits-size.result c.div_ceil-m.result c.place-at.ensures c.from-n.ensures c.from.ensures c.round_bits-size.ensures c.requires c.loop-round-test.true c.div_ceil-m.ensures,
    )))

pub loop-round-init : goal.loop-round-init
loop-round-init c = let own = c.args.self.now in own_begins (word_in (bit_at own.bytes.now) own.trucks) own.trucks

pub slice_bounds-any_masked-end : goal.slice_bounds-any_masked-end
slice_bounds-any_masked-end c =
    let h = inside c.args.self.now c.loop-round.round c.place-at.result c.from-n.result c.from.result c.round_bits-size.result c.div_ceil-m.result c.place-at.ensures c.from-n.ensures c.from.ensures
    c.round_bits-size.ensures c.requires c.loop-round-test.true c.div_ceil-m.ensures in
    omega arith

pub returns-then-any_masked : goal.returns-then-any_masked
returns-then-any_masked c =
    let own = c.args.self.now in
    let l = c.loop-round in (
      omega arith,
      sym (own_at (word_in (bit_at own.bytes.now) own.trucks) own.trucks own.rounds l.round (omega arith) l.invariant
          (looked (goal.at.returns-then-any_masked c).After-any_masked ∙ c.if-any_masked.true)),
    )

pub loop-round-preserved : goal.loop-round-preserved
loop-round-preserved c =
    let own = c.args.self.now in
    own_passes (word_in (bit_at own.bytes.now) own.trucks) own.trucks c.loop-round.round c.loop-round.invariant
    (looked (goal.at.loop-round-preserved c).After-any_masked ∙ c.if-any_masked.false)
