-- `rounds_in` meets its contract.
use mathlib.Core.Path.{refl, subst}
use mathlib.Core.List.{List}
use Prim.Native.Nat.{ℕ, ◌+◌}
use native.Mathlib.Nat.{zero-add}
use Rattle.recording.specs.Packed.{round_at}
use Rattle.protocol.specs.Rules.{two_rules}
use Rattle.protocol.specs.Six.{six_rules}
use Rattle.playback.specs.declared.replay.Sets.{Sets}
use Rattle.playback.specs.Standing.{Halted}
use Rattle.playback.proofs.Graded.{found_none}
use Rattle.playback.proofs.replay.rounds_in.Goals as goal

-- the rounds are counted from 0
ended : (s : List ℕ) (rounds : ℕ) (by ends sent : List ℕ) (b : Sets) → Halted two_rules (round_at s) s (0 + rounds) by ends sent 0 b → Halted two_rules (round_at s) s rounds by ends sent 0 b
ended s rounds by ends sent b h = subst (λ (k : ℕ). Halted two_rules (round_at s) s k by ends sent 0 b) (zero-add rounds) h

pub proposals-requires : goal.proposals-requires
proposals-requires c =
    let z = c in
    let s = z.args.s.now in
    (rw c.in-TwoRound.is at z.requires.0, (refl, found_none two_rules (round_at s) s z.args.judging z.args.t.now.found z.requires.1.1))

pub six_rounds-requires : goal.six_rounds-requires
six_rounds-requires c =
    let z = c in
    let s = z.args.s.now in
    (rw c.in-SixRound.is at z.requires.0, found_none six_rules (round_at s) s z.args.judging z.args.t.now.found z.requires.1.1)

pub returns-in-TwoRound : goal.returns-in-TwoRound
returns-in-TwoRound c =
    let z = c in
    let p = c.proposals in
    rw c.in-TwoRound.is
    (ended z.args.s.now z.args.rounds p.new.t.by p.new.t.ends p.new.t.sent p.result p.ensures.0, p.ensures.1)

pub returns-in-SixRound : goal.returns-in-SixRound
returns-in-SixRound c = rw c.in-SixRound.is c.six_rounds.ensures
