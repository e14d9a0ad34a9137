-- `proposals` and `vetoes` meet their contracts, each by what the other says of one round fewer.
use native.Mathlib.Omega.{arith}
use Rattle.playback.proofs.Halts.{due_room, due-active, proposal_next, veto-next, proposal_graded, veto-graded, same_end}
use Rattle.playback.proofs.replay.+proposals_vetoes.Goals as goal

pub proposals-propose-q-requires : goal.proposals-propose-q-requires
proposals-propose-q-requires t c = let r = due_room c.requires.0 c.if-left-running.false in (r.0, omega (arith, r))

pub proposals-overflow_add-at : goal.proposals-overflow_add-at
proposals-overflow_add-at t c = record { fits = omega (arith, due_room c.requires.0 c.if-left-running.false) }

pub proposals-judged-requires : goal.proposals-judged-requires
proposals-judged-requires t c = let r = due_room c.requires.0 c.if-left-running.false in (r.0, omega (arith, r))

pub proposals-overflow_mul-n-2 : goal.proposals-overflow_mul-n-2
proposals-overflow_mul-n-2 t c = record { fits = omega (arith, due_room c.requires.0 c.if-left-running.false) }

pub proposals-overflow_add-at-2 : goal.proposals-overflow_add-at-2
proposals-overflow_add-at-2 t c = record { fits = omega (arith, due_room c.requires.0 c.if-left-running.false) }

pub proposals-vetoes-requires : goal.proposals-vetoes-requires
proposals-vetoes-requires t c =
    let d = c.requires.0 in
    let h = c.if-left-running.false in
    let r = due_room d h in
    let active = due-active d in
    let n = proposal_next d h c.requires.1.0 active c.propose-q.ensures c.without.result c.ended.new.ends c.count_up.new.words c.without.ensures c.ended.ensures c.count_up.ensures in
    (omega (arith, c.decreases, r.1.1.1.0), (n.0, (n.1, proposal_graded d h c.requires.1.0 active c.propose-q.ensures c.args.judging c.requires.1.1 c.judged.ensures)))

pub proposals-returns : goal.proposals-returns
proposals-returns t c = (same_end c.requires.0 c.if-left-running.false c.vetoes.ensures.0, c.vetoes.ensures.1)

pub vetoes-veto-q-requires : goal.vetoes-veto-q-requires
vetoes-veto-q-requires t c = let r = due_room c.requires.0 c.if-left-running.false in (r.0, omega (arith, r))

pub vetoes-overflow_add-at : goal.vetoes-overflow_add-at
vetoes-overflow_add-at t c = record { fits = omega (arith, due_room c.requires.0 c.if-left-running.false) }

pub vetoes-judged-requires : goal.vetoes-judged-requires
vetoes-judged-requires t c = let r = due_room c.requires.0 c.if-left-running.false in (r.0, omega (arith, r))

pub vetoes-overflow_add-at-2 : goal.vetoes-overflow_add-at-2
vetoes-overflow_add-at-2 t c = record { fits = omega (arith, due_room c.requires.0 c.if-left-running.false) }

pub vetoes-proposals-requires : goal.vetoes-proposals-requires
vetoes-proposals-requires t c =
    let d = c.requires.0 in
    let h = c.if-left-running.false in
    let r = due_room d h in
    let n = veto-next d h c.requires.1.0 c.veto-q.ensures c.without.result c.ended.new.ends c.count_up.new.words c.without.ensures c.ended.ensures c.count_up.ensures in
    (omega (arith, c.decreases, r.1.1.1.0), (n.0, (n.1, veto-graded d h c.requires.1.0 c.veto-q.ensures c.args.judging c.requires.1.1 c.judged.ensures)))

pub vetoes-returns : goal.vetoes-returns
vetoes-returns t c = (same_end c.requires.0 c.if-left-running.false c.proposals.ensures.0, c.proposals.ensures.1)
