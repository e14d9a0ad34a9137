-- `judged_into` meets its contract.
use Rattle.playback.proofs.Judged.{judged-four}
use Rattle.playback.proofs.grading.judged_into.Goals as goal

pub returns : goal.returns
returns c =
    let z = c in
    let a = z.args in
    let u = c.without in
    let f = c.where_open-first in
    let l = c.where_open-last in
    let w = c.listeners in
    let m = c.missing-m in
    let x1 = c.without-2 in
    let c1 = c.carry in
    let x2 = c.without-3 in
    let c2 = c.carry-2 in
    let x3 = c.without-4 in
    let c3 = c.carry-3 in
    let x4 = c.without-5 in
    let c4 = c.carry-4 in
    judged-four a.s.now a.at a.n a.going a.senders a.mark a.found.now z.told-found m.result a.k u.result f.result l.result w.result x1.result x2.result x3.result x4.result c1.result c2.result c3.result c4.result
    u.ensures f.ensures l.ensures w.ensures m.ensures x1.ensures c1.ensures x2.ensures c2.ensures x3.ensures c3.ensures x4.ensures c4.ensures
