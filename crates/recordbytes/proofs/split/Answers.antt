-- `split` meets its contract.
use Rattle.recordbytes.proofs.ByParts.{parts_cut, parts_within}
use Rattle.recordbytes.proofs.split.Goals as goal

pub returns : goal.returns
returns c =
    let r = c.in_ok-record in
    let h = c.in_ok-head in
    let p = c.in_ok-places in
    parts_within c.args.d.now r.record.now h.head.now p.places.now r.ensures.cases.same r.ensures.cases.enough
    (parts_cut r.record.now h.head.now h.rest.now c.as_chunks.result.0.now p.places.now h.ensures.cases.0 h.ensures.cases.1 h.ensures.cases.2
    c.as_chunks.ensures.front c.as_chunks.ensures.front_len p.ensures.cases.same p.ensures.cases.enough)
