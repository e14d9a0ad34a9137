-- `rajvokshul_write` meets its contract: a law for each kind of answer.
use mathlib.Core.Path.{◌≡◌}
use mathlib.Core.List.{[], ◌∷◌}
use Rattle.ffi.specs.Calls.{call_result, write_call}
use Rattle.ffi.proofs.Answers.{put_by, write_call_0, write_call_refused}
use Rattle.ffi.proofs.rajvokshul_write.Goals as goal

pub returns : goal.returns
returns c =
    let a = c.args in
    let o = c.write in
    let n = c.narrow_trucks-n in
    let k = c.narrow_rounds-k in
    put_by o.result a.written.now c.put.result c.put.new.place (λ k v. call_result k (o.new.buf ∷ []) (v ∷ []) ≡ write_call a.trucks a.rounds a.openings.now a.words.now a.bytes.now a.written.now)
    (write_call_0 a.trucks a.rounds n.result k.result a.openings.now a.words.now a.bytes.now a.written.now n.ensures k.ensures o.result o.new.buf o.ensures)
    (write_call_refused a.trucks a.rounds n.result k.result a.openings.now a.words.now a.bytes.now a.written.now n.ensures k.ensures o.result o.new.buf o.ensures)
    c.put.ensures
