-- `rajvokshul_list` meets its contract: a law for each kind of answer.
use mathlib.Core.Path.{◌≡◌}
use mathlib.Core.List.{[], ◌∷◌}
use Rattle.ffi.specs.Calls.{call_result, list_call}
use Rattle.ffi.proofs.Answers.{put_by, list_call_0, list_call_refused}
use Rattle.ffi.proofs.rajvokshul_list.Goals as goal

pub returns : goal.returns
returns c =
    let a = c.args in
    let o = c.list in
    put_by o.result a.written.now c.put.result c.put.new.place (λ k v. call_result k (o.new.buf ∷ []) (v ∷ []) ≡ list_call a.bytes.now a.text.now a.written.now)
    (list_call_0 a.bytes.now a.text.now a.written.now o.result o.new.buf o.ensures)
    (list_call_refused a.bytes.now a.text.now a.written.now o.result o.new.buf o.ensures)
    c.put.ensures
