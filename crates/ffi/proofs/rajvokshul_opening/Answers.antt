-- `rajvokshul_opening` meets its contract: a law for each kind of answer.
use mathlib.Core.Path.{◌≡◌}
use mathlib.Core.List.{[], ◌∷◌}
use Rattle.ffi.specs.Calls.{call_result, opening_call}
use Rattle.ffi.proofs.Answers.{put_by, opening_call_0, opening_call_refused}
use Rattle.ffi.proofs.rajvokshul_opening.Goals as goal

pub returns : goal.returns
returns c =
    let a = c.args in
    let o = c.opening_crusher in
    put_by o.result a.crusher.now c.put.result c.put.new.place (λ k v. call_result k [] (v ∷ []) ≡ opening_call a.lengths.now a.metres.now a.seconds.now a.crusher.now)
    (opening_call_0 a.lengths.now a.metres.now a.seconds.now a.crusher.now o.result o.ensures)
    (opening_call_refused a.lengths.now a.metres.now a.seconds.now a.crusher.now o.result o.ensures)
    c.put.ensures
