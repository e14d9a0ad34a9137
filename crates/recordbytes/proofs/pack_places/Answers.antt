-- `pack_places` meets its contract.
use mathlib.Core.Path.{◌≡◌}
use borrow.Author.Rules.{rules}
use Rattle.std.specs.Prelude.{Ok, Err}
use Rattle.recordbytes.proofs.Laws.{pack_refusal, pack-kept, pack-accepted, pack-put, pack_range, pack-room}
use Rattle.recordbytes.proofs.pack_places.Goals as goal

pub put-requires : goal.put-requires
put-requires c = let h : c.check.result ≡ Ok tt = c.in_ok-check.was in (search pack_range, search pack-room)

pub returns-in_err-check : goal.returns-in_err-check
returns-in_err-check c =
    let e : c.from_residual.result ≡ Err c.in_err-check.field-0.0 = search rules in
    let h : c.check.result ≡ Err c.in_err-check.field-0.0 = c.in_err-check.was in
    record { answer = rw e (search pack_refusal); buffer = search pack-kept }

pub returns : goal.returns
returns c = let h : c.check.result ≡ Ok tt = c.in_ok-check.was in record { answer = search pack-accepted; buffer = search pack-put }
