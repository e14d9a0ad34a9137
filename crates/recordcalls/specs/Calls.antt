-- What is left of a lent buffer into which a record is put, in the words of the exported calls (ffi, Calls).
use Rattle.std.specs.Prelude.{ℕ, List, length}
use Rattle.refusals.specs.Outcomes.{and_then}
use Rattle.protocol.specs.declared.Answer.{Answer}
use Rattle.recordbytes.specs.Layout.{pack_check}
use Rattle.ffi.specs.Calls.{CallResult, record_as}

-- the record of an answer: what refused it, then 7 (n out of range), then 9; places n and above stay as they are in the buffer
unfoldable pub put_call : Answer → List ℕ → CallResult
put_call a d = record_as (and_then a.outcome (pack_check a.fleet.n (length d))) a.fleet.n a.fleet d
