-- `unpack` meets its contract: a law for each return.
use mathlib.Core.Path.{◌≡◌, refl, sym, ◌∙◌}
use mathlib.Core.Bool.{true, false}
use borrow.Author.Rules.{rules}
use Rattle.recordbytes.proofs.Laws.{unpack_7, unpack_0}
use Rattle.recordbytes.proofs.ByParts.{damaged_by_parts, damaged_short, head_count, record_by_parts}
use Rattle.recordbytes.proofs.unpack.Goals as goal
use Rattle.recordbytes.proofs.unpack.Goals.{in_default-via-in-Some+else-not-damaged_parts, in_default-via-in_default}

pub record_of-requires : goal.record_of-requires
record_of-requires c =
    let sound : c.damaged_parts.result ≡ false = search rules in
    head_count _ _ _ c.in-Some.ensures (sym c.damaged_parts.ensures ∙ sound)

pub returns-in-Some : goal.returns-in-Some
returns-in-Some c =
    let sound : c.damaged_parts.result ≡ false = search rules in
    let parts = c.in-Some.ensures in
    unpack_0 c.args.d.now c.damaged_parts.result (c.damaged_parts.ensures ∙ damaged_by_parts _ _ _ parts) c.record_of.result
    (c.record_of.ensures ∙ record_by_parts _ _ _ parts (head_count _ _ _ parts (sym c.damaged_parts.ensures ∙ sound))) sound

pub returns-in_default : goal.returns-in_default
returns-in_default c =
    let d = c.args.d.now in
    elim c.in_default.branch [
      | in_default-via-in-Some+else-not-damaged_parts w ↦
          let broken : w.damaged_parts.result ≡ true = search rules in
          unpack_7 d w.damaged_parts.result (w.damaged_parts.ensures ∙ damaged_by_parts _ _ _ w.in-Some.ensures) c.refused.result c.refused.ensures broken
      | in_default-via-in_default w ↦ unpack_7 d true (damaged_short d w.in_default.ensures) c.refused.result c.refused.ensures refl
    ]
