-- `damaged` meets its contract.
use mathlib.Core.Path.{◌∙◌}
use Rattle.recordbytes.proofs.ByParts.{damaged_by_parts, damaged_short}
use Rattle.recordbytes.proofs.damaged.Goals as goal

pub returns-in-Some : goal.returns-in-Some
returns-in-Some c = c.damaged_parts.ensures ∙ damaged_by_parts _ _ _ c.in-Some.ensures

pub returns-in-None : goal.returns-in-None
returns-in-None c = damaged_short _ c.in-None.ensures
