-- `turned_word` meets its contract.
use mathlib.Core.Path.{ap, ◌∙◌}
use Prim.Native.Nat.{ℕ, ◌%◌, ◌^◌}
use Rattle.bitreader.specs.Bits.{mirrored}
use Rattle.plain.proofs.turned_word.Goals as goal

pub returns : goal.returns
returns c = c.low_bits.ensures ∙ ap (λ (x : ℕ). x % 2 ^ c.args.n) (c.mirror-all.ensures ∙ ap (mirrored 32) c.swap_bytes.ensures)
