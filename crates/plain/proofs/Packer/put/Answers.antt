-- `put` meets its contract: four bytes are the digits above those that are left.
use mathlib.Core.Path.{ap, ◌∙◌}
use mathlib.Core.List.{List}
use Prim.Native.Nat.{ℕ, ◌+◌, ◌-◌, ◌/◌, ◌%◌, ◌^◌}
use native.Mathlib.Omega.{arith}
use Rattle.plain.specs.Steps.{over, byte_of, added}
use Rattle.plain.proofs.Putting.{added-fits, over_none, over_ext, four_bytes, four_put}
use Rattle.plain.proofs.Packer.put.Goals as goal

pub overflow_add-self : goal.overflow_add-self
overflow_add-self c = omega (arith, added-fits c.args.self.now.acc c.args.v c.args.k (omega arith) c.requires.1.1.0)

pub returns-else-self-ge32-clause-bytes : goal.returns-else-self-ge32-clause-bytes
returns-else-self-ge32-clause-bytes c =
    let p = c.args.self.now in
    let g : ℕ → ℕ = byte_of (added p.acc c.args.v c.args.k) (p.have + c.args.k) in
    over_none g p.at p.buf.now ∙ ap (λ (m : ℕ). over g p.at m p.buf.now) (omega arith)

pub returns-then-self-ge32-clause-bytes : goal.returns-then-self-ge32-clause-bytes
returns-then-self-ge32-clause-bytes c =
    let p = c.args.self.now in
    let d : List ℕ = p.buf.now in
    let h : ℕ = p.have + c.args.k in
    let x : ℕ = added p.acc c.args.v c.args.k in
    let full : ℕ = x / 2 ^ (h - 32) % 2 ^ 32 in
    four_put p.at d (omega arith) full (p.at + 4 - p.at) c.copy_from_slice.new.self (omega arith) (c.copy_from_slice.ensures.after ∙ c.to_be_bytes.ensures)
    ∙ over_ext (byte_of full 32) p.at (byte_of x h) 4 d (λ j l. four_bytes x h j (omega arith) l)
    ∙ ap (λ (m : ℕ). over (byte_of x h) p.at m d) (omega arith)
