-- `main` meets its contract.
use mathlib.Core.Path.{ap}
use native.Mathlib.Omega.{arith}
use Rattle.replay.specs.Input.{bytes_read}
use Rattle.replay.proofs.main.Goals as goal

pub slice_bounds-buf-end : goal.slice_bounds-buf-end
slice_bounds-buf-end c = omega (arith, ap bytes_read c.in-Ok.is, c.read_input-input.ensures)
