use Prim.Native.Nat.{ℕ, ◌≤◌}
use native.Mathlib.Omega.{arith}
use Rattle.laws.specs.Pick.{pick}
use Rattle.laws.proofs.Choice.{pick_either}
use mathlib.Core.Bool.{Bool}
use Rattle.registers.proofs.Registers.write_control_1.Goals as goal

small : (b : Bool) → pick b 256 0 ≤ 256
small b = pick_either (λ (n : ℕ). n ≤ 256) b (omega arith) (omega arith)

pub overflow_add-self : goal.overflow_add-self
overflow_add-self c = rw c.pick.ensures (omega (arith, small c.has_bit-high.result))

pub returns : goal.returns
returns c = simp (c.pick.ensures, c.has_bit-high.ensures)
