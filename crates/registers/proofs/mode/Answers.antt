use mathlib.Core.Path.{◌≡◌}
use mathlib.Core.Bool.{cond}
use Prim.Native.Nat.{ℕ, ◌+◌, ◌*◌, ◌/◌, ◌%◌, ◌<◌}
use Rattle.laws.specs.Bits.{has_bit}
use Rattle.laws.proofs.Below.{same}
use Rattle.registers.specs.Control.{ECM, BMM, MCM, mode_number}
use borrow.Author.Rules.{rules}
use Rattle.registers.proofs.mode.Goals as goal

first : (ctrl1 : ℕ) → ctrl1 < 256 → ctrl1 / 32 % 4 * 2 ≡ cond (ECM ctrl1) 4 0 + cond (BMM ctrl1) 2 0
unfolding has_bit
first = same (λ k. k / 32 % 4 * 2) (λ k. cond (ECM k) 4 0 + cond (BMM k) 2 0) 256 tt

second : (ctrl2 : ℕ) → ctrl2 < 256 → ctrl2 / 16 % 2 ≡ cond (MCM ctrl2) 1 0
unfolding has_bit
second = same (λ k. k / 16 % 2) (λ k. cond (MCM k) 1 0) 256 tt

pub returns : goal.returns
unfolding mode_number
returns c = rw (first c.args.ctrl1 (search rules), second c.args.ctrl2 (search rules))
