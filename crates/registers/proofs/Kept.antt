-- A write keeps the compare line within its nine bits. Assumes nothing.
use Prim.Native.Nat.{ℕ, ◌+◌, ◌%◌, ◌<◌, ◌≤◌}
use native.Mathlib.Omega.{arith}
use lib.Dec.{eqb}
use Rattle.laws.proofs.Choice.{either, pick_either}
use Rattle.registers.specs.declared.Registers.{Registers}
use Rattle.registers.specs.Control.{RST8}
use Rattle.registers.specs.Registers.{latch, written, line_by}

pub compare_kept : (s : Registers) (addr v : ℕ) → v < 256 → s.compare ≤ 511 → (written s addr v).compare ≤ 511
unfolding written
compare_kept s addr v b h = either (λ (n : ℕ). n ≤ 511) (eqb (latch (addr % 64)) 0x12) (omega arith) h

-- whatever is written, and whatever the line was
pub line_small : (v compare : ℕ) → line_by v compare ≤ 511
line_small v compare = pick_either (λ (n : ℕ). n + compare % 256 ≤ 511) (RST8 v) (omega arith) (omega arith)
