-- 02 (v): one door for register writes: at 0x17 and its mirrors the Y-expand write, elsewhere the file's. Assumes nothing.
use Prim.Native.Nat.{ℕ, ◌%◌}
use mathlib.Core.Path.{◌≡◌}
use borrow.Author.Tests.{eq-eqb, ne_eqb}
use Rattle.registers.specs.Registers.{latch, written}
use Rattle.registers.specs.Irq.{irq_written}
use Rattle.chip.specs.declared.Chip.{Chip}
use Rattle.calls.specs.Calls.{file_written, expand_at, register_written}

module _ (c : Chip) (addr v : ℕ) where
  pub door_expand : addr % 64 ≡ 0x17 → register_written c addr v ≡ expand_at c v
  unfolding register_written
  door_expand e = rw (eq-eqb (addr % 64) 0x17 e)

  pub door_elsewhere : (addr % 64 ≡ 0x17 → ⊥) → register_written c addr v ≡ file_written c addr v
  unfolding register_written
  door_elsewhere n = rw (ne_eqb (addr % 64) 0x17 n)

  -- 02 (vi): the two control registers have writes of their own, and the ordinary one still changes nothing
  pub door_control_1 : addr % 64 ≡ 0x11 → register_written c addr v ≡ c
  unfolding register_written file_written written latch irq_written
  door_control_1 e = rw e

  pub door_control_2 : addr % 64 ≡ 0x16 → register_written c addr v ≡ c
  unfolding register_written file_written written latch irq_written
  door_control_2 e = rw e
