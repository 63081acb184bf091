-- All that a tick changes, apart from the chip that holds it.
use Rattle.std.specs.Prelude.{ℕ, List}
use Rattle.registers.specs.declared.Registers.{Registers}
use Rattle.side.specs.declared.Side.{Side}
use Rattle.picture.specs.declared.Pen.{Pen}
use Rattle.chip.specs.declared.Chip.{Chip}

-- all that a tick changes: the two sides, with the picture's arrays beside them
pub record World : Type 0 where
  pub side : Side
  pub pen : Pen
  pub matrix : List ℕ
  pub pointers : List ℕ
  pub bytes : List ℕ
  pub words : List ℕ

abbrev pub world_of : Chip → World
world_of c =
    record { side = c.side; pen = c.picture.pen; matrix = c.picture.matrix; pointers = c.picture.pointers; bytes = c.picture.bytes; words = c.picture.words }

abbrev pub chip_of : Registers → World → Chip
chip_of regs w =
    record { regs = regs; side = w.side; picture = record { pen = w.pen; matrix = w.matrix; pointers = w.pointers; bytes = w.bytes; words = w.words } }
