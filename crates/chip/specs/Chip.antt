-- The whole chip: the register file, the timing side and the picture side.
use Rattle.std.specs.Prelude.{ℕ, []}
use Rattle.laws.specs.Lists.{zeros}
use Rattle.registers.specs.declared.Registers.{Registers}
use Rattle.registers.specs.Registers as File
use Rattle.side.specs.declared.Side.{Side}
use Rattle.side.specs.Turn.{fresh_side}
use Rattle.access.specs.declared.Reads.{Reads}
use Rattle.access.specs.Reads.{told}
use Rattle.picture.specs.Pen.{fresh_pen}
use Rattle.chip.specs.declared.Picture.{Picture}
use Rattle.chip.specs.declared.Chip.{Chip}
use Rattle.chip.specs.declared.Answer.{Answer}

abbrev pub chip : Registers → Side → Picture → Chip
chip regs side picture = record { regs = regs; side = side; picture = picture }

-- what a call answers: the number of its refusal, 0 for none, and the chip; it has read nothing
abbrev pub answer : ℕ → Chip → Answer
answer n c = record { refused = n; chip = c; reads = told [] }

-- 02 (viii): what a tick that is taken answers: the chip and its reads
abbrev pub reading : Chip → Reads → Answer
reading c r = record { refused = 0; chip = c; reads = r }

-- 01, power-up: the parts' own values; 02 (iv): of a kind, which is kept if it is unknown too
unfoldable pub powered : ℕ → Chip
powered kind =
    record {
      regs = File.fresh;
      side = fresh_side kind;
      picture = record { pen = fresh_pen; matrix = zeros 40; pointers = zeros 8; bytes = zeros 24; words = zeros 8 };
    }
