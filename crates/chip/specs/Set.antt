-- A record with one field changed: the only place that lists every field. Written by tools/setters.
use Rattle.std.specs.Prelude.{ℕ, List}
use Rattle.registers.specs.declared.Registers.{Registers}
use Rattle.side.specs.declared.Side.{Side}
use Rattle.picture.specs.declared.Pen.{Pen}
use Rattle.chip.specs.declared.Chip.{Chip}
use Rattle.chip.specs.declared.Picture.{Picture}

abbrev pub regs≔ : Registers → Chip → Chip
regs≔ v r = record { regs = v; side = r.side; picture = r.picture }

abbrev pub side≔ : Side → Chip → Chip
side≔ v r = record { regs = r.regs; side = v; picture = r.picture }

abbrev pub picture≔ : Picture → Chip → Chip
picture≔ v r = record { regs = r.regs; side = r.side; picture = v }

abbrev pub pen≔ : Pen → Picture → Picture
pen≔ v r = record { pen = v; matrix = r.matrix; pointers = r.pointers; bytes = r.bytes; words = r.words }

abbrev pub matrix≔ : List ℕ → Picture → Picture
matrix≔ v r = record { pen = r.pen; matrix = v; pointers = r.pointers; bytes = r.bytes; words = r.words }

abbrev pub pointers≔ : List ℕ → Picture → Picture
pointers≔ v r = record { pen = r.pen; matrix = r.matrix; pointers = v; bytes = r.bytes; words = r.words }

abbrev pub bytes≔ : List ℕ → Picture → Picture
bytes≔ v r = record { pen = r.pen; matrix = r.matrix; pointers = r.pointers; bytes = v; words = r.words }

abbrev pub words≔ : List ℕ → Picture → Picture
words≔ v r = record { pen = r.pen; matrix = r.matrix; pointers = r.pointers; bytes = r.bytes; words = v }
