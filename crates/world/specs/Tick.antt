-- The tick: its definition, and what it reads.
use Rattle.std.specs.Prelude.{ℕ, List}
use Rattle.schedule.specs.Kind.{kind_of}
use Rattle.memory.specs.Lent.{Host}
use Rattle.registers.specs.declared.Registers.{Registers}
use Rattle.registers.specs.Control.{mode_number, timed}
use Rattle.side.specs.Turn.{turned}
use Rattle.access.specs.declared.Read.{Read}
use Rattle.picture.specs.Pen.{pen_after, matrix_after, slotted}
use Rattle.picture.specs.Reads.{reads_by}
use Rattle.chip.specs.declared.Chip.{Chip}
use Rattle.world.specs.World.{World, world_of, chip_of}

-- 01, One tick: the timing side's step, then the picture's, by its orders
unfoldable pub tick_world : Host → Registers → World → World
tick_world h g w =
    let t = turned (timed g) w.side in
    let clock = t.side.bus.clock in
    -- tick 5: the sprite slot
    let s = slotted w.pointers w.bytes w.words t.orders g.ptrs h.ram h.rom h.bank in
    record {
      side = t.side;
      -- tick 6, 8 and 10
      pen = pen_after w.matrix t.orders clock w.pen (mode_number g.ctrl1 g.ctrl2) g.ptrs h.ram h.rom h.bank;
      matrix = matrix_after w.matrix t.orders clock w.pen g.ptrs h.ram h.rom h.colour h.bank;
      pointers = s.pointers;
      bytes = s.bytes;
      words = s.words;
    }

-- 02 (viii): what that tick reads, in order
unfoldable pub tick_reads : Host → Registers → World → List Read
tick_reads h g w =
    let turn = turned (timed g) w.side in
    reads_by (kind_of w.side.beam.kind) w.matrix w.pointers turn.orders turn.side.bus.clock w.pen (mode_number g.ctrl1 g.ctrl2) g.ptrs h.ram h.rom h.bank

abbrev pub tick_of : Host → Chip → Chip
tick_of h c = chip_of c.regs (tick_world h c.regs (world_of c))
