-- What the chart says of a tick.
use Rattle.std.specs.Prelude.{ℕ, ◌%◌, Bool, cond}
use Rattle.chip.specs.declared.Chip.{Chip}
use Rattle.calls.specs.Calls.{dma_count}
use Rattle.line.specs.declared.Eight.{Eight}

-- 01, chart: 0 is low
abbrev pub level_of : Bool → ℕ
level_of low = cond low 0 1

-- 01, chart: cycle, raster, BA as arbitration left it, AEC, sprites with DMA, RC, VC, low four IRQ flags
unfoldable pub numbers_of : Chip → Eight
numbers_of c =
    record {
      cycle = c.side.beam.cycle;
      raster = c.side.beam.raster;
      ba = level_of c.side.bus.balow;
      aec = level_of c.side.bus.aeclow;
      dma = dma_count c;
      rc = c.side.rows.rc;
      vc = c.side.rows.vc;
      irq = c.side.irq.flags % 16;
    }
