-- The timing side's next line, from a state at the last cycle of a line.
use Rattle.std.specs.Prelude.{true, false}
use Rattle.schedule.specs.Kind.{last_cycle}
use Rattle.registers.specs.declared.Controls.{Controls}
use Rattle.side.specs.declared.Side.{Side}
use Rattle.lines.specs.Begin.{kind_in, line_of, wraps_of, raster_of, latch_line, frame_line, irq_line, refresh_line, bad_of, rises_of}
use Rattle.lines.specs.Border.{border_line}
use Rattle.lines.specs.Sprites.{sprites_line}
use Rattle.lines.specs.Bus.{Masks, masks_of, bus_line}
use Rattle.lines.specs.Rows.{rows_line}

module _ (g : Controls) (s : Side) where
  abbrev pub masks_in : Masks
  masks_in = masks_of (kind_in s) (raster_of g s) g.my g.enable g.yexp s.sprites

  unfoldable pub line_side : Side
  line_side =
      record {
        irq = irq_line g s;
        beam = record {
          kind = s.beam.kind;
          cycle = last_cycle (kind_in s);
          raster = raster_of g s;
          den = g.den;
          rsel = g.rsel;
          yscroll = g.yscroll;
          latch = latch_line g s;
          bad = bad_of g s;
          rising = false;
          ba = true;
        };
        frame = frame_line g s;
        border = border_line (line_of g s) (raster_of g s) g.den g.csel s.border;
        sprites = sprites_line (kind_in s) (raster_of g s) g.my g.enable g.yexp s.sprites;
        bus = bus_line (kind_in s) (bad_of g s) masks_in s.bus;
        rows = rows_line (bad_of g s) (rises_of g s) (wraps_of g s) s.rows;
        -- Bauer 3.6.1: on a bad line AEC is low before the first character access, so that no place is left to the CPU
        pending = s.pending;
        -- 01, tick 10
        changed = (irq_line g s).line;
        refresh = refresh_line g s;
      }
