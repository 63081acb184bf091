-- What a line begins with, in one record, as the code hands it on. No rules: each is a definition of the line.
use Rattle.registers.specs.declared.Controls.{Controls}
use Rattle.registers.specs.declared.Irq.{Irq}
use Rattle.border.specs.declared.Border.{Border}
use Rattle.side.specs.declared.Side.{Side}
use Rattle.std.specs.Prelude.{ℕ, Bool, ◌&&◌, eqb}
use Rattle.raster.specs.Frame.{match_raises, raised}
use Rattle.lines.specs.Begin.{line_of, wraps_of, raster_of, matched_of, latch_line, bad_of, rises_of}
use Rattle.lines.specs.Border.{border_line, hidden_in}
use Rattle.engine.specs.declared.Begun.{Begun}
use Rattle.engine.specs.declared.Framed.{Framed}

abbrev pub begun_of : Controls → Side → Begun
begun_of g s =
    record {
      line = line_of g s;
      wraps = wraps_of g s;
      raster = raster_of g s;
      matched = matched_of g s;
      latch = latch_line g s;
      bad = bad_of g s;
      rises = rises_of g s;
    }

-- the interrupt of a match, and of line 0
abbrev pub interrupt_of : Irq → Bool → Bool → Bool → ℕ → Irq
interrupt_of irq before matched wraps compare = raised (raised irq (match_raises matched before)) (wraps && eqb compare 0)

-- the border, and output shut off in column 0, in column 1 and from column 2 on
abbrev pub framed_of : ℕ → ℕ → Bool → Bool → Border → Framed
framed_of line raster den csel b =
    record {
      border = border_line line raster den csel b;
      hidden = record { first = hidden_in line raster den csel b 0; second = hidden_in line raster den csel b 1; rest = hidden_in line raster den csel b 2 };
    }
