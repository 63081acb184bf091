-- The next line of the whole chip, from a state at the last cycle of a line (02 (xii)).
use Rattle.std.specs.Prelude.{ℕ, ◌+◌, false, not, ◌||◌, eqb}
use Rattle.laws.specs.Pick.{pick}
use Rattle.memory.specs.Lent.{Host}
use Rattle.registers.specs.declared.Registers.{Registers}
use Rattle.registers.specs.Control.{mode_number, timed}
use Rattle.arbitration.specs.Bus.{clock_on}
use Rattle.access.specs.Matrix.{matrix_entry}
use Rattle.access.specs.Merge.{Merging, merging, since_of}
use Rattle.picture.specs.Pen.{Latches}
use Rattle.world.specs.World.{World}
use Rattle.lines.specs.Begin.{kind_in, line_of, wraps_of, raster_of, bad_of, rises_of}
use Rattle.lines.specs.Border.{hidden_in}
use Rattle.lines.specs.Bus.{low_in}
use Rattle.lines.specs.Rows.{base_of, rc_of, shows_of}
use Rattle.lines.specs.Side.{masks_in, line_side}
use Rattle.lines.specs.Slots.{Fetch, slots_line}
use Rattle.lines.specs.Columns.{matrix_line, columns_line, column_cycle}

module _ (h : Host) (g : Registers) (w : World) where
  -- what the sprites' slots go by
  abbrev pub fetch_of : Fetch
  fetch_of =
      let c = timed g in
      let s = w.side in
      record { ptrs = g.ptrs; ram = h.ram; rom = h.rom; bank = h.bank; low = low_in (kind_in s) (bad_of c s) (masks_in c s) s.bus }

  -- Bauer 3.6.3: the sprites' slots
  unfoldable pub latches_line : Latches
  latches_line =
      let c = timed g in
      let s = w.side in
      slots_line (kind_in s) fetch_of (raster_of c s) c.my c.enable c.yexp s.sprites (record { pointers = w.pointers; bytes = w.bytes; words = w.words })

  -- Bauer 3.7.2 rule 3: the matrix line is filled, then shown column after column; DECISIONS 26: a row merges in its RC 0, where the line is not bad
  unfoldable pub merge_line : Merging
  merge_line =
      let c = timed g in
      let s = w.side in
      let bad = bad_of c s in
      let shows = shows_of (rises_of c s) s.rows in
      let base = base_of (wraps_of c s) s.rows in
      columns_line shows (bad || not (eqb (rc_of bad s.rows) 0))
      (hidden_in (line_of c s) (raster_of c s) c.den c.csel s.border)
      (λ (j : ℕ). since_of (clock_on (column_cycle j) s.bus.clock) w.pen.forced)
      40
      (merging w.pen.ch w.pen.carry (matrix_line (λ (j : ℕ). (matrix_entry h.ram h.rom h.colour h.bank g.ptrs (base + j)).word) bad shows w.matrix))

  unfoldable pub line_world : World
  line_world =
      let mode = mode_number g.ctrl1 g.ctrl2 in
      record {
        side = line_side (timed g) w.side;
        pen = record {
          ch = merge_line.ch;
          carry = merge_line.carry;
          -- 01, tick 8: cleared in the cycle after the last column
          gfx = 0;
          -- 01, tick 6 and 10
          mode = mode;
          old = pick w.pen.changing mode w.pen.old;
          changing = false;
          forced = w.pen.forced;
        };
        matrix = merge_line.matrix;
        pointers = latches_line.pointers;
        bytes = latches_line.bytes;
        words = latches_line.words;
      }
