-- The parts of a line as the code hands them on: the timing side with what the picture goes by, the forty columns, and the sprites' slots. No rules: each is a definition of the line.
use Rattle.std.specs.Prelude.{ℕ, Bool, false, not, ◌||◌, List, eqb, ℤ}
use Rattle.laws.specs.Pick.{pick}
use Rattle.schedule.specs.Kind.{Kind}
use Rattle.memory.specs.Lent.{Host}
use Rattle.registers.specs.declared.Controls.{Controls}
use Rattle.registers.specs.declared.Registers.{Registers}
use Rattle.registers.specs.Control.{mode_number}
use Rattle.sprites.specs.declared.Sprites.{Sprites}
use Rattle.arbitration.specs.declared.Bus.{Bus}
use Rattle.rows.specs.declared.Rows.{Rows}
use Rattle.side.specs.declared.Side.{Side}
use Rattle.access.specs.Merge.{Merging, merging}
use Rattle.picture.specs.declared.Pen.{Pen}
use Rattle.picture.specs.Pen.{Latches}
use Rattle.lines.specs.Begin.{kind_in, line_of, raster_of}
use Rattle.lines.specs.Sprites.{sprites_loaded, early_slots, late_slots}
use Rattle.lines.specs.Bus.{Masks, low_in}
use Rattle.lines.specs.Rows.{shows_of, base_of, rc_of}
use Rattle.lines.specs.Columns.{matrix_line, columns_line}
use Rattle.lines.specs.Side.{line_side}
use Rattle.lines.specs.Slots.{Fetch, slots_read}
use Rattle.columns.specs.Columns.{hidden_by, since_in, word_in}
use Rattle.engine.specs.declared.Begun.{Begun}
use Rattle.engine.specs.declared.Framed.{Framed}
use Rattle.engine.specs.declared.Turned.{Turned}
use Rattle.engine.specs.Begin.{begun_of, framed_of}

abbrev pub turned_of : Controls → Side → Turned
turned_of g s =
    record {
      side = line_side g s;
      begun = begun_of g s;
      framed = framed_of (line_of g s) (raster_of g s) g.den g.csel s.border;
      loaded = sprites_loaded (kind_in s) (raster_of g s) g.my g.enable g.yexp s.sprites;
    }

-- the matrix line and the latch after the forty columns
unfoldable pub row_merged : Host → ℕ → Rows → Begun → Framed → ℤ → Pen → List ℕ → Merging
row_merged h ptrs rows b f clock pen matrix =
    let shows = shows_of b.rises rows in
    columns_line shows (b.bad || not (eqb (rc_of b.bad rows) 0)) (hidden_by f.hidden.first f.hidden.second f.hidden.rest) (since_in clock pen.forced) 40
    (merging pen.ch pen.carry (matrix_line (word_in h.ram h.rom h.colour h.bank ptrs (base_of b.wraps rows)) b.bad shows matrix))

-- the pen with that latch
abbrev pub pen_line : Registers → Merging → Pen → Pen
pen_line g m p =
    let mode = mode_number g.ctrl1 g.ctrl2 in
    record { ch = m.ch; carry = m.carry; gfx = 0; mode = mode; old = pick p.changing mode p.old; changing = false; forced = p.forced }

-- DMA before the comparisons and after them
abbrev pub two_masks : ℕ → ℕ → Masks
two_masks before after = record { before = before; first = after; after = after }

abbrev pub fetch_by : Kind → Bool → Masks → Bus → ℕ → List ℕ → List ℕ → ℕ → Fetch
fetch_by k bad m b ptrs ram rom bank = record { ptrs = ptrs; ram = ram; rom = rom; bank = bank; low = low_in k bad m b }

-- the slots that a line begins with, and those that it ends with
abbrev pub slots_by : Kind → Fetch → Sprites → Sprites → Latches → Latches
slots_by k f before loaded l = slots_read k f (late_slots k) loaded (slots_read k f (early_slots k) before l)
