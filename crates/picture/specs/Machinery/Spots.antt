-- Where the code's steps of a cycle read, and what they note of it. `proofs/Told.antt` has the tick's reads from that.
use Rattle.std.specs.Prelude.{ℕ, Bool, false, cond, List, eqb, ℤ}
use Rattle.laws.specs.Pick.{pick}
use Rattle.schedule.specs.Diagram.{happens, refresh, graphics_cleared}
use Rattle.schedule.specs.Machinery.Reads.{reasons, lit_reasons, pointer_reasons, data_reasons, gap_reasons}
use Rattle.raster.specs.Refresh.{refresh_address}
use Rattle.memory.specs.declared.Found.{Found}
use Rattle.access.specs.declared.Latch.{Latch}
use Rattle.access.specs.declared.Spots.{Spots}
use Rattle.access.specs.Machinery.Noted.{noted_of}
use Rattle.access.specs.Matrix.{fill_spot}
use Rattle.access.specs.Slots.{pointer_spots, data_spots}
use Rattle.side.specs.declared.Orders.{Orders}
use Rattle.picture.specs.declared.Pen.{Pen}
use Rattle.picture.specs.declared.Drawn.{Drawn}
use Rattle.picture.specs.Pen.{character_of, graphics_of, pen_after}

-- the graphics access's and the character access's
abbrev pub draw_spots : List ℕ → Orders → ℤ → Pen → ℕ → ℕ → List ℕ → List ℕ → ℕ → Spots
draw_spots m o clock p mode ptrs ram rom bank =
    record {
      first = (graphics_of (character_of m o clock p).ch o clock p mode ptrs ram rom bank).address;
      second = fill_spot o.fills o.column ptrs ram rom bank;
    }

-- the graphics byte of a cycle without a graphics access, which reads nowhere
abbrev pub dark_byte : Orders → Pen → Found
dark_byte o p = record { byte = pick (happens graphics_cleared o.cycle) 0 p.gfx; address = 0 }

-- the end of a cycle, whose latch and graphics byte are there
abbrev pub finished : Pen → Orders → ℕ → ℕ → Latch → Found → List ℕ → List ℕ → ℕ → Drawn
finished p o mode ptrs latch found ram rom bank =
    record {
      pen = record { ch = latch.ch; carry = latch.carry; gfx = found.byte; mode = mode; old = pick p.changing mode p.old; changing = false; forced = p.forced };
      spots = record { first = found.address; second = fill_spot o.fills o.column ptrs ram rom bank };
    }

unfoldable pub drawn_by : List ℕ → Orders → ℤ → Pen → ℕ → ℕ → List ℕ → List ℕ → ℕ → Drawn
drawn_by m o clock p mode ptrs ram rom bank =
    record { pen = pen_after m o clock p mode ptrs ram rom bank; spots = draw_spots m o clock p mode ptrs ram rom bank }

abbrev pub spots : ℕ → ℕ → Spots
spots x y = record { first = x; second = y }

-- a refresh access's, or the idle one's
abbrev pub gap_spot : Bool → ℕ → ℕ
gap_spot refreshing ref = cond refreshing (refresh_address ref) 0x3FFF

-- the slot's reads, and where there is no slot the gap's
unfoldable pub slot_noted : List ℕ → Orders → ℕ → List ℕ → List ℕ → ℕ → ℕ
slot_noted ps o ptrs ram rom bank =
    cond o.pointing (noted_of (pointer_reasons (eqb o.sprite 0) o.mask o.low) (pointer_spots o.sprite o.mask o.mc ptrs ram rom bank))
    (cond o.fetching (noted_of (data_reasons o.mask o.low) (data_spots ps o.sprite o.mask o.mc ram rom bank))
    (noted_of (gap_reasons (happens refresh o.cycle)) (spots (gap_spot (happens refresh o.cycle) o.refresh) 0)))

-- a cycle with a graphics access
unfoldable pub lit_noted : Orders → Spots → ℕ
lit_noted o at = noted_of (lit_reasons o.moves o.fills) at

-- a cycle without one: where the matrix is read, it is after the refresh
unfoldable pub dark_noted : Orders → ℕ → Spots → ℕ
dark_noted o slot at = cond o.fills (noted_of (reasons 6 3) (spots (refresh_address o.refresh) at.second)) slot
