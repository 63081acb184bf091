-- The parts of the timing side, each by itself, after n cycles of a line: no part reads one that stands below it here. Assumes nothing.
use Prim.Native.Nat.{ℕ, zero, suc}
use mathlib.Core.Bool.{Bool, false, not, ◌&&◌}
use Rattle.schedule.specs.Diagram.{happens, line_begins, slot_sprite, pointer_time, data_time}
use Rattle.schedule.specs.Requests.{mask_at}
use Rattle.registers.specs.declared.Controls.{Controls}
use Rattle.timing.specs.Beam.{bad_line, ba_output}
use Rattle.raster.specs.declared.Swept.{Swept}
use Rattle.raster.specs.Frame.{swept}
use Rattle.raster.specs.Refresh.{refresh_from, refresh_after}
use Rattle.border.specs.declared.Border.{Border}
use Rattle.sprites.specs.declared.Sprites.{Sprites}
use Rattle.arbitration.specs.declared.Bus.{Bus}
use Rattle.arbitration.specs.Bus.{clocked, requested, arbitrated, counted}
use Rattle.rows.specs.declared.Rows.{Rows}
use Rattle.rows.specs.declared.Rowed.{Rowed}
use Rattle.rows.specs.declared.Waits.{Waits}
use Rattle.rows.specs.Rows.{rowed}
use Rattle.rows.specs.Pending.{pending_after}
use Rattle.side.specs.declared.Side.{Side}
use Rattle.side.specs.Phases.{bordered, phased, slot_moved}
use Rattle.lines.specs.Begin.{kind_in}

module _ (g : Controls) (s : Side) where
  -- the line and the frame
  unfoldable pub sweep_in : ℕ → Swept
  sweep_in zero = record { begins = false; line = s.beam.raster; wraps = false; raster = s.beam.raster; latch = s.beam.latch; kept = s.beam.latch; frame = s.frame; irq = s.irq }
  sweep_in (suc n) = swept (kind_in s) (sweep_in n).frame (sweep_in n).irq (suc n) (sweep_in n).raster g.compare g.den (sweep_in n).kept

  unfoldable pub bad_in : ℕ → Bool
  bad_in zero = s.beam.bad
  bad_in (suc n) = bad_line (sweep_in (suc n)).line g.yscroll (sweep_in (suc n)).latch

  unfoldable pub border_in : ℕ → Border
  border_in zero = s.border
  border_in (suc n) = bordered (kind_in s) (suc n) (sweep_in (suc n)).raster g.den g.csel (border_in n)

  unfoldable pub sprites_in : ℕ → Sprites
  sprites_in zero = s.sprites
  sprites_in (suc n) =
      slot_moved (pointer_time (kind_in s) (suc n)) (data_time (kind_in s) (suc n)) (slot_sprite (kind_in s) (suc n))
      (phased (kind_in s) (suc n) (sweep_in (suc n)).raster g.my g.enable g.yexp (sprites_in n))

  -- the sprites before their slot, in cycle n + 1
  abbrev pub phased_in : ℕ → Sprites
  phased_in n = phased (kind_in s) (suc n) (sweep_in (suc n)).raster g.my g.enable g.yexp (sprites_in n)

  unfoldable pub asked_in : ℕ → Bool
  asked_in zero = s.bus.balow
  asked_in (suc n) = requested (ba_output (bad_in (suc n)) (suc n)) (phased_in n).dma (mask_at (kind_in s) (suc n))

  unfoldable pub bus_in : ℕ → Bus
  bus_in zero = s.bus
  bus_in (suc n) = counted (happens line_begins (suc n)) (arbitrated (clocked 1 (bus_in n)) (asked_in (suc n)))

  unfoldable pub rows_in : ℕ → Rows
  rows_in zero = s.rows
  rows_in (suc n) = (rowed (suc n) (bad_in (suc n)) (bad_in (suc n) && not (bad_in n)) (sweep_in (suc n)).wraps (rows_in n)).rows

  -- the display logic in cycle n + 1
  abbrev pub rowed_in : ℕ → Rowed
  rowed_in n = rowed (suc n) (bad_in (suc n)) (bad_in (suc n) && not (bad_in n)) (sweep_in (suc n)).wraps (rows_in n)

  unfoldable pub pending_in : ℕ → Waits
  pending_in zero = s.pending
  pending_in (suc n) = pending_after ((rowed_in n).fetches && not (bus_in (suc n)).aeclow) (rowed_in n).rows.vmli (pending_in n)

  -- the refresh counter, as cycle n + 1 finds it and as cycle n leaves it
  abbrev pub found_in : ℕ → ℕ → ℕ
  found_in n ref = refresh_from (sweep_in (suc n)).wraps ref

  unfoldable pub refresh_in : ℕ → ℕ
  refresh_in zero = s.refresh
  refresh_in (suc n) = refresh_after (suc n) (found_in n (refresh_in n))

  -- the whole side after n + 1 cycles
  abbrev pub side_in : ℕ → Side
  side_in n =
      record {
        irq = (sweep_in (suc n)).irq;
        beam = record {
          kind = s.beam.kind;
          cycle = suc n;
          raster = (sweep_in (suc n)).raster;
          den = g.den;
          rsel = g.rsel;
          yscroll = g.yscroll;
          latch = (sweep_in (suc n)).kept;
          bad = bad_in (suc n);
          rising = bad_in (suc n) && not (bad_in n);
          ba = ba_output (bad_in (suc n)) (suc n);
        };
        frame = (sweep_in (suc n)).frame;
        border = border_in (suc n);
        sprites = sprites_in (suc n);
        bus = bus_in (suc n);
        rows = rows_in (suc n);
        pending = pending_in (suc n);
        changed = (sweep_in (suc n)).irq.line;
        refresh = refresh_in (suc n);
      }
