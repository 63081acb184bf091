-- One tick of the timing side: each part has its step's number of 01's list, and stands after the parts that it reads. No picture value is in sight.
use Rattle.std.specs.Prelude.{ℕ, Bool, false, not, ◌&&◌, ◌||◌, eqb, None}
use Rattle.laws.specs.Bits.{has_bit}
use Rattle.laws.specs.Pick.{pick}
use Rattle.schedule.specs.Kind.{kind_of}
use Rattle.schedule.specs.Diagram.{happens, line_begins, pointer_time, data_time, slot_sprite, slot_after_bus}
use Rattle.schedule.specs.Requests.{mask_at}
use Rattle.registers.specs.declared.Controls.{Controls}
use Rattle.registers.specs.Irq.{quiet}
use Rattle.timing.specs.Beam.{next_cycle, beam_turned}
use Rattle.timing.specs.Beam as Beams
use Rattle.raster.specs.Frame.{swept}
use Rattle.raster.specs.Frame as Frames
use Rattle.raster.specs.Refresh.{refresh_from, refresh_after}
use Rattle.border.specs.Border as Borders
use Rattle.sprites.specs.Sprites.{all_fresh, sprite_at}
use Rattle.arbitration.specs.Bus.{clocked, requested, arbitrated, counted}
use Rattle.arbitration.specs.Bus as Buses
use Rattle.rows.specs.Rows.{rowed}
use Rattle.rows.specs.Rows as Rows
use Rattle.rows.specs.Pending.{waits, pending_after}
use Rattle.side.specs.declared.Side.{Side}
use Rattle.side.specs.declared.Turned.{Turned}
use Rattle.side.specs.Phases.{bordered, phased, slot_moved}

-- 01, power-up: the parts' own values; 02 (iv): the beam's by the kind
unfoldable pub fresh_side : ℕ → Side
fresh_side kind =
    record {
      irq = quiet;
      beam = Beams.fresh kind;
      frame = Frames.fresh;
      border = Borders.fresh;
      sprites = all_fresh;
      bus = Buses.fresh;
      rows = Rows.fresh;
      pending = waits None;
      changed = false;
      -- 02 (xiv)
      refresh = 0xFF;
    }

unfoldable pub turned : Controls → Side → Turned
turned g s =
    let k = kind_of s.beam.kind in
    -- tick 1: cycle +1
    let cycle = next_cycle k s.beam.cycle in
    -- tick 3 and 4: a line begins, a frame ends
    let sweep = swept k s.frame s.irq cycle s.beam.raster g.compare g.den s.beam.latch in
    let raster = sweep.raster in
    -- tick 1 to 4: the beam, with the live bad line
    let beam = beam_turned s.beam cycle sweep.line sweep.latch sweep.kept raster g.den g.rsel g.yscroll in
    -- tick 3, 7, 8 and 9: the border's compares, the sprites' phases
    let border = bordered k cycle raster g.den g.csel s.border in
    let sprites = phased k cycle raster g.my g.enable g.yexp s.sprites in
    -- tick 8: arbitration, at the clock of tick 1; 02 (xi): after it the tick is counted
    let bus = counted (happens line_begins cycle) (arbitrated (clocked 1 s.bus) (requested beam.ba sprites.dma (mask_at k cycle))) in
    -- tick 5: the slot of this cycle
    let n = slot_sprite k cycle in
    let pointing = pointer_time k cycle in
    let fetching = data_time k cycle in
    -- tick 8: the row counters
    let now = rowed cycle beam.bad beam.rising sweep.wraps s.rows in
    -- 02 (xiv): the refresh counter, which an access of this cycle reads at before it goes one down
    let counter = refresh_from sweep.wraps s.refresh in
    record {
      side = record {
        irq = sweep.irq;
        beam = beam;
        frame = sweep.frame;
        border = border;
        sprites = slot_moved pointing fetching n sprites;
        bus = bus;
        rows = now.rows;
        pending = pending_after (now.fetches && not bus.aeclow) now.rows.vmli s.pending;
        -- tick 10: IRQ-changed copies the line
        changed = sweep.irq.line;
        refresh = refresh_after cycle counter;
      };
      orders = record {
        cycle = cycle;
        graphics = now.graphics;
        moves = now.moves;
        waiting = now.waiting;
        plain = beam.bad || not (eqb now.rc 0);
        hidden = border.disabled;
        vc = now.vc;
        vmli = now.vmli;
        rc = now.rc;
        fills = now.fetches && bus.aeclow;
        place = now.rows.vmli;
        column = now.rows.vc;
        sprite = n;
        pointing = pointing;
        fetching = fetching;
        mask = has_bit sprites.dma n;
        mc = (sprite_at sprites n).mc;
        -- tick 5 and 8: most slots come before their cycle's arbitration
        low = pick (slot_after_bus k cycle) bus.aeclow s.bus.aeclow;
        refresh = counter;
      };
    }
