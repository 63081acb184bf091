-- The numbers that the calls gave, put together, are the definition's record. Assumes nothing.
use Prim.Native.Nat.{ℕ}
use mathlib.Core.Path.{◌≡◌}
use mathlib.Core.Bool.{Bool, not, ◌&&◌, ◌||◌}
use lib.Dec.{eqb}
use Rattle.laws.specs.Bits.{has_bit}
use Rattle.laws.specs.Pick.{pick}
use Rattle.schedule.specs.Kind.{kind_of}
use Rattle.schedule.specs.Requests.{mask_at}
use Rattle.schedule.specs.Diagram.{happens, line_begins, pointer_time, data_time, slot_sprite, slot_after_bus}
use Rattle.registers.specs.declared.Controls.{Controls}
use Rattle.timing.specs.declared.Beam.{Beam}
use Rattle.timing.specs.Beam.{next_cycle, beam_turned}
use Rattle.raster.specs.declared.Swept.{Swept}
use Rattle.raster.specs.Frame.{swept}
use Rattle.raster.specs.Refresh.{refresh_from, refresh_after}
use Rattle.border.specs.declared.Border.{Border}
use Rattle.sprites.specs.declared.Sprite.{Sprite}
use Rattle.sprites.specs.declared.Sprites.{Sprites}
use Rattle.sprites.specs.Sprites.{sprite_at}
use Rattle.arbitration.specs.declared.Bus.{Bus}
use Rattle.arbitration.specs.Bus.{clocked, requested, arbitrated, counted}
use Rattle.rows.specs.declared.Rowed.{Rowed}
use Rattle.rows.specs.declared.Waits.{Waits}
use Rattle.rows.specs.Rows.{rowed}
use Rattle.rows.specs.Pending.{pending_after}
use Rattle.side.specs.declared.Side.{Side}
use Rattle.side.specs.declared.Turned.{Turned}
use Rattle.side.specs.Phases.{bordered, phased, slot_moved}
use Rattle.side.specs.Turn.{turned}

pub turn_glue : (g : Controls) (s : Side) {clk arb bus : Bus} {cycle asking n counter refresh : ℕ} {asked begins mask after low pointing fetching : Bool} {sweep : Swept} {beam : Beam} {border : Border} {ph spr : Sprites} {sprite : Sprite} {now : Rowed} {pending : Waits}
    → clk ≡ clocked 1 s.bus
    → cycle ≡ next_cycle (kind_of s.beam.kind) s.beam.cycle
    → sweep ≡ swept (kind_of s.beam.kind) s.frame s.irq cycle s.beam.raster g.compare g.den s.beam.latch
    → border ≡ bordered (kind_of s.beam.kind) cycle sweep.raster g.den g.csel s.border
    → ph ≡ phased (kind_of s.beam.kind) cycle sweep.raster g.my g.enable g.yexp s.sprites
    → beam ≡ beam_turned s.beam cycle sweep.line sweep.latch sweep.kept sweep.raster g.den g.rsel g.yscroll
    → asking ≡ mask_at (kind_of s.beam.kind) cycle
    → asked ≡ requested beam.ba ph.dma asking
    → arb ≡ arbitrated clk asked
    → begins ≡ happens line_begins cycle
    → bus ≡ counted begins arb
    → n ≡ slot_sprite (kind_of s.beam.kind) cycle
    → pointing ≡ pointer_time (kind_of s.beam.kind) cycle
    → fetching ≡ data_time (kind_of s.beam.kind) cycle
    → sprite ≡ sprite_at ph n
    → mask ≡ has_bit ph.dma n
    → spr ≡ slot_moved pointing fetching n ph
    → after ≡ slot_after_bus (kind_of s.beam.kind) cycle
    → low ≡ pick after bus.aeclow s.bus.aeclow
    → now ≡ rowed cycle beam.bad beam.rising sweep.wraps s.rows
    → pending ≡ pending_after (now.fetches && not bus.aeclow) now.rows.vmli s.pending
    → counter ≡ refresh_from sweep.wraps s.refresh
    → refresh ≡ refresh_after cycle counter
    → ◌≡◌ {A = Turned} (record {
      side = record {
        irq = sweep.irq;
        beam = beam;
        frame = sweep.frame;
        border = border;
        sprites = spr;
        bus = bus;
        rows = now.rows;
        pending = pending;
        changed = sweep.irq.line;
        refresh = refresh;
      };
      orders = record {
        cycle = cycle;
        graphics = now.graphics;
        moves = now.moves;
        waiting = now.waiting;
        plain = beam.bad || not (eqb now.rc 0);
        hidden = border.disabled;
        vc = now.vc;
        vmli = now.vmli;
        rc = now.rc;
        fills = now.fetches && bus.aeclow;
        place = now.rows.vmli;
        column = now.rows.vc;
        sprite = n;
        pointing = pointing;
        fetching = fetching;
        mask = mask;
        mc = sprite.mc;
        low = low;
        refresh = counter;
      };
    }) (turned g s)
unfolding turned
turn_glue g s clk cycle sweep border ph beam asking asked arb begins bus n pointing fetching sprite mask spr after low now pending counter refresh =
    rw (← clk, ← cycle, ← sweep, ← border, ← ph, ← beam, ← asking, ← asked, ← arb, ← begins, ← bus, ← n, ← pointing, ← fetching, ← sprite, ← mask, ← spr, ← after, ← low, ← now, ← pending, ← counter, ← refresh)
