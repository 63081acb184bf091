-- The steps of a cycle with a graphics access, and of one without, are the definition's: what does not happen there is left out. Assumes nothing.
use Prim.Native.Nat.{ℕ}
use mathlib.Core.Path.{◌≡◌, sym, ◌∙◌}
use mathlib.Core.Bool.{Bool, false, not, ◌&&◌, ◌||◌}
use mathlib.Core.List.{List}
use lib.Dec.{eqb}
use Rattle.laws.specs.Bits.{has_bit}
use Rattle.laws.proofs.Choice.{picks}
use Rattle.schedule.specs.Kind.{Kind, kind_of}
use Rattle.schedule.specs.Diagram.{happens, graphics_access}
use Rattle.schedule.specs.Requests.{mask_at}
use Rattle.schedule.specs.Machinery.Places.{place_of, Placed}
use Rattle.schedule.specs.Machinery.Stretches.{before_graphics}
use Rattle.schedule.proofs.Places.{Calm}
use Rattle.schedule.proofs.Parts.{Lit, Slotless, Past, Mid, Unasked, Dark, Between}
use Rattle.registers.specs.declared.Controls.{Controls}
use Rattle.timing.specs.declared.Beam.{Beam}
use Rattle.timing.specs.Beam.{next_cycle, latched, beam_turned}
use Rattle.timing.proofs.Kept.{cycle_low, cycle_high, before_graphics_lem}
use Rattle.raster.proofs.Laws.{swept_later, refresh_rests}
use Rattle.border.specs.declared.Border.{Border}
use Rattle.sprites.specs.declared.Sprite.{Sprite}
use Rattle.sprites.specs.declared.Sprites.{Sprites}
use Rattle.sprites.specs.Sprites.{sprite_at}
use Rattle.arbitration.specs.declared.Bus.{Bus}
use Rattle.arbitration.specs.Bus.{clocked, requested, arbitrated, counted}
use Rattle.rows.specs.declared.Rowed.{Rowed}
use Rattle.rows.specs.declared.Waits.{Waits}
use Rattle.rows.specs.Rows.{rowed}
use Rattle.rows.specs.Pending.{pending_after}
use Rattle.side.specs.declared.Side.{Side}
use Rattle.side.specs.declared.Turned.{Turned}
use Rattle.side.specs.Phases.{begin_at, left40_at, left38_at, right38_at, right40_at, remember_at, end_at, bordered, step_at, first_at, second_at, load_at, phased, slot_moved}
use Rattle.side.specs.Turn.{turned}

module _ (k : Kind) (c raster : ℕ) (den csel : Bool) (b : Border) where
  pub border_left : Lit c → Slotless k c → remember_at c (left38_at c raster den csel (left40_at c raster den csel b)) ≡ bordered k c raster den csel b
  unfolding bordered begin_at right38_at right40_at end_at
  border_left l o = rw (l.begins, l.inner, l.outer, o.last)

  pub border_past : Lit c → Slotless k c → Past c → b ≡ bordered k c raster den csel b
  unfolding bordered begin_at left40_at left38_at right38_at right40_at remember_at end_at
  border_past l o p = rw (l.begins, p.wide, p.narrow, l.inner, l.outer, p.kept, o.last)

  pub border_ends : Dark c → end_at k c raster den (right40_at c csel (right38_at c csel (begin_at c raster den b))) ≡ bordered k c raster den csel b
  unfolding bordered left40_at left38_at remember_at
  border_ends d = rw (d.wide, d.narrow, d.kept)

  pub border_between : Dark c → Between k c → b ≡ bordered k c raster den csel b
  unfolding bordered begin_at left40_at left38_at right38_at right40_at remember_at end_at
  border_between d o = rw (o.begins, d.wide, d.narrow, o.inner, o.outer, d.kept, o.last)

module _ (k : Kind) (c raster : ℕ) (my : List ℕ) (enable yexp : ℕ) (s : Sprites) where
  pub sprites_lit : Slotless k c → first_at k c raster my enable yexp (step_at c s) ≡ phased k c raster my enable yexp s
  unfolding phased second_at load_at
  sprites_lit o = rw (o.second, o.load)

  pub sprites_mid : Slotless k c → Mid c → Unasked k c → s ≡ phased k c raster my enable yexp s
  unfolding phased step_at first_at second_at load_at
  sprites_mid o m u = rw (m.step, u.first, o.second, o.load)

  pub sprites_ends : Dark c → load_at k c raster my enable (second_at k c raster my enable yexp (first_at k c raster my enable yexp s)) ≡ phased k c raster my enable yexp s
  unfolding phased step_at
  sprites_ends d = rw d.step

  pub sprites_calm : Dark c → Calm k c → s ≡ phased k c raster my enable yexp s
  unfolding phased step_at first_at second_at load_at
  sprites_calm d m = rw (d.step, m.first, m.second, m.load)

-- the next cycle is one of the line, with its place
pub placed : (k : Kind) (c : ℕ) {cycle t : ℕ} → cycle ≡ next_cycle k c → t ≡ place_of k cycle → Placed k cycle t
placed k c next place = record { low = rw next (cycle_low k c); high = rw next (cycle_high k c); place = place }

pub lit_now : (k : Kind) (c : ℕ) {cycle : ℕ} {lit : Bool} → cycle ≡ next_cycle k c → before_graphics c ≡ lit → happens graphics_access cycle ≡ lit
lit_now k c next before = rw next (sym (before_graphics_lem k c) ∙ before)

-- a turn with a graphics access: the line, the frame and the interrupt stay, and no slot is here
pub lit_glue : (g : Controls) (s : Side) {clk arb bus : Bus} {cycle : ℕ} {latch asked mask : Bool} {beam : Beam} {border : Border} {ph : Sprites} {sprite : Sprite} {now : Rowed} {pending : Waits}
    → Lit cycle
    → Slotless (kind_of s.beam.kind) cycle
    → clk ≡ clocked 1 s.bus
    → cycle ≡ next_cycle (kind_of s.beam.kind) s.beam.cycle
    → latch ≡ latched false s.beam.raster g.den s.beam.latch
    → border ≡ bordered (kind_of s.beam.kind) cycle s.beam.raster g.den g.csel s.border
    → ph ≡ phased (kind_of s.beam.kind) cycle s.beam.raster g.my g.enable g.yexp s.sprites
    → beam ≡ beam_turned s.beam cycle s.beam.raster latch latch s.beam.raster g.den g.rsel g.yscroll
    → asked ≡ requested beam.ba ph.dma (mask_at (kind_of s.beam.kind) cycle)
    → arb ≡ arbitrated clk asked
    → bus ≡ counted false arb
    → sprite ≡ sprite_at ph 0
    → mask ≡ has_bit ph.dma 0
    → now ≡ rowed cycle beam.bad beam.rising false s.rows
    → pending ≡ pending_after (now.fetches && not bus.aeclow) now.rows.vmli s.pending
    → ◌≡◌ {A = Turned} (record {
      side = record {
        irq = s.irq;
        beam = beam;
        frame = s.frame;
        border = border;
        sprites = ph;
        bus = bus;
        rows = now.rows;
        pending = pending;
        changed = s.irq.line;
        refresh = s.refresh;
      };
      orders = record {
        cycle = cycle;
        graphics = now.graphics;
        moves = now.moves;
        waiting = now.waiting;
        plain = beam.bad || not (eqb now.rc 0);
        hidden = border.disabled;
        vc = now.vc;
        vmli = now.vmli;
        rc = now.rc;
        fills = now.fetches && bus.aeclow;
        place = now.rows.vmli;
        column = now.rows.vc;
        sprite = 0;
        pointing = false;
        fetching = false;
        mask = mask;
        mc = sprite.mc;
        low = s.bus.aeclow;
        refresh = s.refresh;
      };
    }) (turned g s)
unfolding turned slot_moved
lit_glue g s {bus = bus'} {cycle = cycle'} l o clk cycle latch border ph beam asked arb bus sprite mask now pending =
    rw (← clk, ← cycle, ← swept_later (kind_of s.beam.kind) s.frame s.irq cycle' s.beam.raster g.compare g.den s.beam.latch (record { begins = l.begins; wraps = l.wraps }), ← latch, ← border, ← ph, ← beam, ← asked, ← arb, l.begins, ← bus, o.sprite, o.pointing, o.fetching, o.after, ← sprite, ← mask, picks false bus'.aeclow s.bus.aeclow, ← now, ← pending, picks false 0xFF s.refresh, refresh_rests cycle' s.refresh l.refresh)
