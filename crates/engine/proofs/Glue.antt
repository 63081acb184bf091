-- The whole line from what its calls gave. Assumes nothing.
use Prim.Native.Nat.{ℕ, ◌<◌, ◌^◌}
use mathlib.Core.Path.{◌≡◌, refl, sym, ◌∙◌, ap}
use mathlib.Core.Bool.{Bool, true, false, not, ◌||◌}
use mathlib.Core.List.{List}
use native.Mathlib.Omega.{arith}
use lib.Dec.{eqb}
use lib.IntN.{ℤ, pos, negsuc}
use lib.Signed.{mag}
use Rattle.laws.specs.Clock.{InRange}
use Rattle.laws.specs.Pick.{pick}
use Rattle.memory.specs.Lent.{Host}
use Rattle.schedule.specs.Kind.{Kind, kind_of, last_cycle}
use Rattle.schedule.proofs.Places.{last_least}
use Rattle.registers.specs.declared.Controls.{Controls}
use Rattle.registers.specs.declared.Irq.{Irq}
use Rattle.registers.specs.declared.Registers.{Registers}
use Rattle.registers.specs.Control.{mode_number, timed}
use Rattle.raster.specs.Refresh.{less_by}
use Rattle.sprites.specs.declared.Sprites.{Sprites}
use Rattle.arbitration.specs.declared.Bus.{Bus}
use Rattle.rows.specs.declared.Rows.{Rows}
use Rattle.side.specs.declared.Side.{Side}
use Rattle.access.specs.Merge.{Merging, merging}
use Rattle.picture.specs.declared.Pen.{Pen}
use Rattle.picture.specs.Pen.{Latches}
use Rattle.world.specs.World.{World}
use Rattle.lines.specs.Begin.{kind_in, frame_line, irq_line, refresh_line, bad_of}
use Rattle.lines.specs.Bus.{Masks, masks_of, bus_line}
use Rattle.lines.specs.Rows.{rows_line, shows_of, base_of, rc_of}
use Rattle.lines.specs.Sprites.{sprites_loaded, sprites_line}
use Rattle.lines.specs.Side.{masks_in, line_side}
use Rattle.lines.specs.Columns.{matrix_line, columns_line}
use Rattle.lines.specs.Border.{hidden_in}
use Rattle.lines.specs.Slots.{slots_line}
use Rattle.lines.specs.Whole.{latches_line, merge_line, line_world}
use Rattle.fetches.specs.Fetches.{latches}
use Rattle.columns.specs.Columns.{Clocks, hidden_by, since_in, word_in}
use Rattle.columns.proofs.Framed.{roomy}
use Rattle.engine.specs.declared.Begun.{Begun}
use Rattle.engine.specs.declared.Framed.{Framed}
use Rattle.engine.specs.declared.Counted.{Counted}
use Rattle.engine.specs.declared.Turned.{Turned}
use Rattle.engine.specs.Begin.{begun_of, interrupt_of, framed_of}
use Rattle.engine.specs.Counters.{Sound, bases_of, settled_of, incremented_of, counted_of}
use Rattle.engine.specs.Parts.{turned_of, two_masks, row_merged, pen_line, fetch_by, slots_by}
use Rattle.engine.specs.World.{Takes}
use Rattle.engine.proofs.Columned.{late3_is}
use Rattle.engine.proofs.Counters.{loaded_fine, loads_all, late_slots_lem}

-- a clock that takes the line has room for its columns
pub clocks_of : (z : ℤ) (k : Kind) (forced : ℤ) → Takes (last_cycle k) z → InRange forced → Clocks z forced
clocks_of (pos n) k forced h i = roomy n (last_cycle k) forced (omega (arith, last_least k)) h i
clocks_of (negsuc n) k forced h i = absurd h

pub masks_glue : (g : Controls) (s : Side) {begun : Begun} → begun ≡ begun_of g s
    → masks_of (kind_in s) begun.raster g.my g.enable g.yexp s.sprites ≡ two_masks s.sprites.dma (sprites_loaded (kind_in s) begun.raster g.my g.enable g.yexp s.sprites).dma
    → masks_in g s ≡ two_masks s.sprites.dma (turned_of g s).loaded.dma
masks_glue g s begun masks = rw begun at masks

pub turn_glue : (g : Controls) (s : Side) {begun : Begun} {irq : Irq} {framed : Framed} {counted : Counted} {bus : Bus} {rows : Rows} {refresh cycle : ℕ}
    → begun ≡ begun_of g s
    → irq ≡ interrupt_of s.irq s.frame.matched begun.matched begun.wraps g.compare
    → framed ≡ framed_of begun.line begun.raster g.den g.csel s.border
    → counted ≡ counted_of (kind_in s) begun.raster g.my g.enable g.yexp s.sprites
    → bus ≡ bus_line (kind_in s) begun.bad (two_masks s.sprites.dma counted.loaded.dma) s.bus
    → rows ≡ rows_line begun.bad begun.rises begun.wraps s.rows
    → refresh ≡ less_by 5 (pick begun.wraps 0xFF s.refresh)
    → cycle ≡ last_cycle (kind_in s)
    → masks_of (kind_in s) begun.raster g.my g.enable g.yexp s.sprites ≡ two_masks s.sprites.dma (sprites_loaded (kind_in s) begun.raster g.my g.enable g.yexp s.sprites).dma
    → ◌≡◌ {A = Turned} (record {
      side = record {
        irq = irq;
        beam = record {
          kind = s.beam.kind;
          cycle = cycle;
          raster = begun.raster;
          den = g.den;
          rsel = g.rsel;
          yscroll = g.yscroll;
          latch = begun.latch;
          bad = begun.bad;
          rising = false;
          ba = true;
        };
        frame = record { ending = false; matched = begun.matched };
        border = framed.border;
        sprites = counted.after;
        bus = bus;
        rows = rows;
        pending = s.pending;
        changed = irq.line;
        refresh = refresh;
      };
      begun = begun;
      framed = framed;
      loaded = counted.loaded;
    }) (turned_of g s)
unfolding line_side frame_line irq_line refresh_line
turn_glue g s begun irq framed counted bus rows refresh cycle masks =
    let asked = (rw (counted, begun) at bus) ∙ ap (λ (m : Masks). bus_line (kind_in s) (bad_of g s) m s.bus) (sym (masks_glue g s begun masks)) in
    rw (asked, irq, framed, counted, rows, refresh, begun, cycle)

pub count_glue : (s : Sprites) (kind raster : ℕ) (my : List ℕ) (enable yexp : ℕ) {b : List ℕ} {l a : Sprites} → Sound s → enable < 256 → yexp < 256
    → b ≡ bases_of (kind_of kind) s
    → l ≡ settled_of s b raster my enable yexp
    → a ≡ incremented_of (eqb kind 1) l
    → ◌≡◌ {A = Counted} (record { loaded = l; after = a }) (counted_of (kind_of kind) raster my enable yexp s)
unfolding sprites_line
count_glue s kind raster my enable yexp h he hy b l a =
    let k = kind_of kind in
    let ll = l ∙ ap (λ (x : List ℕ). settled_of s x raster my enable yexp) b ∙ loads_all s raster my enable yexp h he hy k in
    let aa = (rw (late3_is kind, ll) at a) ∙ late_slots_lem (sprites_loaded k raster my enable yexp s) (loaded_fine k s raster my enable yexp h he hy) k in
    rw (ll, aa)

pub show_glue : (h : Host) (g : Registers) (rows : Rows) (b : Begun) (f : Framed) (clock : ℤ) (p : Pen) (matrix : List ℕ) {base rc mode old ch carry : ℕ} {mm : List ℕ}
    → base ≡ pick b.wraps 0 rows.vcbase
    → rc ≡ pick b.bad 0 rows.rc
    → mode ≡ mode_number g.ctrl1 g.ctrl2
    → old ≡ pick p.changing mode p.old
    → merging ch carry mm ≡ columns_line (rows.display || b.rises) (b.bad || not (eqb rc 0)) (hidden_by f.hidden.first f.hidden.second f.hidden.rest) (since_in clock p.forced) 40 (merging p.ch p.carry (matrix_line (word_in h.ram h.rom h.colour h.bank g.ptrs base) b.bad (rows.display || b.rises) matrix))
    → (◌≡◌ {A = Pen} (record { ch = ch; carry = carry; gfx = 0; mode = mode; old = old; changing = false; forced = p.forced }) (pen_line g (row_merged h g.ptrs rows b f clock p matrix) p))
    × (mm ≡ (row_merged h g.ptrs rows b f clock p matrix).matrix)
unfolding row_merged shows_of base_of rc_of
show_glue h g rows b f clock p matrix base rc mode old latch =
    let all = rw (base, rc) at latch in
    (rw (old, mode, ap (λ (m : Merging). m.ch) all, ap (λ (m : Merging). m.carry) all), ap (λ (m : Merging). m.matrix) all)

-- a clock is small for its width
pub range_small : (z : ℤ) → InRange z → mag z < 2 ^ 63
range_small (pos n) h = omega arith
range_small (negsuc n) h = absurd h

pub picked_small : (b : Bool) (n : ℕ) → n < 1024 → pick b 0 n < 1024
unfolding pick
picked_small true n h = omega arith
picked_small false n h = h

-- the two parts of the picture are the line's own
merged : (h : Host) (g : Registers) (w : World)
    → row_merged h g.ptrs w.side.rows (turned_of (timed g) w.side).begun (turned_of (timed g) w.side).framed w.side.bus.clock w.pen w.matrix ≡ merge_line h g w
unfolding row_merged merge_line hidden_by hidden_in
merged h g w = refl

latched : (h : Host) (g : Registers) (w : World)
    → slots_by (kind_in w.side) (fetch_by (kind_in w.side) (bad_of (timed g) w.side) (masks_in (timed g) w.side) w.side.bus g.ptrs h.ram h.rom h.bank) w.side.sprites (turned_of (timed g) w.side).loaded (latches w.pointers w.bytes w.words) ≡ latches_line h g w
unfolding latches_line slots_line
latched h g w = refl

pub line_glue : (h : Host) (g : Registers) (w : World) {c : Controls} {t : Turned} {pen : Pen} {mm pp bb ww : List ℕ}
    → c ≡ timed g
    → t ≡ turned_of c w.side
    → masks_in c w.side ≡ two_masks w.side.sprites.dma (turned_of c w.side).loaded.dma
    → latches pp bb ww ≡ slots_by (kind_in w.side) (fetch_by (kind_in w.side) t.begun.bad (two_masks w.side.sprites.dma t.loaded.dma) w.side.bus g.ptrs h.ram h.rom h.bank) w.side.sprites t.loaded (latches w.pointers w.bytes w.words)
    → pen ≡ pen_line g (row_merged h g.ptrs w.side.rows t.begun t.framed w.side.bus.clock w.pen w.matrix) w.pen
    → mm ≡ (row_merged h g.ptrs w.side.rows t.begun t.framed w.side.bus.clock w.pen w.matrix).matrix
    → ◌≡◌ {A = World} (record { side = t.side; pen = pen; matrix = mm; pointers = pp; bytes = bb; words = ww }) (line_world h g w)
unfolding line_world
line_glue h g w {c} {t} controls turn masks slots pen matrix =
    let m = merged h g w in
    let l = (rw (turn, controls) at slots) ∙ ap (λ (x : Masks). slots_by (kind_in w.side) (fetch_by (kind_in w.side) (bad_of (timed g) w.side) x w.side.bus g.ptrs h.ram h.rom h.bank) w.side.sprites (turned_of (timed g) w.side).loaded (latches w.pointers w.bytes w.words)) (sym (rw controls at masks)) ∙ latched h g w in
    let p = (rw (turn, controls) at pen) ∙ ap (λ (x : Merging). pen_line g x w.pen) m in
    let x = (rw (turn, controls) at matrix) ∙ ap (λ (y : Merging). y.matrix) m in
    rw (turn, controls, p, x, ap (λ (y : Latches). y.pointers) l, ap (λ (y : Latches). y.bytes) l, ap (λ (y : Latches). y.words) l)
