-- One tick from what its calls gave. Assumes nothing.
use Prim.Native.Nat.{ℕ}
use mathlib.Core.Path.{◌≡◌, ap}
use mathlib.Core.Bool.{true, false}
use mathlib.Core.List.{List}
use native.Mathlib.Omega.{arith}
use lib.IntN.{ℤ, pos, negsuc}
use Rattle.laws.specs.Clock.{InRange, CanTick}
use Rattle.schedule.specs.Kind.{kind_of}
use Rattle.schedule.specs.Machinery.Stretches.{before_graphics}
use Rattle.memory.specs.Lent.{Host}
use Rattle.registers.specs.declared.Registers.{Registers}
use Rattle.registers.specs.declared.Controls.{Controls}
use Rattle.registers.specs.Control.{mode_number, timed}
use Rattle.side.specs.declared.Turned.{Turned}
use Rattle.side.specs.Turn.{turned}
use Rattle.side.proofs.Laws.{dark_graphics}
use Rattle.access.specs.Reads.{told}
use Rattle.access.specs.Machinery.Noted.{reads_in}
use Rattle.picture.specs.declared.Drawn.{Drawn}
use Rattle.picture.specs.declared.Pen.{Pen}
use Rattle.picture.specs.Pen.{pen_after, matrix_after, slotted}
use Rattle.picture.specs.Machinery.Spots.{draw_spots, drawn_by, slot_noted, lit_noted, dark_noted}
use Rattle.picture.proofs.Told.{lit_reads, dark_reads}
use Rattle.world.specs.World.{World}
use Rattle.world.specs.Tick.{tick_world, tick_reads}
use Rattle.sequencer.proofs.Ordered.{follows, lit_graphics}

pub can_range : (z : ℤ) → CanTick z → InRange z
can_range (pos n) h = omega arith
can_range (negsuc n) h = absurd h

pub tick_glue : (h : Host) (g : Registers) (w : World) {c : Controls} {mode : ℕ} {t : Turned} {pen : Pen} {pp bb ww mm : List ℕ}
    → c ≡ timed g
    → t ≡ turned c w.side
    → pp ≡ (slotted w.pointers w.bytes w.words t.orders g.ptrs h.ram h.rom h.bank).pointers
    → bb ≡ (slotted w.pointers w.bytes w.words t.orders g.ptrs h.ram h.rom h.bank).bytes
    → ww ≡ (slotted w.pointers w.bytes w.words t.orders g.ptrs h.ram h.rom h.bank).words
    → mode ≡ mode_number g.ctrl1 g.ctrl2
    → pen ≡ pen_after w.matrix t.orders t.side.bus.clock w.pen mode g.ptrs h.ram h.rom h.bank
    → mm ≡ matrix_after w.matrix t.orders t.side.bus.clock w.pen g.ptrs h.ram h.rom h.colour h.bank
    → ◌≡◌ {A = World} (record { side = t.side; pen = pen; matrix = mm; pointers = pp; bytes = bb; words = ww }) (tick_world h g w)
unfolding tick_world
tick_glue h g w c t pp bb ww mode pen mm = rw (← c, ← t, ← pp, ← bb, ← ww, ← mode, ← pen, ← mm)

-- what the picture's step left, and where it read
module _ (m : List ℕ) (t : Turned) (clock : ℤ) (p : Pen) (mode ptrs : ℕ) (ram rom : List ℕ) (bank : ℕ) {d : Drawn} (e : d ≡ drawn_by m t.orders clock p mode ptrs ram rom bank) where
  pub drawn_pen : d.pen ≡ pen_after m t.orders clock p mode ptrs ram rom bank
  unfolding drawn_by
  drawn_pen = ap (λ (x : Drawn). x.pen) e

  drawn_spots : d.spots ≡ draw_spots m t.orders clock p mode ptrs ram rom bank
  unfolding drawn_by
  drawn_spots = ap (λ (x : Drawn). x.spots) e

-- one tick's reads from what its calls gave
module _ (h : Host) (g : Registers) (w : World) {c : Controls} {mode n : ℕ} {t : Turned} {d : Drawn}
    (controls : c ≡ timed g)
    (turn : t ≡ turned c w.side)
    (modes : mode ≡ mode_number g.ctrl1 g.ctrl2)
    (drawn : d ≡ drawn_by w.matrix t.orders t.side.bus.clock w.pen mode g.ptrs h.ram h.rom h.bank) where
  pub lit_told : before_graphics w.side.beam.cycle ≡ true → n ≡ lit_noted t.orders d.spots → reads_in n ≡ told (tick_reads h g w)
  unfolding tick_reads
  lit_told lit e =
      let at = drawn_spots w.matrix t t.side.bus.clock w.pen mode g.ptrs h.ram h.rom h.bank drawn in
      rw (← controls, ← turn, ← modes, e, at)
      (lit_reads (kind_of w.side.beam.kind) w.matrix w.pointers t.orders t.side.bus.clock w.pen mode g.ptrs h.ram h.rom h.bank (rw turn (follows c w.side)) (rw turn (lit_graphics c w.side lit)))

  pub dark_told : {s : ℕ} → before_graphics w.side.beam.cycle ≡ false → s ≡ slot_noted w.pointers t.orders g.ptrs h.ram h.rom h.bank
      → n ≡ dark_noted t.orders s d.spots → reads_in n ≡ told (tick_reads h g w)
  unfolding tick_reads
  dark_told dark slot e =
      let at = drawn_spots w.matrix t t.side.bus.clock w.pen mode g.ptrs h.ram h.rom h.bank drawn in
      rw (← controls, ← turn, ← modes, e, slot, at)
      (dark_reads (kind_of w.side.beam.kind) w.matrix w.pointers t.orders t.side.bus.clock w.pen mode g.ptrs h.ram h.rom h.bank (rw turn (follows c w.side)) (rw turn (dark_graphics c w.side dark)))
