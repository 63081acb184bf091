-- The numbers that the calls gave, put together, are the definition's record. Assumes nothing.
use Prim.Native.Nat.{ℕ}
use mathlib.Core.Path.{◌≡◌}
use mathlib.Core.Bool.{Bool, not, ◌&&◌, ◌||◌}
use lib.Dec.{eqb}
use Rattle.laws.specs.Pick.{pick}
use Rattle.schedule.specs.Kind.{Kind}
use Rattle.schedule.specs.Diagram.{happens, line_begins, frame_ends}
use Rattle.registers.specs.declared.Irq.{Irq}
use Rattle.timing.specs.Beam.{at_last_line, latched}
use Rattle.raster.specs.declared.Frame.{Frame}
use Rattle.raster.specs.declared.Swept.{Swept}
use Rattle.raster.specs.Frame.{raster_begun, match_raises, frame_begun, frame_ended, raised, swept}

pub sweep_glue : (k : Kind) (f : Frame) (i : Irq) (cycle before compare : ℕ) (den latch : Bool) {begins last fe equal on : Bool} {line raster : ℕ} {begun frame : Frame} {irq : Irq}
    → begins ≡ happens line_begins cycle
    → last ≡ at_last_line k before
    → line ≡ raster_begun k begins before
    → begun ≡ frame_begun f begins (begins && last) line compare
    → fe ≡ happens frame_ends cycle
    → raster ≡ pick (fe && begun.ending) 0 line
    → on ≡ latched begins line den latch
    → frame ≡ frame_ended begun (fe && begun.ending)
    → equal ≡ match_raises begun.matched f.matched
    → irq ≡ raised i (equal || ((fe && begun.ending) && eqb compare 0))
    → ◌≡◌ {A = Swept} (record { begins = begins; line = line; wraps = fe && begun.ending; raster = raster; latch = on; kept = on && not (fe && begun.ending); frame = frame; irq = irq }) (swept k f i cycle before compare den latch)
unfolding swept
sweep_glue k f i cycle before compare den latch begins last line begun fe raster on frame equal irq =
    rw (← begins, ← last, ← line, ← begun, ← fe, ← raster, ← on, ← frame, ← equal, ← irq)
