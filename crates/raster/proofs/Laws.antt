-- What callers may know of the line and the frame without opening them. Assumes nothing.
use Prim.Native.Nat.{ℕ, ◌≤◌}
use mathlib.Core.Path.{◌≡◌, ◌∙◌}
use mathlib.Core.Bool.{Bool, true, false, not, ◌&&◌}
use native.Mathlib.Omega.{arith}
use lib.Dec.{eqb}
use Rattle.laws.proofs.Choice.{either, and_true, and_false, or_false, picks, pick_either, never_both}
use Rattle.schedule.specs.Kind.{Kind, last_line}
use Rattle.schedule.proofs.Places.{line_least}
use Rattle.schedule.specs.Diagram.{happens, line_begins, frame_ends, refresh}
use Rattle.schedule.proofs.Parts.{Later}
use Rattle.registers.specs.declared.Irq.{Irq}
use Rattle.timing.specs.Beam.{latched}
use Rattle.timing.proofs.Kept.{line_high, line_next, not_last, latch_stays, latch_stored}
use Rattle.raster.specs.declared.Frame.{Frame}
use Rattle.raster.specs.declared.Swept.{Swept}
use Rattle.raster.specs.declared.SweptWith.{SweptWith}
use Rattle.raster.specs.Frame.{raster_begun, match_raises, frame_begun, frame_ended, raised, swept}
use Rattle.raster.specs.Refresh.{refresh_from, refresh_after}

-- the raster line stays in the frame
pub raster_kept : (k : Kind) (f : Frame) (i : Irq) (cycle r compare : ℕ) (den latch : Bool) → r ≤ last_line k → (swept k f i cycle r compare den latch).raster ≤ last_line k
unfolding swept raster_begun
raster_kept k f i cycle r compare den latch h =
    pick_either (λ (n : ℕ). n ≤ last_line k) _ (omega arith) (either (λ (n : ℕ). n ≤ last_line k) (happens line_begins cycle) (line_high k r h) h)

-- where no line begins and the frame flag is clear, the line, the frame and the interrupt stay
pub swept_inside : (k : Kind) (f : Frame) (i : Irq) (cycle raster compare : ℕ) (den latch : Bool) → happens line_begins cycle ≡ false → f.ending ≡ false
    → ◌≡◌ {A = Swept} (record { begins = false; line = raster; wraps = false; raster = raster; latch = latched false raster den latch; kept = latched false raster den latch; frame = f; irq = i }) (swept k f i cycle raster compare den latch)
unfolding swept raster_begun match_raises frame_begun frame_ended raised
swept_inside k f i cycle raster compare den latch b e =
    rw (b, e, and_false (happens frame_ends cycle), never_both f.matched, picks false 0 raster, and_true (latched false raster den latch))

-- line 0x30 begins: it stores DEN
pub record Stored (den : Bool) (w : Swept) : Type 0 where
  pub raster : w.raster ≡ 0x30
  pub kept : w.kept ≡ den
  pub ending : w.frame.ending ≡ false

pub swept_stores : (k : Kind) (f : Frame) (i : Irq) (compare : ℕ) (den latch : Bool) → f.ending ≡ false → Stored den (swept k f i 1 0x2F compare den latch)
unfolding swept raster_begun frame_begun frame_ended happens
swept_stores k f i compare den latch e =
    let next = line_next k 0x2F (omega (arith, line_least k)) in
    let more = not_last k 0x2F (omega (arith, line_least k)) in
    record {
      raster = rw next (picks false 0 0x30);
      kept = rw next (and_true (latched true 0x30 den latch) ∙ latch_stored den latch);
      ending = rw (more, or_false f.ending) e;
    }

-- off line 0x30 the latch stays but for the frame's end
pub kept_elsewhere : (k : Kind) (f : Frame) (i : Irq) (cycle before compare : ℕ) (den latch : Bool) → eqb (swept k f i cycle before compare den latch).line 0x30 ≡ false
    → (swept k f i cycle before compare den latch).kept ≡ (latch && not (swept k f i cycle before compare den latch).wraps)
unfolding swept
kept_elsewhere k f i cycle before compare den latch e = rw (latch_stays (happens line_begins cycle) _ den latch e)

-- past the second cycle the line, the frame and the interrupt stay
pub swept_later : (k : Kind) (f : Frame) (i : Irq) (cycle raster compare : ℕ) (den latch : Bool) → Later cycle
    → ◌≡◌ {A = Swept} (record { begins = false; line = raster; wraps = false; raster = raster; latch = latched false raster den latch; kept = latched false raster den latch; frame = f; irq = i }) (swept k f i cycle raster compare den latch)
unfolding swept raster_begun match_raises frame_begun frame_ended raised
swept_later k f i cycle raster compare den latch l = rw (l.begins, l.wraps, never_both f.matched, picks false 0 raster, and_true (latched false raster den latch))

-- where no line begins the line stays, and the latch goes by it
module _ (k : Kind) (f : Frame) (i : Irq) (cycle raster compare : ℕ) (den latch : Bool) (b : happens line_begins cycle ≡ false) where
  pub line_inside : (swept k f i cycle raster compare den latch).line ≡ raster
  unfolding swept raster_begun
  line_inside = rw b

  pub latch_inside : (swept k f i cycle raster compare den latch).latch ≡ latched false raster den latch
  unfolding swept raster_begun
  latch_inside = rw b

-- the refresh counter rests where no refresh access is made
pub refresh_rests : (cycle ref : ℕ) → happens refresh cycle ≡ false → refresh_after cycle ref ≡ ref
unfolding refresh_after
refresh_rests cycle ref e = rw e

-- the counter as the cycle finds it goes by the frame's end beside it
pub refresh_found : (ref : ℕ) {x : SweptWith} {s : Swept} → x ≡ record { swept = s; refresh = refresh_from s.wraps ref } → x.refresh ≡ refresh_from x.swept.wraps ref
refresh_found ref e = rw e
