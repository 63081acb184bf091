-- The border over a line. Assumes nothing.
use Prim.Native.Nat.{ℕ}
use mathlib.Core.Path.{◌≡◌, refl}
use mathlib.Core.Bool.{Bool}
use Rattle.schedule.specs.Kind.{Kind, the6569, the6567_r8, last_cycle}
use Rattle.schedule.specs.Diagram.{happens}
use Rattle.border.specs.declared.Border.{Border}
use Rattle.side.specs.Phases.{bordered, begin_at, left40_at, left38_at, right38_at, right40_at, remember_at, end_at}
use Rattle.lines.specs.Border.{border_line}
use Rattle.lines.proofs.Through.{through, raster_in}

module _ (line raster : ℕ) (den csel : Bool) (b : Border) where
  abbrev pub border_step : Kind → ℕ → Border → Border
  border_step k c x = bordered k c (raster_in line raster c) den csel x

  pub border_line_lem : (k : Kind) → through (border_step k) (last_cycle k) b ≡ border_line line raster den csel b
  unfolding through happens bordered begin_at left40_at left38_at right38_at right40_at remember_at end_at border_line
  border_line_lem the6569 = refl
  border_line_lem the6567_r8 = refl
