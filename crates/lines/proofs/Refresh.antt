-- The refresh counter over a line. Assumes nothing.
use Prim.Native.Nat.{ℕ, zero, suc, ◌<◌}
use mathlib.Core.Path.{◌≡◌, refl, ap}
use mathlib.Core.Bool.{Bool, ◌&&◌}
use native.Mathlib.Omega.{arith}
use lib.Dec.{eqb}
use Rattle.laws.specs.Pick.{pick}
use Rattle.schedule.specs.Kind.{Kind, the6569, the6567_r8, last_cycle}
use Rattle.schedule.specs.Diagram.{happens}
use Rattle.registers.specs.declared.Controls.{Controls}
use Rattle.raster.specs.Refresh.{refresh_from, less_by, refresh_after}
use Rattle.side.specs.declared.Side.{Side}
use Rattle.lines.specs.Begin.{kind_in, wraps_of, refresh_line}
use Rattle.lines.proofs.Through.{through}
use Rattle.lines.proofs.Parts.{refresh_in}
use Rattle.lines.proofs.Sweep.{wraps_at}

-- put back in cycle 2
abbrev refresh_step : Bool → ℕ → ℕ → ℕ
refresh_step wraps c ref = refresh_after c (refresh_from (eqb c 2 && wraps) ref)

one_more_lem : (n ref : ℕ) → n < 0x100 → less_by 1 (less_by n ref) ≡ less_by (suc n) ref
unfolding less_by
one_more_lem n ref h = omega arith

five_less : (ref : ℕ) → less_by 1 (less_by 1 (less_by 1 (less_by 1 (less_by 1 ref)))) ≡ less_by 5 ref
five_less ref = rw (one_more_lem 1 ref (omega arith), one_more_lem 2 ref (omega arith), one_more_lem 3 ref (omega arith), one_more_lem 4 ref (omega arith))

through_line : (wraps : Bool) (ref : ℕ) (k : Kind) → through (refresh_step wraps) (last_cycle k) ref ≡ less_by 5 (refresh_from wraps ref)
unfolding through happens pick refresh_after
through_line wraps ref the6569 = five_less (refresh_from wraps ref)
through_line wraps ref the6567_r8 = five_less (refresh_from wraps ref)

module _ (g : Controls) (s : Side) where
  refresh_in_lem : (n : ℕ) → refresh_in g s n ≡ through (refresh_step (wraps_of g s)) n s.refresh
  unfolding refresh_in through
  refresh_in_lem zero = refl
  refresh_in_lem (suc n) = rw (wraps_at g s n) (ap (refresh_step (wraps_of g s) (suc n)) (refresh_in_lem n))

  pub refresh_line_lem : refresh_in g s (last_cycle (kind_in s)) ≡ refresh_line g s
  unfolding refresh_line
  refresh_line_lem = rw (refresh_in_lem (last_cycle (kind_in s))) (through_line (wraps_of g s) s.refresh (kind_in s))
