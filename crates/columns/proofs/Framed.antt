-- What a caller hands over, from the line's definition: what is hidden in three of its columns, and clocks with room for the line. Assumes nothing.
use Prim.Native.Nat.{ℕ, ◌+◌, ◌*◌, ◌≤◌}
use mathlib.Core.Path.{◌≡◌, refl}
use mathlib.Core.Bool.{Bool}
use native.Mathlib.Omega.{arith}
use lib.IntN.{ℤ, pos}
use Rattle.laws.specs.Clock.{last_clock, InRange}
use Rattle.border.specs.declared.Border.{Border}
use Rattle.arbitration.proofs.Kept.{clock_on_lem}
use Rattle.lines.specs.Border.{hidden_in}
use Rattle.columns.specs.Columns.{hidden_by, Clocks}

pub framed : (line raster : ℕ) (den csel : Bool) (b : Border)
    → hidden_by (hidden_in line raster den csel b 0) (hidden_in line raster den csel b 1) (hidden_in line raster den csel b 2) ≡ hidden_in line raster den csel b
unfolding hidden_by hidden_in
framed line raster den csel b = refl

pub roomy : (n k : ℕ) (forced : ℤ) → 55 ≤ k → n + 2 * k ≤ last_clock → InRange forced → Clocks (pos n) forced
roomy n k forced l h i = record { before = omega arith; last = rw (clock_on_lem 55 n) (omega arith); late = i }
