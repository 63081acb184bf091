-- A Bool as C has it: a number.
use Rattle.std.specs.Prelude.{ℕ, Bool, not, cond, eqb}
use Rattle.timing.specs.Beam.{bad_line}

-- C's reading of a number: 0 is off, any other is on
abbrev pub is_on : ℕ → Bool
is_on n = not (eqb n 0)

-- 01: the front end asks on plain numbers; 1 where the line is bad, else 0
unfoldable pub bad_line_number : ℕ → ℕ → ℕ → ℕ
bad_line_number raster yscroll latch = cond (bad_line raster yscroll (is_on latch)) 1 0
