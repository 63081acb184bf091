-- The border's compares of a line, in their order (Bauer 3.9).
use Rattle.std.specs.Prelude.{ℕ, Bool, cond, eqb}
use Rattle.border.specs.Border.{line_begun, line_ended, left40_passed, left38_passed, right38_passed, right40_passed, remembered}
use Rattle.border.specs.declared.Border.{Border}

module _ (line raster : ℕ) (den csel : Bool) (b : Border) where
  -- departs, DIFFERENCES 6: the line's first cycle tests the line that a frame's end has not yet put to 0
  abbrev pub border_begun : Border
  border_begun = line_begun b line den

  -- Bauer 3.9 rules 4 to 6: the left compares; before the first and after it the main border is remembered
  abbrev pub border_wide : Border
  border_wide = left40_passed (remembered border_begun) csel raster den

  abbrev pub border_narrow : Border
  border_narrow = left38_passed (remembered border_wide) csel raster den

  -- Bauer 3.9 rule 1: the right compares; rules 2 and 3: the line's end
  unfoldable pub border_line : Border
  border_line = line_ended (right40_passed (right38_passed border_narrow csel) csel) raster den

  -- Bauer 3.9: whether output is shut off in column j, as that column's compare left it
  unfoldable pub hidden_in : ℕ → Bool
  hidden_in j = cond (eqb j 0) border_begun.disabled (cond (eqb j 1) border_wide.disabled border_narrow.disabled)
