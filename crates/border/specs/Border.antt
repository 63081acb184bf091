-- The border unit: Bauer 3.9, rules 1 to 6.
use Rattle.std.specs.Prelude.{ℕ, ◌+◌, Bool, true, false, not, ◌&&◌, cond, eqb}
use Rattle.border.specs.declared.Border.{Border}
use Rattle.border.specs.Set.{vertical≔, main≔, old≔, part40≔, part38≔, compares≔}

-- 01: power-up is inside both borders, with the compares of RSEL 0
abbrev pub fresh : Border
fresh = record { vertical = true; main = true; old = true; disabled = true; part40 = 0; part38 = 0; top = 55; bottom = 247 }

-- Bauer 3.9: top 51 / 55, bottom 251 / 247 (RSEL 1 / 0)
unfoldable pub compared : Border → Bool → Border
compared b rsel = compares≔ (cond rsel 51 55) (cond rsel 251 247) b

-- Bauer 3.9: the raster line is the bottom line; it is the top line and DEN is set
abbrev pub bottom_reached : Border → ℕ → Bool
bottom_reached b raster = eqb raster b.bottom

abbrev pub top_reached : Border → ℕ → Bool → Bool
top_reached b raster den = eqb raster b.top && den

-- the vertical flip-flop, set or reset where a line is reached
unfoldable pub switched : Border → Bool → Bool → Border
switched b reached on = cond reached (vertical≔ on b) b

-- departs, DIFFERENCES 6: the test in cycle 1 isn't in the article; first the top line, then the bottom line
unfoldable pub line_begun : Border → ℕ → Bool → Border
line_begun b raster den = switched (switched b (top_reached b raster den) false) (bottom_reached b raster) true

-- Bauer 3.9 rules 2 and 3, in cycle 63, and rules 4 and 5; 01, Leaves: Border: the bottom line goes first
unfoldable pub line_ended : Border → ℕ → Bool → Border
line_ended b raster den = cond (bottom_reached b raster) (vertical≔ true b) (switched b (top_reached b raster den) false)

-- Bauer 3.9 rule 6: with the vertical flip-flop clear, the main flip-flop is reset
unfoldable pub opened : Border → Border
opened b = cond b.vertical b (main≔ false b)

-- Bauer 3.9 rules 4, 5 and 6, where CSEL makes this the left comparison
unfoldable pub left_passed : Border → Bool → ℕ → Bool → Border
left_passed b reached raster den = cond reached (opened (line_ended b raster den)) b

-- the main flip-flop before the comparison in bit 0, after it in bit 1
unfoldable pub left_part : Bool → Bool → ℕ
left_part before after = cond before 1 0 + cond after 2 0

-- one of the two left comparisons; its part is written whatever CSEL is
abbrev pub left : (ℕ → Border → Border) → Border → Bool → ℕ → Bool → Border
left part≔ b reached raster den =
    let e = left_passed b reached raster den in
    part≔ (left_part b.main e.main) e

-- Bauer 3.9: left 24 with CSEL, 31 without
unfoldable pub left40_passed : Border → Bool → ℕ → Bool → Border
left40_passed b csel = left part40≔ b csel

unfoldable pub left38_passed : Border → Bool → ℕ → Bool → Border
left38_passed b csel = left part38≔ b (not csel)

-- Bauer 3.9 rule 1; right 335 without CSEL, 344 with
unfoldable pub right38_passed : Border → Bool → Border
right38_passed b csel = cond csel b (main≔ true b)

unfoldable pub right40_passed : Border → Bool → Border
right40_passed b csel = cond csel (main≔ true b) b

-- 01, One tick: in cycles 16 and 17 the main border is remembered
abbrev pub remembered : Border → Border
remembered b = old≔ b.main b
