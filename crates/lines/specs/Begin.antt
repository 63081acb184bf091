-- What begins with a line, and a frame's end within it (01, tick 3 and 4).
use Rattle.std.specs.Prelude.{ℕ, Bool, false, not, ◌&&◌, ◌||◌, eqb}
use Rattle.laws.specs.Pick.{pick}
use Rattle.schedule.specs.Kind.{Kind, kind_of}
use Rattle.registers.specs.declared.Irq.{Irq}
use Rattle.registers.specs.declared.Controls.{Controls}
use Rattle.timing.specs.Beam.{next_line, at_last_line, bad_line}
use Rattle.raster.specs.declared.Frame.{Frame}
use Rattle.raster.specs.Frame.{match_raises, raised}
use Rattle.raster.specs.Refresh.{less_by}
use Rattle.side.specs.declared.Side.{Side}

abbrev pub kind_in : Side → Kind
kind_in s = kind_of s.beam.kind

module _ (g : Controls) (s : Side) where
  -- 01, tick 3: raster +1, but the last line stays
  unfoldable pub line_of : ℕ
  line_of = next_line (kind_in s) s.beam.raster

  -- 01, tick 4: after the last line, or where the frame flag waits, the frame ends in this line
  unfoldable pub wraps_of : Bool
  wraps_of = s.frame.ending || at_last_line (kind_in s) s.beam.raster

  -- 01, tick 4: the line that is shown from its second cycle on
  unfoldable pub raster_of : ℕ
  raster_of = pick wraps_of 0 line_of

  -- 01, tick 3: the last line matches nothing
  unfoldable pub matched_of : Bool
  matched_of = not (at_last_line (kind_in s) s.beam.raster) && eqb line_of g.compare

  -- Bauer 3.5, and 02 (ii): on line 0x30 the latch takes DEN, which stays as it is for the whole line
  unfoldable pub latch_of : Bool
  latch_of = pick (eqb line_of 0x30) g.den s.beam.latch

  -- 01, tick 4: a frame's end puts the latch off
  unfoldable pub latch_line : Bool
  latch_line = latch_of && not wraps_of

  -- after the line no frame's end waits
  unfoldable pub frame_line : Frame
  frame_line = record { ending = false; matched = matched_of }

  -- Bauer 3.12: once while matched, and for line 0 without a look at the match
  unfoldable pub irq_line : Irq
  irq_line = raised (raised s.irq (match_raises matched_of s.frame.matched)) (wraps_of && eqb g.compare 0)

  -- Bauer 3.13, and 02 (xiv): put back with the frame's end; after it the line's five refresh accesses
  unfoldable pub refresh_line : ℕ
  refresh_line = less_by 5 (pick wraps_of 0xFF s.refresh)

  -- Bauer 3.5: in its first two cycles the line is the one before the frame's end
  unfoldable pub bad_begins : Bool
  bad_begins = bad_line line_of g.yscroll latch_of

  -- Bauer 3.5: from then on; line 0 is never bad
  unfoldable pub bad_of : Bool
  bad_of = bad_begins && not wraps_of

  -- 01, tick 2: it rises in the line's first cycle or not at all
  unfoldable pub rises_of : Bool
  rises_of = bad_begins && not s.beam.bad
