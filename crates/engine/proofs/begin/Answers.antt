use Rattle.lines.specs.Begin.{line_of, wraps_of, raster_of, matched_of, latch_of, latch_line, bad_begins, bad_of, rises_of}
use Rattle.engine.proofs.begin.Goals as goal

pub returns : goal.returns
unfolding line_of wraps_of raster_of matched_of latch_of latch_line bad_begins bad_of rises_of
returns c = simp (c.bad_line-bad.ensures, c.pick.ensures, c.pick-latch.ensures, c.next_line-line.ensures, c.at_last_line-last.ensures)
