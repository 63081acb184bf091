-- The beginning of a line and the end of a frame (01, tick 3 and 4).
use Rattle.std.specs.Prelude.{ℕ, Bool, true, false, not, ◌&&◌, ◌||◌, cond, eqb}
use Rattle.laws.specs.Pick.{pick}
use Rattle.registers.specs.declared.Irq.{Irq}
use Rattle.registers.specs.Irq.{triggered}
use Rattle.schedule.specs.Kind.{Kind}
use Rattle.schedule.specs.Diagram.{happens, line_begins, frame_ends}
use Rattle.timing.specs.Beam.{next_line, at_last_line, latched}
use Rattle.raster.specs.declared.Frame.{Frame}
use Rattle.raster.specs.declared.Swept.{Swept}
use Rattle.raster.specs.declared.Compared.{Compared}
use Rattle.raster.specs.Set.{ending≔, matched≔}

-- 01, power-up: no flag is set
unfoldable pub fresh : Frame
fresh = record { ending = false; matched = false }

-- 01, tick 3: raster +1, but the last line stays
unfoldable pub raster_begun : Kind → Bool → ℕ → ℕ
raster_begun k begins raster = cond begins (next_line k raster) raster

-- 01, tick 3, and 02 (vi): the raster compare, at a line's begin and at a write of $D011. Where there is one, the line matches if it is the compare line
abbrev pub line_matches : Bool → ℕ → ℕ → Bool
line_matches compares raster compare = compares && eqb raster compare

-- 01, tick 3, and 02 (vi); departs, DIFFERENCES 26: an equal line raises the raster interrupt once while matched
unfoldable pub match_raises : Bool → Bool → Bool
match_raises matched before = matched && not before

-- Bauer 3.12: the raster interrupt is source 1
unfoldable pub raised : Irq → Bool → Irq
raised irq raises = cond raises (triggered irq 1) irq

-- 01, tick 3: the last line sets the frame flag and clears the match; any other matches where it equals the compare line
unfoldable pub frame_begun : Frame → Bool → Bool → ℕ → ℕ → Frame
frame_begun f begins last raster compare =
    cond begins (ending≔ (f.ending || last) (matched≔ (line_matches (not last) raster compare) f)) f

-- 02 (vi): a write of $D011 compares on every line, the last too
unfoldable pub compared : Frame → Irq → ℕ → ℕ → Compared
compared f i raster compare =
    let now = line_matches true raster compare in
    record { frame = matched≔ now f; irq = raised i (match_raises now f.matched) }

-- 01, tick 4: the frame flag is cleared
unfoldable pub frame_ended : Frame → Bool → Frame
frame_ended f wraps = cond wraps (ending≔ false f) f

-- what the line and the frame do in a cycle, and what the rest of the tick reads of it
unfoldable pub swept : Kind → Frame → Irq → ℕ → ℕ → ℕ → Bool → Bool → Swept
swept k f i cycle before compare den latch =
    -- tick 3: a line begins
    let begins = happens line_begins cycle in
    let line = raster_begun k begins before in
    let begun = frame_begun f begins (begins && at_last_line k before) line compare in
    -- tick 4: a frame ends
    let wraps = happens frame_ends cycle && begun.ending in
    record {
      begins = begins;
      line = line;
      wraps = wraps;
      raster = pick wraps 0 line;
      -- tick 3 and 4: the DEN latch that the bad line goes by, and off with the frame's end
      latch = latched begins line den latch;
      kept = latched begins line den latch && not wraps;
      frame = frame_ended begun wraps;
      -- tick 3 and 4: at the frame's end without a look at the match
      irq = raised i (match_raises begun.matched f.matched || (wraps && eqb compare 0));
    }
