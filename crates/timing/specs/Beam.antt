-- The beam and the bad line.
use Rattle.std.specs.Prelude.{ℕ, ◌+◌, ◌%◌, Bool, true, false, not, ◌&&◌, ◌||◌, cond, eqb, leb, ltb}
use Rattle.laws.specs.Pick.{pick}
use Rattle.schedule.specs.Kind.{Kind, kind_of, last_cycle, last_line}
use Rattle.schedule.specs.Diagram.{happens, matrix_request}
use Rattle.timing.specs.declared.Beam.{Beam}

-- Bauer 3.5: lines 0x30 to 0xF7 whose low three bits equal YSCROLL, where DEN was latched on line 0x30
unfoldable pub bad_line : ℕ → ℕ → Bool → Bool
bad_line raster yscroll latch = leb 0x30 raster && leb raster 0xF7 && eqb (raster % 8) yscroll && latch

-- Bauer 3.5, and 02 (ii): DEN set in any cycle of line 0x30 is enough. The line's first cycle stores DEN, a later one sets the latch and never clears it
unfoldable pub latched : Bool → ℕ → Bool → Bool → Bool
latched begins line den latch = pick (eqb line 0x30) (den || (latch && not begins)) latch

-- Bauer 3.7.2 rule 3: a bad line holds BA low while the matrix asks; true is high
unfoldable pub ba_output : Bool → ℕ → Bool
ba_output bad cycle = not (bad && happens matrix_request cycle)

-- 01, tick 1: cycle +1, and from the last to 1
unfoldable pub next_cycle : Kind → ℕ → ℕ
next_cycle k cycle = cond (ltb cycle (last_cycle k)) (cycle + 1) 1

-- 01, tick 3: raster +1, but the last line stays until the frame's end
unfoldable pub at_last_line : Kind → ℕ → Bool
at_last_line k raster = leb (last_line k) raster

unfoldable pub next_line : Kind → ℕ → ℕ
next_line k raster = cond (ltb raster (last_line k)) (raster + 1) raster

-- 01, power-up; 02 (iv): the state before the first tick of a frame, of a kind that is kept as it is given
unfoldable pub fresh : ℕ → Beam
fresh kind =
    record { kind = kind; cycle = last_cycle (kind_of kind); raster = last_line (kind_of kind); den = false; rsel = false; yscroll = 0; latch = false; bad = false; rising = false; ba = true }

-- 01, tick 1 to 4: the cycle and the line, the control bits as latched, the live bad line with its rise, and the BA output.
-- The bad line is that of the line and the latch before a frame's end, which puts the raster at 0 and the latch off.
unfoldable pub beam_turned : Beam → ℕ → ℕ → Bool → Bool → ℕ → Bool → Bool → ℕ → Beam
beam_turned b cycle line latch kept raster den rsel yscroll =
    let bad = bad_line line yscroll latch in
    record {
      kind = b.kind;
      cycle = cycle;
      raster = raster;
      den = den;
      rsel = rsel;
      yscroll = yscroll;
      latch = kept;
      bad = bad;
      rising = bad && not b.bad;
      ba = ba_output bad cycle;
    }
