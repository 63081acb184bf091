-- Ticks that only count: after the left compares and before the last graphics access, on a line where nobody asks for the bus.
-- No rules: what private functions hand on where a run of ticks is worked fast.
use Rattle.std.specs.Prelude.{ℕ, ◌+◌, Bool, not, ◌&&◌, eqb}
use Rattle.timing.specs.Beam.{bad_line}
use Rattle.timing.specs.Set.{cycle≔}
use Rattle.arbitration.specs.Bus.{clock_on}
use Rattle.arbitration.specs.Set.{clock≔}
use Rattle.rows.specs.Rows.{rows_later}
use Rattle.side.specs.declared.Side.{Side}
use Rattle.side.specs.Set.{beam≔, bus≔, rows≔}

-- no bad line and not the line that latches DEN, the bus the CPU's already, no transition pending and no character access left
unfoldable pub only_counts : ℕ → Side → Bool
only_counts yscroll s =
    not (bad_line s.beam.raster yscroll s.beam.latch)
    && not (eqb s.beam.raster 0x30)
    && not s.bus.balow
    && not s.bus.aeclow
    && not s.rows.transition
    && not s.rows.access

-- k such ticks on: the cycle, the clock, VC and VMLI
abbrev pub leapt : ℕ → Side → Side
leapt k s =
    beam≔ (cycle≔ (s.beam.cycle + k) s.beam) (bus≔ (clock≔ (clock_on k s.bus.clock) s.bus) (rows≔ (rows_later k s.rows) s))
