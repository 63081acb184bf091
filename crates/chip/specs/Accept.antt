-- 01, States we accept; 02 (iv): the kind sets the limits of cycle and raster line, and an unknown one is never accepted; 02 (xi): a line has lost no more cycles than it had.
use Rattle.std.specs.Prelude.{ℕ, Bool, true, false, ◌&&◌, cond, ℤ, pos, negsuc, eqb, leb, ltb, Option, None, Some}
use Rattle.laws.specs.Clock.{last_clock}
use Rattle.schedule.specs.Kind.{known, kind_of, last_cycle, last_line}
use Rattle.sprites.specs.Fine.{fine_test}
use Rattle.rows.specs.Fine.{vmli_limit}
use Rattle.chip.specs.declared.Chip.{Chip}

-- AEC counter −1..3
unfoldable pub aec_fine : ℤ → Bool
aec_fine (pos n) = leb n 3
aec_fine (negsuc n) = eqb n 0

-- `InRange` as a test
unfoldable pub clock_fine : ℤ → Bool
clock_fine (pos n) = leb n last_clock
clock_fine (negsuc n) = false

-- `Pends` as a test
unfoldable pub place_fine : Option ℕ → Bool
place_fine None = true
place_fine (Some p) = ltb p 40

unfoldable pub accepted : Chip → Bool
accepted c =
    let s = c.side in
    let k = kind_of s.beam.kind in
    known s.beam.kind
    && leb 1 s.beam.cycle
    && leb s.beam.cycle (last_cycle k)
    && leb s.beam.raster (last_line k)
    && leb c.regs.compare 511
    && aec_fine s.bus.aec
    && leb s.rows.vc 1023
    && leb s.rows.vcbase 1023
    && leb s.rows.rc 7
    && leb s.rows.vmli (vmli_limit s.beam.cycle)
    && fine_test 8 s.sprites
    && place_fine s.pending.place
    && clock_fine s.bus.clock
    && clock_fine c.picture.pen.forced
    && leb s.bus.lost s.beam.cycle

-- 01, Numbers; 02 (iv): 12 where the kind is unknown, then 3 where the state is not accepted; 0 for none
unfoldable pub state_refusal : Chip → ℕ
state_refusal c = cond (known c.side.beam.kind) (cond (accepted c) 0 3) 12
