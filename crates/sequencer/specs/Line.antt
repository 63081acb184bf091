-- 02 (xii): the line as a call: its refusals, what it answers, and a run of lines.
use Rattle.std.specs.Prelude.{ℕ, zero, suc, ◌-◌, ◌*◌, Bool, true, cond, eqb, leb, ℤ, pos, negsuc}
use Rattle.laws.specs.Clock.{last_tickable}
use Rattle.schedule.specs.Kind.{Kind, kind_of, last_cycle}
use Rattle.memory.specs.Lent.{Host, lent_refusal}
use Rattle.side.specs.declared.Side.{Side}
use Rattle.chip.specs.declared.Chip.{Chip}
use Rattle.chip.specs.declared.Answer.{Answer}
use Rattle.chip.specs.Chip.{answer}
use Rattle.chip.specs.Accept.{state_refusal}
use Rattle.world.specs.World.{world_of, chip_of}
use Rattle.lines.specs.Whole.{line_world}

-- the chip after its next line
abbrev pub line_chip : Host → Chip → Chip
line_chip h c = chip_of c.regs (line_world h c.regs (world_of c))

-- 02 (xii): a line is written from the last cycle of the one before
abbrev pub at_line_end : Side → Bool
at_line_end s = eqb s.beam.cycle (last_cycle (kind_of s.beam.kind))

-- 02 (xii): 4 is given above this: the line's last tick begins at the last clock that a tick takes, two for each tick before it
abbrev pub last_lineable : Kind → ℕ
last_lineable k = last_tickable - 2 * (last_cycle k - 1)

-- as `tickable`, for all the ticks of a line
unfoldable pub lineable : Kind → ℤ → Bool
lineable k (pos n) = leb n (last_lineable k)
lineable k (negsuc n) = true

-- 02 (xii): as a tick, and 11 where the state is not at the last cycle, after 12 and 3, before 4
unfoldable pub line_refusal : Host → Chip → ℕ
line_refusal h c =
    cond (eqb (lent_refusal h) 0)
    (cond (eqb (state_refusal c) 0)
    (cond (at_line_end c.side) (cond (lineable (kind_of c.side.beam.kind) c.side.bus.clock) 0 4) 11)
    (state_refusal c))
    (lent_refusal h)

-- a refused line gives the state back unchanged; a line reports no reads
unfoldable pub lined : Host → Chip → Answer
lined h c = cond (eqb (line_refusal h c) 0) (answer 0 (line_chip h c)) (answer (line_refusal h c) c)

-- n lines, one after the other, until one is refused
unfoldable pub lines_from : Host → ℕ → Chip → Answer
lines_from h zero c = answer 0 c
lines_from h (suc n) c =
    let before = lines_from h n c in
    cond (eqb before.refused 0) (lined h before.chip) before
