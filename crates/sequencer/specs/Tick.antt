-- The tick as a call: its refusals, what it answers, and a run of ticks.
use Rattle.std.specs.Prelude.{ℕ, zero, suc, Bool, true, cond, eqb, leb, ℤ, pos, negsuc}
use Rattle.laws.specs.Clock.{last_tickable}
use Rattle.memory.specs.Lent.{Host, lent_refusal}
use Rattle.access.specs.Reads.{told}
use Rattle.chip.specs.declared.Chip.{Chip}
use Rattle.chip.specs.declared.Answer.{Answer}
use Rattle.chip.specs.Chip.{answer, reading}
use Rattle.chip.specs.Accept.{state_refusal}
use Rattle.world.specs.World.{world_of}
use Rattle.world.specs.Tick.{tick_reads, tick_of}

-- 01, Numbers: 4 is given where this fails, and only above the limit: below zero it is 3, as the state is not accepted
unfoldable pub tickable : ℤ → Bool
tickable (pos n) = leb n last_tickable
tickable (negsuc n) = true

-- 01, Numbers; 02 (iv): what is lent first, then the state, 12 and 3, then 4 where the clock is above its limit
unfoldable pub tick_refusal : Host → Chip → ℕ
tick_refusal h c =
    cond (eqb (lent_refusal h) 0) (cond (eqb (state_refusal c) 0) (cond (tickable c.side.bus.clock) 0 4) (state_refusal c)) (lent_refusal h)

-- a refused tick gives the state back unchanged, and has read nothing
unfoldable pub ticked : Host → Chip → Answer
ticked h c =
    cond (eqb (tick_refusal h c) 0) (reading (tick_of h c) (told (tick_reads h c.regs (world_of c)))) (answer (tick_refusal h c) c)

-- n ticks, one after the other, until one is refused; the reads are the last one's
unfoldable pub ticks_from : Host → ℕ → Chip → Answer
ticks_from h zero c = answer 0 c
ticks_from h (suc n) c =
    let before = ticks_from h n c in
    cond (eqb before.refused 0) (ticked h before.chip) before
