-- Ticks are worked in parts: the cycles of a line with a graphics access, and those without one.
use Rattle.std.specs.Prelude.{ℕ, ◌+◌, ◌*◌, ◌<◌, ◌≤◌, ◌≡◌, Bool, true, cond, eqb, ℤ, pos, negsuc}
use Rattle.laws.specs.Clock.{last_clock, InRange, CanTick}
use Rattle.memory.specs.Lent.{Host, lent_refusal}
use Rattle.registers.specs.declared.Registers.{Registers}
use Rattle.access.specs.declared.Reads.{Reads}
use Rattle.chip.specs.declared.Chip.{Chip}
use Rattle.chip.specs.declared.Answer.{Answer}
use Rattle.chip.specs.Chip.{answer, reading}
use Rattle.chip.specs.Accept.{accepted, state_refusal}
use Rattle.world.specs.World.{World, chip_of}
use Rattle.sequencer.specs.Tick.{ticks_from}

-- what a step of a run may lean on: clocks whose difference fits, and a count that can go on
pub record Ready (w : World) : Type 0 where
  pub clock : CanTick w.side.bus.clock
  pub forced : InRange w.pen.forced
  pub lost : w.side.bus.lost < 256

-- what a run holds from tick to tick: nothing lent is refused, the state is accepted
pub record Held (h : Host) (g : Registers) (w : World) : Type 0 where
  pub free : lent_refusal h ≡ 0
  pub fine : accepted (chip_of g w) ≡ true

-- a run's answer, put together
abbrev pub answered : ℕ → Chip → Reads → Answer
answered n c r = record { refused = n; chip = c; reads = r }

-- 01, States we accept: a clock that k ticks leave within its range
abbrev pub Roomy : ℕ → ℤ → Type 0
Roomy k (pos n) = n + 2 * k ≤ last_clock
Roomy k (negsuc n) = ⊥

-- what a part does: some of at most n ticks, none of them refused, and at least one where it goes at all; the reads are its last tick's, none before the first
pub record Part (h : Host) (g : Registers) (n : ℕ) (goes : Bool) (w : World) (done : ℕ) (v : World) (reads : Reads) : Type 0 where
  pub within : done ≤ n
  pub state : ticks_from h done (chip_of g w) ≡ reading (chip_of g v) reads
  pub held : Held h g v
  pub moved : goes ≡ true → 0 < n → 0 < done

-- why a call is refused, apart from its cycle and its clock: what is lent, then the state
unfoldable pub sound_refusal : Host → Chip → ℕ
sound_refusal h c = cond (eqb (lent_refusal h) 0) (state_refusal c) (lent_refusal h)

-- n ticks of a call that tests this even where it has no tick to do
unfoldable pub tested_from : Host → ℕ → Chip → Answer
tested_from h n c = cond (eqb (sound_refusal h c) 0) (ticks_from h n c) (answer (sound_refusal h c) c)
