-- 02 (xii): a line as a whole is its ticks, with no other call between. What it says.
use Rattle.std.specs.Prelude.{ℕ, zero, suc, ◌*◌, ◌≡◌, true, false}
use Rattle.schedule.specs.Kind.{last_cycle}
use Rattle.memory.specs.Lent.{Host}
use Rattle.registers.specs.declared.Registers.{Registers}
use Rattle.registers.specs.declared.Controls.{Controls}
use Rattle.arbitration.specs.Bus.{Counted}
use Rattle.side.specs.declared.Side.{Side}
use Rattle.side.specs.Turn.{turned}
use Rattle.chip.specs.declared.Chip.{Chip}
use Rattle.chip.specs.Accept.{accepted}
use Rattle.world.specs.World.{World, world_of}
use Rattle.world.specs.Tick.{tick_world}
use Rattle.lines.specs.Begin.{kind_in}
use Rattle.lines.specs.Side.{line_side}
use Rattle.lines.specs.Whole.{line_world}

-- n ticks, one after the other, of the timing side and of the whole
unfoldable pub turns_on : Controls → ℕ → Side → Side
turns_on g zero s = s
turns_on g (suc n) s = (turned g (turns_on g n s)).side

unfoldable pub ticks_on : Host → Registers → ℕ → World → World
ticks_on h g zero w = w
ticks_on h g (suc n) w = tick_world h g (ticks_on h g n w)

-- at the last cycle of its line, by its kind, with an AEC counter from −1 to 3: all that is asked of a state. An unknown kind goes by the 6569's column, DECISIONS 72
pub record AtLineEnd (s : Side) : Type 0 where
  pub cycle : s.beam.cycle ≡ last_cycle (kind_in s)
  pub aec : Counted s.bus.aec

-- the timing side: all its fields, the pending place and the lost cycles among them
abbrev pub ALineOfTheSide : Type 0
ALineOfTheSide = (g : Controls) (s : Side) → AtLineEnd s → turns_on g (last_cycle (kind_in s)) s ≡ line_side g s

-- the whole chip, field for field
abbrev pub ALineIsItsTicks : Type 0
ALineIsItsTicks = (h : Host) (g : Registers) (w : World) → AtLineEnd w.side → ticks_on h g (last_cycle (kind_in w.side)) w ≡ line_world h g w

-- so of every accepted state at the last cycle of its line
abbrev pub OfEveryAcceptedChip : Type 0
OfEveryAcceptedChip =
    (h : Host) (c : Chip) → accepted c ≡ true → c.side.beam.cycle ≡ last_cycle (kind_in c.side)
    → ticks_on h c.regs (last_cycle (kind_in c.side)) (world_of c) ≡ line_world h c.regs (world_of c)

-- a line ends where the next one can be taken
abbrev pub AnotherLineCanFollow : Type 0
AnotherLineCanFollow = (g : Controls) (s : Side) → AtLineEnd (line_side g s)

-- n lines, one after the other, are so many times a line's ticks
unfoldable pub lines_on : Host → Registers → ℕ → World → World
lines_on h g zero w = w
lines_on h g (suc n) w = line_world h g (lines_on h g n w)

abbrev pub LinesAreTheirTicks : Type 0
LinesAreTheirTicks = (h : Host) (g : Registers) (w : World) (n : ℕ) → AtLineEnd w.side → ticks_on h g (n * last_cycle (kind_in w.side)) w ≡ lines_on h g n w

-- what every line leaves
pub record Left (s : Side) : Type 0 where
  pub ending : s.frame.ending ≡ false
  pub main : s.border.main ≡ true
  pub rising : s.beam.rising ≡ false
  pub ba : s.beam.ba ≡ true
  pub access : s.rows.access ≡ false
  pub transition : s.rows.transition ≡ false

abbrev pub EveryLineLeaves : Type 0
EveryLineLeaves = (g : Controls) (s : Side) → Left (line_side g s)
