-- What a tick makes of the timing side: no picture value reaches it. Assumes nothing.
use mathlib.Core.Path.{◌≡◌, refl}
use Rattle.memory.specs.Lent.{Host}
use Rattle.registers.specs.Control.{timed}
use Rattle.side.specs.declared.Side.{Side}
use Rattle.side.specs.Turn.{turned}
use Rattle.chip.specs.declared.Chip.{Chip}
use Rattle.world.specs.Tick.{tick_world, tick_of}

-- a tick's timing side is the timing step's, whatever the host lends
pub tick_side : (h : Host) (c : Chip) → (tick_of h c).side ≡ (turned (timed c.regs) c.side).side
unfolding tick_world
tick_side h c = refl
