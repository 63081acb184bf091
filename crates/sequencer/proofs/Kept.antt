-- A tick of an accepted state gives an accepted state. Assumes nothing.
use mathlib.Core.Path.{◌≡◌}
use mathlib.Core.Bool.{true}
use Rattle.memory.specs.Lent.{Host}
use Rattle.registers.specs.declared.Registers.{Registers}
use Rattle.side.proofs.Kept.{side_kept}
use Rattle.picture.proofs.Laws.{forced_kept}
use Rattle.chip.specs.declared.Chip.{Chip}
use Rattle.chip.specs.Accept.{accepted}
use Rattle.world.specs.World.{World, world_of, chip_of}
use Rattle.world.specs.Tick.{tick_world, tick_of}
use Rattle.sequencer.specs.Tick.{tickable}
use Rattle.chip.proofs.Accepted.{accepted_clock}
use Rattle.chip.proofs.Fine.{accepted_fine, fine_accepted}
use Rattle.sequencer.proofs.Clock.{tickable_can}

pub world_kept : (h : Host) (g : Registers) (w : World) → accepted (chip_of g w) ≡ true → tickable w.side.bus.clock ≡ true → accepted (chip_of g (tick_world h g w)) ≡ true
unfolding tick_world
world_kept h g w e t =
    let f = accepted_fine (chip_of g w) e in
    fine_accepted (chip_of g (tick_world h g w)) (record {
      side = side_kept _ w.side f.side (tickable_can w.side.bus.clock (accepted_clock (chip_of g w) e) t);
      compare = f.compare;
      forced = rw forced_kept f.forced;
    })

pub tick_kept : (h : Host) (c : Chip) → accepted c ≡ true → tickable c.side.bus.clock ≡ true → accepted (tick_of h c) ≡ true
tick_kept h c = world_kept h c.regs (world_of c)
