-- 02 (viii): the addresses are free: two runs that are together read for the same reason at other addresses. Assumes nothing.
use mathlib.Core.Path.{◌≡◌, refl}
use mathlib.Core.List.{List, [], ◌∷◌}
use Rattle.memory.specs.Memory.{read_at}
use Rattle.schedule.specs.Kind.{kind_of}
use Rattle.schedule.specs.Diagram.{pointer_time, slot_sprite}
use Rattle.schedule.specs.Reads.{reason_of, accesses}
use Rattle.timing.specs.Beam.{next_cycle}
use Rattle.timing.specs.Beam as Beams
use Rattle.access.specs.declared.Read.{Read}
use Rattle.access.specs.Reads.{read, told}
use Rattle.picture.specs.Reads.{reads_by}
use Rattle.side.specs.Turn.{fresh_side, turned}
use Rattle.chip.specs.Chip.{powered}
use Rattle.world.specs.World.{world_of}
use Rattle.world.specs.Tick.{tick_reads}
use Rattle.artwork.proofs.Instances.{filled, loud}

first_told : (x : Read) (l : List Read) → (told (x ∷ l)).first ≡ x
unfolding told
first_told x [] = refl
first_told x (y ∷ l) = refl

-- the first tick from power-up reads sprite 3's pointer, in a screen at 0x0000 and in one at 0x3C00
pub other-addresses :
    ((told (tick_reads (filled 0 0) (powered 0).regs (world_of (powered 0)))).first ≡ read 1 0x03FB)
    × ((told (tick_reads (filled 255 3) (loud 0).regs (world_of (loud 0)))).first ≡ read 1 0x3FFB)
unfolding tick_reads reads_by turned accesses reason_of read_at pointer_time slot_sprite next_cycle kind_of fresh_side Beams.fresh powered loud
other-addresses = (first_told _ _, first_told _ _)
