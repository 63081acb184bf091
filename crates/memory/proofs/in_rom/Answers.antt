use mathlib.Core.Path.{ap}
use mathlib.Core.Bool.{Bool, ◌&&◌, ◌||◌}
use lib.Dec.{eqb}
use Rattle.memory.specs.Memory.{in_rom}
use Rattle.memory.proofs.Page.{page}
use Rattle.memory.proofs.in_rom.Goals as goal

pub returns : goal.returns
unfolding in_rom
returns c = ap (λ (t : Bool). (eqb c.args.bank 0 || eqb c.args.bank 2) && t) (page c.args.address)
