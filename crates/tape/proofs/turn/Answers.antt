use mathlib.Core.Path.{refl}
use native.Mathlib.Omega.{arith}
use Rattle.driver.specs.Driver.{store}
use Rattle.tape.proofs.Glue.{turned_by}
use Rattle.tape.proofs.turn.Goals as goal

pub shape_of-ram : goal.shape_of-ram
shape_of-ram c =
    omega (arith)

pub returns : goal.returns
returns c = let all = turned_by (store c.args.ram.now c.args.rom.now c.args.colour.now) _ c.args.before _ _ c.args.found _ _ _ c.turn-made.ensures.0 refl c.told-noted.ensures.0 c.told-noted.ensures.1 c.told-noted.ensures.2 c.turn-made.ensures.1 in record { at_bound = all.0; value = all.1.0; written = all.1.1.0; colour_after = all.1.1.1 }
