use mathlib.Core.Path.{◌≡◌}
use lib.ListN.{length}
use Rattle.driver.specs.Driver.{store}
use Rattle.sheet.specs.Machinery.Fill.{ahead}
use Rattle.sheet.proofs.Loop.{Going}
use Rattle.sheet.proofs.fill.Given as goal

abbrev pub invariant-loop-run : goal.invariant-loop-run
invariant-loop-run l =
    Going l.input (store l.initial.ram l.initial.rom l.initial.colour) l.initial.run l.initial.out (store l.ram l.rom l.colour) l.run l.out
    × (length l.ram ≡ length l.initial.ram) × (length l.rom ≡ length l.initial.rom) × (length l.colour ≡ length l.initial.colour) × (length l.out ≡ length l.initial.out)

abbrev pub decreases-loop-run : goal.decreases-loop-run
decreases-loop-run l = ahead l.input l.run
