use Prim.Native.Nat.{◌≤◌}
use mathlib.Core.Path.{◌≡◌}
use lib.ListN.{length}
use Rattle.driver.specs.Driver.{store}
use Rattle.sheet.proofs.Drive.{ahead}
use Rattle.tape.proofs.Blocks.{Prints}
use Rattle.tape.proofs.print.Given as goal

abbrev pub invariant-loop-tape : goal.invariant-loop-tape
invariant-loop-tape l =
    Prints l.kind l.input (store l.initial.ram l.initial.rom l.initial.colour) (store l.ram l.rom l.colour) l.tape l.out
    × (l.tape.at ≤ length l.out)
    × (length l.ram ≡ length l.initial.ram) × (length l.rom ≡ length l.initial.rom) × (length l.colour ≡ length l.initial.colour) × (length l.out ≡ length l.initial.out)

abbrev pub decreases-loop-tape : goal.decreases-loop-tape
decreases-loop-tape l = ahead l.input l.tape.run
