use Prim.Native.Nat.{◌≤◌}
use mathlib.Core.Path.{◌≡◌}
use lib.ListN.{length}
use Rattle.driver.specs.Driver.{store}
use Rattle.sheet.proofs.Drive.{ahead}
use Rattle.clerk.proofs.Blocks.{Prints}
use Rattle.clerk.proofs.print.Given as goal

abbrev pub invariant-loop-page : goal.invariant-loop-page
invariant-loop-page l =
    Prints l.kind l.input (store l.initial.ram l.initial.rom l.initial.colour) (store l.ram l.rom l.colour) l.page l.out
    × (l.page.at ≤ length l.out)
    × (length l.ram ≡ length l.initial.ram) × (length l.rom ≡ length l.initial.rom) × (length l.colour ≡ length l.initial.colour) × (length l.out ≡ length l.initial.out)

abbrev pub decreases-loop-page : goal.decreases-loop-page
decreases-loop-page l = ahead l.input l.page.run
