use Rattle.arbitration.specs.Bus.{clock_on}
use Prim.Native.Nat.{◌*◌}
use native.Mathlib.Omega.{arith}
use mir.Facts.{to_z-of_z}
use Rattle.arbitration.proofs.Counting.{some_on, some_on_is}
use Rattle.arbitration.proofs.clock_on.Goals as goal

pub overflow_add-result : goal.overflow_add-result
overflow_add-result c =
    rw (c.wide.ensures, to_z-of_z c.ranges.clock) (some_on c.args.clock (c.args.k * 2) c.requires (omega (arith, c.ranges.k.fits)))

pub returns : goal.returns
unfolding clock_on
returns c =
    rw (c.wide.ensures, to_z-of_z c.ranges.clock) (some_on_is c.args.clock (c.args.k * 2) c.requires (omega (arith, c.ranges.k.fits)))
