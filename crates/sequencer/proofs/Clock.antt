-- The clock's test is the definition's, and what it says of the clock. Assumes nothing.
use mathlib.Core.Path.{◌≡◌, refl}
use mathlib.Core.Bool.{true, false≢true}
use lib.IntN.{ℤ, pos, negsuc}
use lib.Signed.{le_z}
use borrow.Author.Tests.{leb-true}
use Rattle.laws.specs.Clock.{last_tickable, CanTick}
use Rattle.chip.specs.Accept.{clock_fine}
use Rattle.sequencer.specs.Tick.{tickable}

pub is_tickable : (z : ℤ) → le_z z (pos last_tickable) ≡ tickable z
unfolding tickable
is_tickable (pos n) = refl
is_tickable (negsuc n) = refl

pub tickable_can : (z : ℤ) → clock_fine z ≡ true → tickable z ≡ true → CanTick z
unfolding clock_fine tickable
tickable_can (pos n) e t = leb-true n last_tickable t
tickable_can (negsuc n) e t = absurd (false≢true e)
