-- The code's tests of the AEC counter and of a clock are the definition's. Assumes nothing.
use Prim.Native.Nat.{zero, suc}
use mathlib.Core.Path.{◌≡◌, refl}
use mathlib.Core.Bool.{◌&&◌}
use native.Mathlib.Omega.{arith}
use lib.IntN.{ℤ, pos, negsuc}
use lib.Signed.{le_z}
use borrow.Author.Tests.{le-leb, lt-leb, ne_eqb}
use Rattle.laws.specs.Clock.{last_clock}
use Rattle.chip.specs.Accept.{aec_fine, clock_fine}

pub is_counted : (z : ℤ) → (le_z (negsuc 0) z && le_z z (pos 3)) ≡ aec_fine z
unfolding aec_fine
is_counted (pos n) = refl
is_counted (negsuc zero) = refl
is_counted (negsuc (suc n)) = simp (lt-leb (suc n) 0 (omega arith), ne_eqb (suc n) 0 (λ (e : suc n ≡ 0). omega arith))

pub is_clock : (z : ℤ) → (le_z (pos 0) z && le_z z (pos last_clock)) ≡ clock_fine z
unfolding clock_fine
is_clock (pos n) = simp (le-leb 0 n (omega arith))
is_clock (negsuc n) = refl
