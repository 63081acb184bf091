-- The AEC counter's sign and a clock's steps, as signed numbers that fit. Assumes nothing.
use Prim.Native.Nat.{ℕ, ◌<◌, ◌≤◌}
use mathlib.Core.Path.{◌≡◌, refl, ◌∙◌, ap}
use mathlib.Core.Bool.{Bool, true, false, cond}
use native.Mathlib.Omega.{arith}
use lib.Dec.{ltb}
use lib.IntN.{ℤ, pos, negsuc, ◌+ℤ◌}
use lib.Signed.{lt_z}
use borrow.Author.Tests.{le-ltb}
use mir.Val.{SFits, to_z, of_z}
use mir.Facts.{to_z-of_z, to_z_pos}
use mir.Syntax.{w64}
use Rattle.laws.specs.Clock.{InRange}
use Rattle.arbitration.specs.Bus.{low}

not_below_zero : (n : ℕ) → ltb n 0 ≡ false
not_below_zero n = le-ltb n 0 (omega arith)

pub is_negative : (z : ℤ) → lt_z z (pos 0) ≡ low z
unfolding low
is_negative (negsuc n) = refl
is_negative (pos n) = not_below_zero n

pub at_most_one : (b : Bool) → cond b 1 0 ≤ 1
at_most_one true = omega arith
at_most_one false = omega arith

-- some half cycles on
module _ (z : ℤ) (m : ℕ) (h : InRange z) (l : m < 512) where
  few : to_z w64 m ≡ pos m
  few = to_z_pos w64 (omega arith)

  fits_on : (y : ℤ) → InRange y → SFits w64 (y +ℤ pos m)
  fits_on (pos n) r = record { sfits = omega arith }
  fits_on (negsuc n) r = absurd r

  pub some_on : SFits w64 (z +ℤ to_z w64 m)
  some_on = rw few (fits_on z h)

  pub some_on_is : to_z w64 (of_z w64 (z +ℤ to_z w64 m)) ≡ z +ℤ pos m
  some_on_is = to_z-of_z some_on ∙ ap (λ (x : ℤ). z +ℤ x) few
