-- What goes by the kind in the sprites' counters. Assumes nothing.
use mathlib.Core.Path.{◌≡◌, refl}
use mathlib.Core.Bool.{Bool, true, false, cond}
use Prim.Native.Nat.{ℕ, ◌<◌}
use native.Mathlib.Omega.{arith}
use lib.Dec.{eqb}
use Rattle.schedule.specs.Kind.{Kind, the6569, the6567_r8, kind_of}
use Rattle.engine.specs.Counters.{early3, late3}

pub early3_small : (k : Kind) → early3 k < 4
early3_small the6569 = omega arith
early3_small the6567_r8 = omega arith

by_test : (b : Bool) → b ≡ late3 (cond b the6567_r8 the6569)
by_test true = refl
by_test false = refl

pub late3_is : (kind : ℕ) → eqb kind 1 ≡ late3 (kind_of kind)
unfolding kind_of
late3_is kind = by_test (eqb kind 1)
