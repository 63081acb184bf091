-- A line's cycles, one after the other: what the trajectories of the parts are made of. Assumes nothing.
use Prim.Native.Nat.{ℕ, zero, suc, ◌+◌}
use mathlib.Core.Path.{◌≡◌, refl, ap}
use mathlib.Core.Bool.{cond}
use native.Mathlib.Omega.{arith}
use lib.Dec.{leb}

-- from the first cycle on
unfoldable pub through : {A : Type 0} → (ℕ → A → A) → ℕ → A → A
through f zero x = x
through f (suc n) x = f (suc n) (through f n x)

-- from cycle a + 1 on
unfoldable pub beyond : {A : Type 0} → (ℕ → A → A) → ℕ → ℕ → A → A
beyond f a zero x = x
beyond f a (suc n) x = f (suc (a + n)) (beyond f a n x)

-- the same step n times
abbrev pub times : {A : Type 0} → ℕ → (A → A) → A → A
times zero f x = x
times (suc n) f x = f (times n f x)

-- the raster line in the first cycle, and after it
abbrev pub raster_in : ℕ → ℕ → ℕ → ℕ
raster_in line raster c = cond (leb 2 c) raster line

pub through_suc : {A : Type 0} (f : ℕ → A → A) (n : ℕ) (x : A) → through f (suc n) x ≡ f (suc n) (through f n x)
unfolding through
through_suc f n x = refl

pub through_on : {A : Type 0} (f : ℕ → A → A) (a n : ℕ) (x : A) → through f (a + n) x ≡ beyond f a n (through f a x)
unfolding through beyond
through_on f a zero x = let e : a + 0 ≡ a = omega arith in rw e
through_on f a (suc n) x = let e : a + suc n ≡ suc (a + n) = omega arith in rw e (ap (f (suc (a + n))) (through_on f a n x))
