-- Two clocks are the same where their bits are. Assumes nothing.
use Prim.Native.Nat.{ℕ, suc, ◌<◌, ◌-◌, ◌^◌}
use mathlib.Core.Path.{◌≡◌, refl}
use mathlib.Core.Bool.{Bool, true, false}
use native.Mathlib.Omega.{arith}
use lib.Dec.{eqb}
use lib.IntN.{ℤ, pos, negsuc}
use lib.Signed.{mag}
use borrow.Author.Tests.{eqb-true, eqb-false, eq-eqb, ne_eqb}
use mir.Syntax.{w64}
use mir.Val.{of_z}
use Rattle.picture.specs.Pen.{same_clock}

-- two tests agree where each equality gives the other
agree : (a b m n : ℕ) → (a ≡ b → m ≡ n) → (m ≡ n → a ≡ b) → (t : Bool) → eqb m n ≡ t → eqb a b ≡ t
agree a b m n f g true e = eq-eqb a b (g (eqb-true m n e))
agree a b m n f g false e = ne_eqb a b (λ q. eqb-false m n e (f q))

pub same_bits : (a b : ℤ) → mag a < 2 ^ 63 → mag b < 2 ^ 63 → eqb (of_z w64 a) (of_z w64 b) ≡ same_clock a b
unfolding same_clock
same_bits (pos m) (pos n) h k = refl
same_bits (pos m) (negsuc n) h k = ne_eqb m (2 ^ 64 - suc n) (λ (e : m ≡ 2 ^ 64 - suc n). omega arith)
same_bits (negsuc m) (pos n) h k = ne_eqb (2 ^ 64 - suc m) n (λ (e : 2 ^ 64 - suc m ≡ n). omega arith)
same_bits (negsuc m) (negsuc n) h k =
    agree (2 ^ 64 - suc m) (2 ^ 64 - suc n) m n (λ (e : 2 ^ 64 - suc m ≡ 2 ^ 64 - suc n). omega arith) (λ (e : m ≡ n). omega arith) (eqb m n) refl
