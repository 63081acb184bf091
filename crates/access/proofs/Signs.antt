-- The difference of two clocks fits, and what `since` makes of it. Assumes nothing.
use Prim.Native.Nat.{ℕ, zero, suc, ◌≤◌, ◌<◌, ◌+◌, ◌^◌}
use mathlib.Core.Path.{◌≡◌, refl}
use mathlib.Core.Bool.{true, false, true≢false}
use native.Mathlib.Omega.{arith}
use lib.Dec.{T, ltb}
use borrow.Author.Tests.{ltb-true}
use lib.IntN.{ℤ, pos, negsuc, nat_abs, ◌-ℤ◌}
use lib.Signed.{mag, lt_z, non_neg}
use mir.Syntax.{w8, w64}
use mir.Val.{SFits, Fits, to_z, of_z}
use Rattle.laws.specs.Clock.{InRange}
use Rattle.laws.proofs.Choice.{either}
use Rattle.laws.proofs.Signs.{back64}
use Rattle.access.specs.Merge.{up_to40, since_of}

abbrev Within : ℕ → ℤ → Type 0
Within n z = mag z ≤ n

apart : (a b : ℤ) → InRange a → InRange b → mag (a -ℤ b) ≤ 2 ^ 62
apart (pos m) (pos zero) h k = omega arith
apart (pos m) (pos (suc n)) h k = either (Within (2 ^ 62)) (ltb m (suc n)) (omega arith) (omega arith)
apart (pos m) (negsuc n) h k = absurd k
apart (negsuc m) b h k = absurd h

two_less : (z : ℤ) → mag z ≤ 2 ^ 62 → mag (z -ℤ pos 2) ≤ 2 ^ 62 + 2
two_less (pos n) h = either (Within (2 ^ 62 + 2)) (ltb n 2) (omega arith) (omega arith)
two_less (negsuc n) h = omega arith

in_half : (z : ℤ) → InRange z → mag z < 2 ^ 63
in_half (pos n) h = omega arith
in_half (negsuc n) h = absurd h

negative : (z : ℤ) → lt_z z (pos 0) ≡ true → 0 ≡ up_to40 z
negative (negsuc n) e = refl
negative (pos n) e = absurd (let h : n < 0 = ltb-true n 0 e in omega arith)

below_40 : (z : ℤ) → lt_z z (pos 0) ≡ false → lt_z z (pos 40) ≡ true → nat_abs z ≡ up_to40 z
below_40 (negsuc n) e f = absurd (true≢false e)
below_40 (pos n) e f = simp f

pub below_40_fits : (z : ℤ) → lt_z z (pos 0) ≡ false → lt_z z (pos 40) ≡ true → T (non_neg z) × Fits w8 (nat_abs z)
below_40_fits (negsuc n) e f = absurd (true≢false e)
below_40_fits (pos n) e f = (tt, record { fits = omega (arith, ltb-true n 40 f) })

from_40 : (z : ℤ) → lt_z z (pos 0) ≡ false → lt_z z (pos 40) ≡ false → 40 ≡ up_to40 z
from_40 (negsuc n) e f = absurd (true≢false e)
from_40 (pos n) e f = simp f

-- a number as the code reads it back
abbrev back : ℤ → ℤ
back z = to_z w64 (of_z w64 z)

-- what the code computes
abbrev pub elapsed : ℤ → ℤ → ℤ
elapsed a b = back (back (back a -ℤ back b) -ℤ pos 2)

module _ (a b : ℤ) (h : InRange a) (k : InRange b) where
  pub between_fits : SFits w64 (back a -ℤ back b)
  between_fits = rw (back64 a (in_half a h), back64 b (in_half b k)) (record { sfits = omega (arith, apart a b h k) })

  between : back (back a -ℤ back b) ≡ a -ℤ b
  between = rw (back64 a (in_half a h), back64 b (in_half b k)) (back64 (a -ℤ b) (omega (arith, apart a b h k)))

  pub elapsed_fits : SFits w64 (back (back a -ℤ back b) -ℤ pos 2)
  elapsed_fits = rw between (record { sfits = omega (arith, two_less (a -ℤ b) (apart a b h k)) })

  -- is the number that the rule names
  exact : elapsed a b ≡ a -ℤ b -ℤ pos 2
  exact = rw between (back64 (a -ℤ b -ℤ pos 2) (omega (arith, two_less (a -ℤ b) (apart a b h k))))

  pub before : lt_z (elapsed a b) (pos 0) ≡ true → 0 ≡ since_of a b
  unfolding since_of
  before e = negative (a -ℤ b -ℤ pos 2) (rw exact at e)

  pub soon : lt_z (elapsed a b) (pos 0) ≡ false → lt_z (elapsed a b) (pos 40) ≡ true → nat_abs (elapsed a b) ≡ since_of a b
  unfolding since_of
  soon e f = rw exact (below_40 (a -ℤ b -ℤ pos 2) (rw exact at e) (rw exact at f))

  pub late : lt_z (elapsed a b) (pos 0) ≡ false → lt_z (elapsed a b) (pos 40) ≡ false → 40 ≡ since_of a b
  unfolding since_of
  late e f = from_40 (a -ℤ b -ℤ pos 2) (rw exact at e) (rw exact at f)
