-- A number's digits: the last one, and those before it, in any base. Assumes nothing.
use Prim.Native.Nat.{ℕ, zero, suc, ◌+◌, ◌-◌, ◌/◌, ◌%◌, ◌<◌}
use mathlib.Core.Path.{◌≡◌, refl, sym, ap}
use mathlib.Core.Bool.{Bool, true, false, ◌||◌, false≢true}
use mathlib.Core.List.{[], ◌∷◌, ◌++◌}
use native.Mathlib.Omega.{arith}
use native.Mathlib.Nat.{mod-eq_of_lt}
use lib.Dec.{eqb, ltb}
use borrow.Author.Tests.{ltb-true, ne_eqb}
use Rattle.line.specs.Text.{digits_of}

not_zero : (more : ℕ) → eqb (suc more) 0 ≡ false
not_zero more = ne_eqb (suc more) 0 (λ e. omega (arith, e))

-- the second half of a test whose first half fails
second : (a b : Bool) {r : Bool} → a ≡ false → (a || b) ≡ r → b ≡ r
second true b z e = absurd (false≢true (sym z))
second false b z e = e

pub one_digit : (b more n : ℕ) → (eqb more 0 || ltb n b) ≡ true → digits_of b more n ≡ (48 + n % b) ∷ []
unfolding digits_of
one_digit b zero n e = refl
one_digit b (suc more) n e =
    let low = second (eqb (suc more) 0) (ltb n b) (not_zero more) e in
    simp low (ap (λ (d : ℕ). (48 + d) ∷ []) (sym (mod-eq_of_lt (ltb-true n b low))))

pub more_digits : (b more n : ℕ) → (eqb more 0 || ltb n b) ≡ false → digits_of b more n ≡ digits_of b (more - 1) (n / b) ++ ((48 + n % b) ∷ [])
unfolding digits_of
more_digits b zero n e = absurd (false≢true (sym e))
more_digits b (suc more) n e =
    let m : suc more - 1 ≡ more = omega arith in
    simp (second (eqb (suc more) 0) (ltb n b) (not_zero more) e) (ap (λ (k : ℕ). digits_of b k (n / b) ++ ((48 + n % b) ∷ [])) (sym m))

-- where the test fails, there is a digit more
pub some_more : (more : ℕ) (low : Bool) → (eqb more 0 || low) ≡ false → 0 < more
some_more zero low e = absurd (false≢true (sym e))
some_more (suc more) low e = omega arith
