-- A number's digits read back as the number, in any base. Assumes nothing.
use Prim.Native.Nat.{ℕ, zero, suc, ◌+◌, ◌*◌, ◌-◌, ◌/◌, ◌%◌, ◌^◌, ◌<◌}
use mathlib.Core.Path.{◌≡◌, refl, ◌∙◌, ap, subst}
use mathlib.Core.Bool.{Bool, true, false, cond, ◌&&◌}
use mathlib.Core.List.{[], ◌∷◌, ◌++◌}
use native.Mathlib.Omega.{arith}
use native.Mathlib.Nat.{mod-lt, mod-eq_of_lt, div-add-mod', div-lt_iff_lt-mul, pow-suc, pow-zero, one-mul}
use lib.Dec.{ltb}
use lib.ListN.{length, length-append}
use borrow.Author.Tests.{lt-ltb, ltb-true}
use Rattle.laws.proofs.Choice.{left, right}
use Rattle.vcd.specs.Text.{digits_of}
use Rattle.viewer.specs.Words.{Word}
use Rattle.viewer.specs.Reader.{number_from, are_digits}
use Rattle.viewer.proofs.Split.{blacks}

number_on : (b : ℕ) (xs : Word) (a x : ℕ) → number_from b a (xs ++ (x ∷ [])) ≡ number_from b a xs * b + (x - 48)
unfolding number_from
number_on b [] a x = refl
number_on b (y ∷ xs) a x = number_on b xs (a * b + (y - 48)) x

digits_on : (b : ℕ) (xs : Word) (x : ℕ) → are_digits b xs ≡ true → ltb 47 x ≡ true → ltb x (48 + b) ≡ true → are_digits b (xs ++ (x ∷ [])) ≡ true
unfolding are_digits
digits_on b [] x a p q = simp (p, q)
digits_on b (y ∷ xs) x a p q =
    let first = left (ltb 47 y && ltb y (48 + b)) (are_digits b xs) a in
    simp (left (ltb 47 y) (ltb y (48 + b)) first, right (ltb 47 y) (ltb y (48 + b)) first, digits_on b xs x (right (ltb 47 y && ltb y (48 + b)) (are_digits b xs) a) p q)

pub digits_black : (b : ℕ) (xs : Word) → are_digits b xs ≡ true → blacks xs ≡ true
unfolding are_digits blacks
digits_black b [] e = refl
digits_black b (x ∷ xs) e =
    let first = left (ltb 47 x && ltb x (48 + b)) (are_digits b xs) e in
    let big = lt-ltb 32 x (omega (arith, ltb-true 47 x (left (ltb 47 x) (ltb x (48 + b)) first))) in
    simp (big, digits_black b xs (right (ltb 47 x && ltb x (48 + b)) (are_digits b xs) e))

module _ (b : ℕ) (some-base : 0 < b) where
  low : (d : ℕ) → ltb 47 (48 + d) ≡ true
  low d = lt-ltb 47 (48 + d) (omega arith)

  high : (d : ℕ) → d < b → ltb (48 + d) (48 + b) ≡ true
  high d h = lt-ltb (48 + d) (48 + b) (omega arith)

  one_digit : (d : ℕ) → d < b → are_digits b ((48 + d) ∷ []) ≡ true
  unfolding are_digits
  one_digit d h = simp (low d, high d h)

  fine_by : (more n : ℕ) (t : Bool) → ltb n b ≡ t → are_digits b (digits_of b more (n / b)) ≡ true
      → are_digits b (cond t ((48 + n) ∷ []) (digits_of b more (n / b) ++ ((48 + n % b) ∷ []))) ≡ true
  fine_by more n true e h = one_digit n (ltb-true n b e)
  fine_by more n false e h = digits_on b (digits_of b more (n / b)) (48 + n % b) h (low (n % b)) (high (n % b) (mod-lt n some-base))

  pub fine : (more n : ℕ) → are_digits b (digits_of b more n) ≡ true
  unfolding digits_of
  fine zero n = one_digit (n % b) (mod-lt n some-base)
  fine (suc more) n = fine_by more n (ltb n b) refl (fine more (n / b))

  -- one digit is the number
  small : (n : ℕ) → number_from b 0 ((48 + n) ∷ []) ≡ n
  unfolding number_from
  small n = omega arith

  off : (d : ℕ) → 48 + d - 48 ≡ d
  off d = omega arith

  back_by : (more n : ℕ) (t : Bool) → ltb n b ≡ t → number_from b 0 (digits_of b more (n / b)) ≡ n / b
      → number_from b 0 (cond t ((48 + n) ∷ []) (digits_of b more (n / b) ++ ((48 + n % b) ∷ []))) ≡ n
  back_by more n true e h = small n
  back_by more n false e h =
      number_on b (digits_of b more (n / b)) 0 (48 + n % b)
      ∙ ap (λ (v : ℕ). v * b + (48 + n % b - 48)) h
      ∙ ap (λ (v : ℕ). n / b * b + v) (off (n % b))
      ∙ div-add-mod' n b

  pub back : (more n : ℕ) → n < b ^ suc more → number_from b 0 (digits_of b more n) ≡ n
  unfolding digits_of
  back zero n h =
      let one : b ^ 1 ≡ b = pow-suc b 0 ∙ ap (λ (v : ℕ). v * b) (pow-zero b) ∙ one-mul b in
      ap (λ (v : ℕ). number_from b 0 ((48 + v) ∷ [])) (mod-eq_of_lt (subst (λ (v : ℕ). n < v) one h)) ∙ small n
  back (suc more) n h = back_by more n (ltb n b) refl (back more (n / b) ((div-lt_iff_lt-mul {k = b} {x = n} {y = b ^ suc more} some-base).1 (subst (λ (v : ℕ). n < v) (pow-suc b (suc more)) h)))

  some_by : (xs : Word) (n x : ℕ) (t : Bool) → 0 < length (cond t (n ∷ []) (xs ++ (x ∷ [])))
  some_by xs n x true = omega arith
  some_by xs n x false = omega (arith, length-append xs (x ∷ []))

  pub some : (more n : ℕ) → 0 < length (digits_of b more n)
  unfolding digits_of
  some zero n = omega arith
  some (suc more) n = some_by (digits_of b more (n / b)) (48 + n) (48 + n % b) (ltb n b)
