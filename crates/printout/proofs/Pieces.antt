-- A value's digits: none left, and one after those before it. Assumes nothing.
use Prim.Native.Nat.{ℕ, zero, suc, ◌-◌, ◌/◌, ◌%◌, ◌<◌}
use mathlib.Core.Path.{◌≡◌, refl, sym, ◌∙◌, ap}
use mathlib.Core.List.{[], ◌∷◌, ◌++◌}
use native.Mathlib.Omega.{arith}
use borrow.Author.Tests.{eq-eqb, ne_eqb}
use Rattle.line.specs.Text.{digits_of}
use Rattle.printout.specs.Text.{digit_of, bits_of, value_text}

pub no_bits : (width v u : ℕ) → width ≡ 0 → bits_of width v u ≡ []
unfolding bits_of
no_bits zero v u e = refl
no_bits (suc width) v u e = absurd (omega (arith, e))

pub more_bits : (width v u : ℕ) {d : ℕ} → (width ≡ 0 → ⊥) → d ≡ digit_of v u → bits_of width v u ≡ bits_of (width - 1) (v / 2) (u / 2) ++ (d ∷ [])
unfolding bits_of
more_bits zero v u e d = absurd (e refl)
more_bits (suc width) v u e d =
    let m : suc width - 1 ≡ width = omega arith in
    rw (m, d) refl

module _ (width v : ℕ) {u : ℕ} where
  pub known : u ≡ 0 → value_text width v u ≡ 32 ∷ digits_of 10 4 v
  unfolding value_text
  known e = simp (eq-eqb u 0 e)

  pub unsure : (u ≡ 0 → ⊥) → value_text width v u ≡ 32 ∷ bits_of width v u
  unfolding value_text
  unsure e = simp (ne_eqb u 0 e)

pub some_bits : (width : ℕ) → (width ≡ 0 → ⊥) → 0 < width
some_bits zero e = absurd (e refl)
some_bits (suc width) e = omega arith
