-- The clock of a wave's last edge, and the count of a wave's cycles, by the bits of a word. Assumes nothing.
use Prim.Native.Nat.{ℕ, zero, suc, ◌+◌, ◌-◌, ◌/◌, ◌%◌, ◌<◌, ◌≤◌}
use mathlib.Core.Path.{◌≡◌, refl, ◌∙◌, sym, ap}
use mathlib.Core.Bool.{Bool, cond}
use native.Mathlib.Omega.{arith}
use lib.Dec.{eqb}
use lib.IntN.{ℤ}
use borrow.Author.Tests.{ne_eqb}
use lib.Count.{ones, ones_in, ones_step, count_leading_zeros, leading_le, leading_of_zero}
use Rattle.arbitration.specs.Bus.{clock_on}
use Rattle.waves.specs.Waves.{Wave, edge_of}
use Rattle.waves.proofs.Words.{as_wave, later, low_bit}

-- a word without its first cycle
drop_first : {n : ℕ} {w : ℕ} (F : ℕ → Bool) (c : ℕ) → Wave (suc n) (λ i. F (suc (c + i))) w → Wave n (λ i. F (suc (suc c + i))) (w / 2)
drop_first {n} F c x = let e : suc n ≡ n + 1 = omega arith in as_wave (later 1 e x) (λ i. F (suc (suc c + i))) (λ i h. let e : c + (1 + i) ≡ suc c + i = omega arith in ap (λ (j : ℕ). F (suc j)) e)

first_bit : {n : ℕ} {w : ℕ} (F : ℕ → Bool) (c : ℕ) → Wave (suc n) (λ i. F (suc (c + i))) w → eqb (w % 2) 1 ≡ F (suc c)
first_bit {n} {w} F c x = let e : c + 0 ≡ c = omega arith in sym (low_bit w) ∙ x.bits 0 (omega arith) ∙ ap (λ (j : ℕ). F (suc j)) e

module _ (z : ℤ) (R : ℕ → ℤ) (F : ℕ → Bool) (step : (n : ℕ) → R (suc n) ≡ cond (F (suc n)) (clock_on (suc n) z) (R n)) where
  last_bit : (k c w : ℕ) → eqb (w % 2) 1 ≡ F (suc c)
      → cond (eqb (w / 2) 0) (R (suc c)) (clock_on (suc c + (k - count_leading_zeros k (w / 2))) z) ≡ cond (eqb w 0) (R c) (clock_on (c + (suc k - count_leading_zeros (suc k) w)) z)
  unfolding count_leading_zeros
  last_bit k c zero e = step c ∙ rw (sym e)
  last_bit k c (suc v) e = rw (ne_eqb (suc v) 0 (λ t. omega arith)) (by (suc v / 2) refl)
    where
      by : (h : ℕ) → suc v / 2 ≡ h → cond (eqb h 0) (R (suc c)) (clock_on (suc c + (k - count_leading_zeros k h)) z) ≡ clock_on (c + (suc k - count_leading_zeros k h)) z
      by zero q =
          let odd : suc v % 2 ≡ 1 = omega arith in
          let one : suc c ≡ c + (suc k - count_leading_zeros k 0) = omega (arith, leading_of_zero k) in
          step c ∙ rw (sym e, odd) (ap (λ (m : ℕ). clock_on m z) one)
      by (suc u) q =
          let same : suc c + (k - count_leading_zeros k (suc u)) ≡ c + (suc k - count_leading_zeros k (suc u)) = omega (arith, leading_le k (suc u)) in
          rw (ne_eqb (suc u) 0 (λ t. omega arith)) (ap (λ (m : ℕ). clock_on m z) same)

  edge : (n k c w : ℕ) → n ≤ k → Wave n (λ i. F (suc (c + i))) w → R (c + n) ≡ cond (eqb w 0) (R c) (clock_on (c + (k - count_leading_zeros k w)) z)
  edge zero k c w l x =
      let none : w ≡ 0 = omega (arith, x.small) in
      let e : c + 0 ≡ c = omega arith in
      rw (none, e)
  edge (suc n) zero c w l x = absurd (omega arith)
  edge (suc n) (suc k) c w l x =
      let e : c + suc n ≡ suc c + n = omega arith in
      ap R e ∙ edge n k (suc c) (w / 2) (omega arith) (drop_first F c x) ∙ last_bit k c w (first_bit F c x)

  pub edge_by : (n c w : ℕ) → n ≤ 32 → Wave n (λ i. F (suc (c + i))) w → R (c + n) ≡ edge_of w c z (R c)
  unfolding edge_of
  edge_by n c w l x = edge n 32 c w l x

module _ (S : ℕ → ℕ) (F : ℕ → Bool) (step : (n : ℕ) → S (suc n) ≡ S n + cond (F (suc n)) 1 0) where
  no_ones : ones 0 ≡ 0
  unfolding ones ones_in
  no_ones = refl

  bit_of : (d : ℕ) → d < 2 → cond (eqb d 1) 1 0 ≡ d
  bit_of zero h = refl
  bit_of (suc zero) h = refl
  bit_of (suc (suc d)) h = absurd (omega arith)

  pub count_by : (n c w : ℕ) → Wave n (λ i. F (suc (c + i))) w → S (c + n) ≡ S c + ones w
  count_by zero c w x =
      let none : w ≡ 0 = omega (arith, x.small) in
      let e : c + 0 ≡ c = omega arith in
      rw (none, e, no_ones) (omega arith)
  count_by (suc n) c w x =
      let e : c + suc n ≡ suc c + n = omega arith in
      let d : cond (F (suc c)) 1 0 ≡ w % 2 = ap (λ (b : Bool). cond b 1 0) (sym (first_bit F c x)) ∙ bit_of (w % 2) (omega arith) in
      ap S e ∙ count_by n (suc c) (w / 2) (drop_first F c x) ∙ omega (arith, step c, d, ones_step w)
