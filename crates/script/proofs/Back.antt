-- A step that is written down and read back, wherever it stands in the file. Assumes nothing.
use mathlib.Core.Path.{◌≡◌, refl, sym}
use mathlib.Core.Bool.{Bool, true, false, ◌&&◌}
use mathlib.Core.List.{List, [], ◌∷◌, ◌++◌}
use Prim.Native.Nat.{ℕ, zero, suc, ◌/◌, ◌%◌, ◌<◌}
use native.Mathlib.Omega.{arith}
use Rattle.std.specs.Prelude.{Result, Ok, Err}
use lib.Dec.{eqb, leb}
use lib.ListN.{length}
use borrow.Author.Tests.{le-ltb, ne_eqb, eqb-true}
use Rattle.laws.specs.Bytes.{word}
use Rattle.laws.proofs.Choice.{left, right, and_true}
use Rattle.script.specs.declared.Step.{Step}
use Rattle.script.specs.declared.Step.TheVariants.{Tick, Write, Expand, Controls, Late, Borders, Bank, Control1, Control2}
use Rattle.script.specs.declared.Fault.{Fault}
use Rattle.script.specs.declared.Fault.TheVariants.{NotAllowed}
use Rattle.script.specs.Step.{allowed_if, step_decoded, step_of, bytes_of, allowed}

-- five bytes that are there are judged
pub there : (k a b c d : ℕ) (more : List ℕ) → step_of (k ∷ a ∷ b ∷ c ∷ d ∷ more) ≡ step_decoded k a b c d
unfolding step_of
there k a b c d more = simp (le-ltb (length (k ∷ a ∷ b ∷ c ∷ d ∷ more)) 5 (omega arith))

word_back : (n : ℕ) → word (n % 256) (n / 256) ≡ n
word_back n = omega arith

-- 01, Run file: what is written down is read back, and what is not allowed is refused
pub read_back : (step : Step) (more : List ℕ) → step_of (bytes_of step ++ more) ≡ allowed_if (allowed step) step
unfolding step_decoded bytes_of allowed
read_back Tick more = there 0 0 0 0 0 more
read_back (Write address value) more = there 1 address value 0 0 more
read_back (Expand value) more = there 2 value 0 0 0 more
read_back (Controls ctrl1 ctrl2 compare) more = simp (there 3 ctrl1 ctrl2 (compare % 256) (compare / 256) more, word_back compare)
read_back (Late value) more = there 4 value 0 0 0 more
read_back Borders more = there 5 0 0 0 0 more
read_back (Bank bank) more = simp (there 7 bank 0 0 0 more, and_true)
read_back (Control1 value) more = there 8 value 0 0 0 more
read_back (Control2 value) more = there 9 value 0 0 0 more

-- the identity, for each step that is allowed
pub same_step : (step : Step) (more : List ℕ) → allowed step ≡ true → step_of (bytes_of step ++ more) ≡ Ok step
unfolding allowed_if
same_step step more e = simp (read_back step more, e)

-- ---- and what is read is what was written

-- a step that was let through passed its test
passed : (t : Bool) (x step : Step) → allowed_if t x ≡ Ok step → (t ≡ true) × (x ≡ step)
unfolding allowed_if
passed true x step e = (refl, cc)
passed false x step e = absurd (let z : ◌≡◌ {A = ℕ} 0 1 = cc in omega arith)

-- unused bytes that passed are 0
zero1 : (a : ℕ) → eqb a 0 ≡ true → a ≡ 0
zero1 a = eqb-true a 0

zero2 : (a b : ℕ) → (eqb a 0 && eqb b 0) ≡ true → (a ≡ 0) × (b ≡ 0)
zero2 a b e = (zero1 a (left (eqb a 0) (eqb b 0) e), zero1 b (right (eqb a 0) (eqb b 0) e))

module _ (t : Bool) (b c d : ℕ) (e : (t && eqb b 0 && eqb c 0 && eqb d 0) ≡ true) where
  last : (t && eqb b 0 && eqb c 0) ≡ true
  last = left (t && eqb b 0 && eqb c 0) (eqb d 0) e

  middle : (t && eqb b 0) ≡ true
  middle = left (t && eqb b 0) (eqb c 0) last

  first : t ≡ true
  first = left t (eqb b 0) middle

  zero3 : (b ≡ 0) × (c ≡ 0) × (d ≡ 0)
  zero3 = (
    zero1 b (right t (eqb b 0) middle),
    zero1 c (right (t && eqb b 0) (eqb c 0) last),
    zero1 d (right (t && eqb b 0 && eqb c 0) (eqb d 0) e),
  )

-- a kind above 9 is none
no_kind : (k a b c d : ℕ) (step : Step) → step_decoded (suc (suc (suc (suc (suc (suc (suc (suc (suc (suc k)))))))))) a b c d ≡ Ok step → ⊥
unfolding step_decoded
no_kind k a b c d step e =
    let n = suc (suc (suc (suc (suc (suc (suc (suc (suc (suc k))))))))) in
    let refused : ◌≡◌ {A = Result Step Fault} (Err NotAllowed) (Ok step) =
    simp (
      ne_eqb n 0 (λ q. omega arith),
      ne_eqb n 1 (λ q. omega arith),
      ne_eqb n 2 (λ q. omega arith),
      ne_eqb n 3 (λ q. omega arith),
      ne_eqb n 4 (λ q. omega arith),
      ne_eqb n 5 (λ q. omega arith),
      ne_eqb n 6 (λ q. omega arith),
      ne_eqb n 7 (λ q. omega arith),
      ne_eqb n 8 (λ q. omega arith),
      ne_eqb n 9 (λ q. omega arith),
    ) at e in
    let z : ◌≡◌ {A = ℕ} 0 1 = cc in omega arith

-- 01, Run file: a record that is read as a step is that step written down
pub written : (kind a b c d : ℕ) (step : Step) → c < 256 → step_decoded kind a b c d ≡ Ok step → bytes_of step ≡ kind ∷ a ∷ b ∷ c ∷ d ∷ []
unfolding step_decoded bytes_of
written zero a b c d step h e =
    let p = passed (eqb a 0 && eqb b 0 && eqb c 0 && eqb d 0) Tick step e in
    let z = zero3 (eqb a 0) b c d p.0 in
    let y : a ≡ 0 = zero1 a (first (eqb a 0) b c d p.0) in
    simp (sym p.1, y, z.0, z.1, z.2)
written (suc zero) a b c d step h e =
    let p = passed (eqb c 0 && eqb d 0) (Write a b) step e in
    let z = zero2 c d p.0 in
    simp (sym p.1, z.0, z.1)
written (suc (suc zero)) a b c d step h e =
    let p = passed (eqb b 0 && eqb c 0 && eqb d 0) (Expand a) step e in
    let z = zero3 true b c d p.0 in
    simp (sym p.1, z.0, z.1, z.2)
written (suc (suc (suc zero))) a b c d step h e =
    let p = passed (leb (word c d) 511) (Controls a b (word c d)) step e in
    let low : word c d % 256 ≡ c = omega arith in
    let high : word c d / 256 ≡ d = omega arith in
    simp (sym p.1, low, high)
written (suc (suc (suc (suc zero)))) a b c d step h e =
    let p = passed (eqb b 0 && eqb c 0 && eqb d 0) (Late a) step e in
    let z = zero3 true b c d p.0 in
    simp (sym p.1, z.0, z.1, z.2)
written (suc (suc (suc (suc (suc zero))))) a b c d step h e =
    let p = passed (eqb a 0 && eqb b 0 && eqb c 0 && eqb d 0) Borders step e in
    let z = zero3 (eqb a 0) b c d p.0 in
    let y : a ≡ 0 = zero1 a (first (eqb a 0) b c d p.0) in
    simp (sym p.1, y, z.0, z.1, z.2)
written (suc (suc (suc (suc (suc (suc zero)))))) a b c d step h e = absurd (let z : ◌≡◌ {A = ℕ} 0 1 = cc in omega arith)
written (suc (suc (suc (suc (suc (suc (suc zero))))))) a b c d step h e =
    let p = passed (leb a 3 && eqb b 0 && eqb c 0 && eqb d 0) (Bank a) step e in
    let z = zero3 (leb a 3) b c d p.0 in
    simp (sym p.1, z.0, z.1, z.2)
written (suc (suc (suc (suc (suc (suc (suc (suc zero)))))))) a b c d step h e =
    let p = passed (eqb b 0 && eqb c 0 && eqb d 0) (Control1 a) step e in
    let z = zero3 true b c d p.0 in
    simp (sym p.1, z.0, z.1, z.2)
written (suc (suc (suc (suc (suc (suc (suc (suc (suc zero))))))))) a b c d step h e =
    let p = passed (eqb b 0 && eqb c 0 && eqb d 0) (Control2 a) step e in
    let z = zero3 true b c d p.0 in
    simp (sym p.1, z.0, z.1, z.2)
written (suc (suc (suc (suc (suc (suc (suc (suc (suc (suc k)))))))))) a b c d step h e = absurd (no_kind k a b c d step e)
