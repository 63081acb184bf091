-- Calls of one kind, one after the other, until one is refused: what holds of a run of ticks and of a run of lines alike. Assumes nothing.
use Prim.Native.Nat.{ℕ, zero, suc, ◌+◌, ◌-◌, ◌<◌, ◌≤◌}
use mathlib.Core.Path.{◌≡◌, refl, sym, ◌∙◌}
use mathlib.Core.Bool.{false, cond}
use native.Mathlib.Omega.{arith}
use native.Mathlib.Nat.{zero-add, suc-add}
use lib.Dec.{eqb}
use borrow.Author.Tests.{ne_eqb}
use Rattle.access.specs.declared.Reads.{Reads}
use Rattle.chip.specs.declared.Chip.{Chip}
use Rattle.chip.specs.declared.Answer.{Answer}
use Rattle.chip.specs.Chip.{answer, reading}

module _ (call : Chip → Answer) (from : ℕ → Chip → Answer)
    (none : (c : Chip) → from 0 c ≡ answer 0 c)
    (more : (n : ℕ) (c : Chip) → from (suc n) c ≡ cond (eqb (from n c).refused 0) (call (from n c).chip) (from n c)) where
  -- a refusal stays: the state is as it was, so the next call is refused alike
  same_again : (c : Chip) (t : Answer) (i : ℕ) → from i c ≡ t → eqb t.refused 0 ≡ false → from (suc i) c ≡ t
  same_again c t i s r = rw (more i c, s, r)

  stays : (c : Chip) (t : Answer) (i : ℕ) → from i c ≡ t → eqb t.refused 0 ≡ false → (k : ℕ) → from (k + i) c ≡ t
  stays c t i e r zero = rw zero-add e
  stays c t i e r (suc k) = rw suc-add (same_again c t (k + i) (stays c t i e r k) r)

  -- a call that is refused ends every run that has one more to do
  pub ended : (c : Chip) (t : Answer) (i n : ℕ) → from (suc i) c ≡ t → eqb t.refused 0 ≡ false → i < n → t ≡ from n c
  ended c t i n e r l =
      let q : (n - suc i) + suc i ≡ n = omega arith in
      sym (rw q at (stays c t (suc i) e r (n - suc i)))

  pub stays_refused : (c : Chip) (i n : ℕ) → i ≤ n → ((from i c).refused ≡ 0 → ⊥) → from i c ≡ from n c
  stays_refused c i n l nz =
      let q : (n - i) + i ≡ n = omega arith in
      sym (rw q at (stays c (from i c) i refl (ne_eqb (from i c).refused 0 nz) (n - i)))

  pub next : (c d : Chip) {r : Reads} (i : ℕ) → from i c ≡ reading d r → from (suc i) c ≡ call d
  next c d i e = rw (more i c, e)

  pub one : (c : Chip) → from 1 c ≡ call c
  one c = next c c 0 (none c)

  pub refused_first : (c : Chip) (r n : ℕ) → call c ≡ answer r c → (r ≡ 0 → ⊥) → (n ≡ 0 → ⊥) → answer r c ≡ from n c
  refused_first c r n e nz nn = ended c (answer r c) 0 n (one c ∙ e) (ne_eqb r 0 nz) (omega arith)
