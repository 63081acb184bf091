-- 02 (iv): a late byte is refused 12 exactly where the kind is unknown, with nothing pending too. Assumes nothing.
use Prim.Native.Nat.{ℕ}
use mathlib.Core.Path.{◌≡◌, refl, sym, ◌∙◌}
use mathlib.Core.Bool.{Bool, true, false}
use lib.Dec.{eqb}
use borrow.Author.Tests.{eqb-true}
use Rattle.schedule.specs.Kind.{known}
use Rattle.chip.specs.declared.Chip.{Chip}
use Rattle.chip.specs.Chip.{answer}
use Rattle.chip.specs.Accept.{state_refusal}
use Rattle.chip.proofs.Fine.{unknown_12, only_unknown_12}
use Rattle.calls.specs.Calls.{late_taken}

module _ (c : Chip) (byte : ℕ) where
  by_zero : (z : Bool) → eqb (state_refusal c) 0 ≡ z → (late_taken c byte).refused ≡ state_refusal c
  unfolding late_taken
  by_zero true e = simp e (sym (eqb-true (state_refusal c) 0 e))
  by_zero false e = simp e

  pub late_number : (late_taken c byte).refused ≡ state_refusal c
  late_number = by_zero (eqb (state_refusal c) 0) refl

  pub late_12_then : known c.side.beam.kind ≡ false → late_taken c byte ≡ answer 12 c
  unfolding late_taken
  late_12_then k = rw (unknown_12 c k)

  pub late_12_only_then : (late_taken c byte).refused ≡ 12 → known c.side.beam.kind ≡ false
  late_12_only_then e = only_unknown_12 c (sym late_number ∙ e)
