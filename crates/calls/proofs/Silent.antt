-- 02 (viii): no call but a tick reads. Assumes nothing.
use Prim.Native.Nat.{ℕ}
use mathlib.Core.Path.{◌≡◌, refl}
use mathlib.Core.List.{[]}
use lib.Dec.{eqb, ltb}
use Rattle.laws.proofs.Choice.{either}
use Rattle.access.specs.Reads.{told}
use Rattle.chip.specs.declared.Chip.{Chip}
use Rattle.chip.specs.declared.Answer.{Answer}
use Rattle.chip.specs.Accept.{state_refusal}
use Rattle.calls.specs.Calls.{controls_placed, late_taken}

pub controls_silent : (c : Chip) (ctrl1 ctrl2 line : ℕ) → (controls_placed c ctrl1 ctrl2 line).reads ≡ told []
unfolding controls_placed
controls_silent c ctrl1 ctrl2 line = either (λ (a : Answer). a.reads ≡ told []) (ltb 511 line) refl refl

pub late_silent : (c : Chip) (byte : ℕ) → (late_taken c byte).reads ≡ told []
unfolding late_taken
late_silent c byte = either (λ (a : Answer). a.reads ≡ told []) (eqb (state_refusal c) 0) refl refl
