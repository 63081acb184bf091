-- Two chips with the same timing side and the same timing registers. Assumes nothing.
use mathlib.Core.Path.{◌≡◌}
use mathlib.Core.Bool.{Bool, true, false, cond}
use Rattle.registers.specs.Control.{timed}
use Rattle.chip.specs.declared.Chip.{Chip}
use Rattle.chip.specs.declared.Answer.{Answer}

-- two chips with the same timing side and timing registers, and two answers with such chips
pub record Level (a b : Chip) : Type 0 where
  pub side : a.side ≡ b.side
  pub registers : timed a.regs ≡ timed b.regs

pub record LevelAnswers (r s : Answer) : Type 0 where
  pub refused : r.refused ≡ s.refused
  pub chip : Level r.chip s.chip

-- what holds of both pairs holds of the pair that a test picks
pub picked : {A : Type 0} (R : A → A → Type 0) (t : Bool) {x y m n : A} → R x y → R m n → R (cond t x m) (cond t y n)
picked R true p q = p
picked R false p q = q
