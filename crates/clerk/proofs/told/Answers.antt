use native.Mathlib.Omega.{arith}
use Rattle.line.proofs.Copy.{nothing}
use Rattle.clerk.specs.Bus.{text_by}
use Rattle.clerk.proofs.told.Goals as goal

pub returns-in-Nothing : goal.returns-in-Nothing
unfolding text_by
returns-in-Nothing c = (omega arith, simp c.in-Nothing.is (nothing _ _))

pub returns-in-Steps : goal.returns-in-Steps
unfolding text_by
returns-in-Steps c = (omega (arith, c.steps.ensures.0), simp c.in-Steps.is c.steps.ensures.1)

pub returns-in-Tick : goal.returns-in-Tick
unfolding text_by
returns-in-Tick c = (omega (arith, c.tick.ensures.0), simp c.in-Tick.is c.tick.ensures.1)

pub returns-in-Refused : goal.returns-in-Refused
unfolding text_by
returns-in-Refused c = (omega (arith, c.refused.ensures.0), simp c.in-Refused.is c.refused.ensures.1)
