use mathlib.Core.Path.{sym, ◌∙◌}
use Rattle.spelling.proofs.Folds.{digit_next, digits_over}
use Rattle.spelling.proofs.digits_of.Goals as goal

pub loop-b-init : goal.loop-b-init
loop-b-init c = simp c.none-d.ensures

pub loop-b-preserved : goal.loop-b-preserved
loop-b-preserved c = rw c.digit-d.ensures (c.loop-b.invariant ∙ digit_next _ _ _ c.loop-b-test.true)

pub returns : goal.returns
returns c = sym (c.loop-b.invariant ∙ digits_over _ _ _ c.loop-b-test.false)
