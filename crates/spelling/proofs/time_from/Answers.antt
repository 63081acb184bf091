use mathlib.Core.Path.{sym, ◌∙◌}
use Rattle.spelling.proofs.Folds.{time_next, time_over}
use Rattle.spelling.proofs.time_from.Goals as goal

pub loop-b-preserved : goal.loop-b-preserved
loop-b-preserved c = rw c.time_digit-t.ensures (c.loop-b.invariant ∙ time_next _ _ _ c.loop-b-test.true)

pub returns : goal.returns
returns c = sym (c.loop-b.invariant ∙ time_over _ _ _ c.loop-b-test.false)
