use mathlib.Core.Path.{◌∙◌}
use Rattle.spelling.proofs.Alike.{pointwise_same}
use Rattle.spelling.proofs.same.Goals as goal

pub returns : goal.returns
returns c = c.eq.ensures ∙ pointwise_same _ _
