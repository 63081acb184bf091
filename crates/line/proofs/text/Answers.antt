use mathlib.Core.Path.{refl}
use Rattle.line.proofs.Copy.{copied}
use Rattle.line.proofs.text.Goals as goal

pub returns : goal.returns
returns c = (refl, copied _ _ _ c.copy_from_slice.ensures.after c.requires)
