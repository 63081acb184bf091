use mathlib.Core.Path.{refl}
use Rattle.vcd.specs.Text.{fresh}
use Rattle.vcd.proofs.fresh.Goals as goal

pub returns : goal.returns
unfolding fresh
returns c = refl
