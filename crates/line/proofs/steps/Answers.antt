use native.Mathlib.Omega.{arith}
use Rattle.line.proofs.Join.{on}
use Rattle.line.specs.Text.{steps_of}
use Rattle.line.proofs.steps.Goals as goal

pub returns : goal.returns
unfolding steps_of
returns c =
    (omega (arith, c.text-a.ensures.0, c.put.ensures.0), on c.text-a.ensures.1 c.put.ensures.1)
