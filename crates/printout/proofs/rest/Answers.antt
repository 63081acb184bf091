use native.Mathlib.Omega.{arith}
use Rattle.line.proofs.Join.{on}
use Rattle.printout.specs.Text.{rest_text}
use Rattle.printout.proofs.rest.Goals as goal

pub returns : goal.returns
unfolding rest_text
returns c =
    (omega (arith, c.value-a.ensures.0, c.value-b.ensures.0, c.value-c.ensures.0, c.value.ensures.0), on c.value-a.ensures.1 (on c.value-b.ensures.1 (on c.value-c.ensures.1 c.value.ensures.1)))
