use native.Mathlib.Omega.{arith}
use Rattle.line.proofs.Join.{on}
use Rattle.vcd.specs.Machinery.Steps.{rest_text}
use Rattle.vcd.proofs.rest.Goals as goal

pub returns : goal.returns
unfolding rest_text
returns c =
    (omega (arith, c.part-a.ensures.0, c.part-b.ensures.0, c.part-c.ensures.0, c.part.ensures.0), on c.part-a.ensures.1 (on c.part-b.ensures.1 (on c.part-c.ensures.1 c.part.ensures.1)))
