use native.Mathlib.Omega.{arith}
use Rattle.line.proofs.Join.{on}
use Rattle.vcd.proofs.values.Goals as goal

pub returns : goal.returns
returns c =
    (omega (arith, c.beam-a.ensures.0, c.rest.ensures.0), on c.beam-a.ensures.1 c.rest.ensures.1)
