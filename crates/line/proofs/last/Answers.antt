use native.Mathlib.Omega.{arith}
use Rattle.line.proofs.Join.{on}
use Rattle.line.proofs.last.Goals as goal

pub returns : goal.returns
returns c =
    (omega (arith, c.digit-a.ensures.0, c.byte.ensures.0), on c.digit-a.ensures.1 c.byte.ensures.1)
