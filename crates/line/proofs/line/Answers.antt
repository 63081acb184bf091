use native.Mathlib.Omega.{arith}
use Rattle.line.proofs.Join.{on}
use Rattle.line.specs.Text.{line_of}
use Rattle.line.proofs.line.Goals as goal

pub returns : goal.returns
unfolding line_of
returns c =
    (omega (arith, c.four-a.ensures.0, c.four.ensures.0), on c.four-a.ensures.1 c.four.ensures.1)
