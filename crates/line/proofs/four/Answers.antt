use native.Mathlib.Omega.{arith}
use Rattle.line.proofs.Join.{on}
use Rattle.line.specs.Text.{four_of}
use Rattle.line.proofs.four.Goals as goal

pub returns : goal.returns
unfolding four_of
returns c =
    (omega (arith, c.put-a.ensures.0, c.put-b.ensures.0, c.put-c.ensures.0, c.put.ensures.0), on c.put-a.ensures.1 (on c.put-b.ensures.1 (on c.put-c.ensures.1 c.put.ensures.1)))
