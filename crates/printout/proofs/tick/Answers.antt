use native.Mathlib.Omega.{arith}
use Rattle.line.proofs.Join.{on}
use Rattle.printout.specs.Text.{tick_text}
use Rattle.printout.proofs.tick.Goals as goal

pub returns : goal.returns
unfolding tick_text
returns c =
    (omega (arith, c.digits-a.ensures.0, c.beam-b.ensures.0, c.rest-c.ensures.0, c.byte.ensures.0), on c.digits-a.ensures.1 (on c.beam-b.ensures.1 (on c.rest-c.ensures.1 c.byte.ensures.1)))
