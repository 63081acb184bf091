use native.Mathlib.Omega.{arith}
use Rattle.line.proofs.Join.{on}
use Rattle.vcd.specs.Text.{mark_text}
use Rattle.vcd.proofs.mark.Goals as goal

pub returns : goal.returns
unfolding mark_text
returns c =
    (omega (arith, c.byte-a.ensures.0, c.digits-b.ensures.0, c.byte.ensures.0), on c.byte-a.ensures.1 (on c.digits-b.ensures.1 c.byte.ensures.1))
