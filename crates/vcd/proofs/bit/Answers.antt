use native.Mathlib.Omega.{arith}
use Rattle.vcd.proofs.bit.Goals as goal

pub returns : goal.returns
returns c = (omega (arith, c.text.ensures.0), c.text.ensures.1)
