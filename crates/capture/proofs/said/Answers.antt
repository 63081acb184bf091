use native.Mathlib.Omega.{arith}
use Rattle.capture.proofs.said.Goals as goal

pub returns-in-Signals : goal.returns-in-Signals
returns-in-Signals c =
    (omega (arith, c.working.ensures.0, c.requires.0), omega (arith, c.working.ensures.1, c.signals.ensures.0, c.requires.1))

pub returns-in-Refused : goal.returns-in-Refused
returns-in-Refused c =
    (omega (arith, c.working-in-Refused.ensures.0, c.requires.0), omega (arith, c.working-in-Refused.ensures.1, c.refused.ensures.0, c.requires.1))
