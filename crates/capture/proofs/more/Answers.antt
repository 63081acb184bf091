use native.Mathlib.Omega.{arith}
use Rattle.capture.proofs.more.Goals as goal

pub returns-then-len-eq0 : goal.returns-then-len-eq0
returns-then-len-eq0 c =
    (omega (arith, c.working.ensures.0), omega (arith, c.working.ensures.1, c.requires))
