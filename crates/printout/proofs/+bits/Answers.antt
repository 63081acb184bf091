use native.Mathlib.Omega.{arith}
use Rattle.line.proofs.Join.{on, named_as}
use Rattle.line.proofs.Copy.{nothing}
use Rattle.printout.proofs.Pieces.{no_bits, more_bits, some_bits}
use Rattle.printout.proofs.+bits.Goals as goal

pub returns-then-width-eq0 : goal.returns-then-width-eq0
returns-then-width-eq0 t c = (omega arith, named_as (no_bits _ _ _ c.if-width-eq0.true) (nothing _ _))

pub returns : goal.returns
returns t c =
    (omega (arith, c.bits-a.ensures.0, c.byte.ensures.0, some_bits _ c.if-width-eq0.false), named_as (more_bits _ _ _ c.if-width-eq0.false c.digit.ensures) (on c.bits-a.ensures.1 c.byte.ensures.1))
