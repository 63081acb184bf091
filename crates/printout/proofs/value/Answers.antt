use mathlib.Core.Path.{ap, sym}
use native.Mathlib.Omega.{arith}
use Rattle.line.specs.Text.{digits_of}
use Rattle.line.proofs.Join.{on, named_as}
use Rattle.printout.proofs.Pieces.{known, unsure}
use Rattle.printout.proofs.value.Goals as goal

pub returns-then-unknown-eq0 : goal.returns-then-unknown-eq0
returns-then-unknown-eq0 c =
    (omega (arith, c.byte-a.ensures.0, c.digits.ensures.0), named_as (known _ _ c.if-unknown-eq0.true) (on c.byte-a.ensures.1 (named_as (ap (digits_of 10 4) (sym c.from.ensures)) c.digits.ensures.1)))

pub returns : goal.returns
returns c =
    (omega (arith, c.byte-a.ensures.0, c.bits.ensures.0, c.requires.1), named_as (unsure _ _ c.if-unknown-eq0.false) (on c.byte-a.ensures.1 c.bits.ensures.1))
