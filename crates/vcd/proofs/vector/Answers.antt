use mathlib.Core.Path.{ap, sym}
use native.Mathlib.Omega.{arith}
use Rattle.line.proofs.Join.{on, named_as}
use Rattle.vcd.specs.Text.{digits_of}
use Rattle.vcd.proofs.vector.Goals as goal

pub returns : goal.returns
returns c =
    (omega (arith, c.byte-a.ensures.0, c.digits-b.ensures.0, c.text.ensures.0), on c.byte-a.ensures.1 (on (named_as (ap (digits_of 2 _) (sym c.from.ensures)) c.digits-b.ensures.1) c.text.ensures.1))
