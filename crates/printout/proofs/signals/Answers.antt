use mathlib.Core.Path.{ap, sym}
use native.Mathlib.Omega.{arith}
use Rattle.line.specs.Text.{ascii, text_of}
use Rattle.line.proofs.Join.{on, named_as}
use Rattle.printout.specs.Text.{signals_text}
use Rattle.printout.proofs.signals.Goals as goal

pub returns : goal.returns
unfolding ascii signals_text
returns c =
    (omega (arith, c.text-a.ensures.0, c.put.ensures.0), on c.text-a.ensures.1 (named_as (ap (λ n. text_of n 10) (sym c.from.ensures)) c.put.ensures.1))
