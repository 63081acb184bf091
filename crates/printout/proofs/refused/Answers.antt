use mathlib.Core.Path.{ap, sym}
use native.Mathlib.Omega.{arith}
use Rattle.line.specs.Text.{ascii, text_of}
use Rattle.line.proofs.Join.{on, named_as}
use Rattle.printout.specs.Text.{refused_text}
use Rattle.printout.proofs.refused.Goals as goal

pub returns : goal.returns
unfolding ascii refused_text
returns c =
    (omega (arith, c.text-a.ensures.0, c.put-b.ensures.0, c.digits-c.ensures.0, c.byte.ensures.0), on c.text-a.ensures.1 (on (named_as (ap (λ n. text_of n 32) (sym c.from.ensures)) c.put-b.ensures.1) (on c.digits-c.ensures.1 c.byte.ensures.1)))
