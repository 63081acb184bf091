use mathlib.Core.Path.{ap, sym}
use native.Mathlib.Omega.{arith}
use Rattle.line.proofs.Join.{on, named_as}
use Rattle.line.specs.Text.{text_of, refused_of}
use Rattle.line.proofs.refused.Goals as goal

pub returns : goal.returns
unfolding refused_of
returns c =
    (omega (arith, c.text-a.ensures.0, c.put-b.ensures.0, c.put.ensures.0), on c.text-a.ensures.1 (on (named_as (ap (λ n. text_of n 32) (sym c.from.ensures)) c.put-b.ensures.1) c.put.ensures.1))
