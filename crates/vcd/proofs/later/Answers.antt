use mathlib.Core.Path.{sym}
use native.Mathlib.Omega.{arith}
use Rattle.line.proofs.Join.{on, named_as}
use Rattle.vcd.specs.Text.{later_text}
use Rattle.vcd.proofs.Pieces.{changed_values}
use Rattle.vcd.proofs.later.Goals as goal

pub returns : goal.returns
unfolding later_text
returns c =
    (omega (arith, c.mark-a.ensures.0, c.values.ensures.0), on c.mark-a.ensures.1 (named_as (sym (changed_values _ _)) c.values.ensures.1))
