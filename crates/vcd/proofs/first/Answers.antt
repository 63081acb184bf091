use mathlib.Core.Path.{sym}
use native.Mathlib.Omega.{arith}
use Rattle.line.proofs.Join.{on, named_as}
use Rattle.line.specs.Text.{ascii}
use Rattle.vcd.specs.Text.{first_text}
use Rattle.vcd.proofs.Pieces.{all_values}
use Rattle.vcd.proofs.first.Goals as goal

pub returns : goal.returns
unfolding first_text ascii
returns c =
    (omega (arith, c.text-a.ensures.0, c.values-b.ensures.0, c.text.ensures.0), on c.text-a.ensures.1 (on (named_as (sym (all_values _ _)) c.values-b.ensures.1) c.text.ensures.1))
