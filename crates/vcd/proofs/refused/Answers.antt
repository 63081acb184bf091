use Rattle.vcd.proofs.Copy.{apart}
use mathlib.Core.Path.{ap, sym}
use Rattle.line.proofs.Join.{on, named_as}
use Rattle.line.specs.Text.{ascii, text_of}
use Rattle.vcd.specs.Text.{refusal_text}
use Rattle.vcd.proofs.refused.Goals as goal

pub returns : goal.returns
unfolding refusal_text ascii
returns c =
    let number = ap (λ n. text_of n 32) (sym c.from.ensures) in
    apart (on c.text-a.ensures.1 (on (named_as number c.put-b.ensures.1) (on c.put-c.ensures.1 c.text.ensures.1)))
