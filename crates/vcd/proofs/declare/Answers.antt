use Rattle.line.specs.Text.{ascii}
use Rattle.vcd.specs.Text.{declarations}
use Rattle.vcd.proofs.declare.Goals as goal

pub returns : goal.returns
unfolding declarations ascii
returns c =
    (c.text.ensures.0, c.text.ensures.1.text)
