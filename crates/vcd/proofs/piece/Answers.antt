use Rattle.vcd.proofs.Copy.{apart}
use Rattle.line.proofs.Join.{named_as}
use Rattle.vcd.specs.Text.{piece_of}
use Rattle.vcd.proofs.piece.Goals as goal

pub returns-then-w : goal.returns-then-w
unfolding piece_of
returns-then-w c =
    apart (named_as (simp (c.if-w.true, c.time.ensures)) c.later.ensures.1)

pub returns : goal.returns
unfolding piece_of
returns c =
    apart (named_as (simp c.if-w.false) c.first.ensures.1)
