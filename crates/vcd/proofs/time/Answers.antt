use Rattle.vcd.specs.Text.{time_of}
use Rattle.vcd.proofs.time.Goals as goal

pub returns-then-w : goal.returns-then-w
unfolding time_of
returns-then-w c = simp (c.if-w.true, c.next.ensures)

pub returns : goal.returns
unfolding time_of
returns c = simp c.if-w.false
