use borrow.Author.Tests.{lt-ltb}
use Rattle.wave.specs.Wave.{declared_in}
use Rattle.wave.proofs.Glue.{declares_both}
use Rattle.wave.proofs.declare.Goals as goal

pub returns-then-out-lt292 : goal.returns-then-out-lt292
unfolding declared_in
returns-then-out-lt292 c =
    (simp (lt-ltb _ _ c.if-out-lt292.true), simp (lt-ltb _ _ c.if-out-lt292.true))

pub returns : goal.returns
returns c =
    declares_both _ _ _ c.if-out-lt292.false c.declare-n.ensures.0 c.declare-n.ensures.1
