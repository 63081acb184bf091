use borrow.Author.Tests.{ne_eqb, eq-eqb, lt-ltb, le-ltb}
use Rattle.wave.specs.Wave.{number_of}
use Rattle.wave.proofs.number.Goals as goal

pub returns-then-refused-ne0 : goal.returns-then-refused-ne0
unfolding number_of
returns-then-refused-ne0 c =
    simp (ne_eqb _ _ c.if-refused-ne0.true)

pub returns-then-room-lt292 : goal.returns-then-room-lt292
unfolding number_of
returns-then-room-lt292 c =
    simp (eq-eqb _ _ c.if-refused-ne0.false, lt-ltb _ _ c.if-room-lt292.true)

pub returns : goal.returns
unfolding number_of
returns c =
    simp (eq-eqb _ _ c.if-refused-ne0.false, le-ltb _ _ c.if-room-lt292.false)
