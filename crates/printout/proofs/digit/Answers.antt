use borrow.Author.Tests.{eq-eqb, ne_eqb}
use Rattle.printout.specs.Text.{digit_of}
use Rattle.printout.proofs.digit.Goals as goal

pub returns-then-unknown-eq1 : goal.returns-then-unknown-eq1
unfolding digit_of
returns-then-unknown-eq1 c = simp (eq-eqb _ _ c.if-unknown-eq1.true)

pub returns : goal.returns
unfolding digit_of
returns c = simp (ne_eqb _ _ c.if-unknown-eq1.false)
