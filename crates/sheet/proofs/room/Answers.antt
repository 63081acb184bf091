use borrow.Author.Tests.{le-leb, lt-leb}
use Rattle.sheet.proofs.room.Goals as goal

pub returns-then-at-last : goal.returns-then-at-last
returns-then-at-last c = simp (le-leb _ _ c.if-at-last.true)

pub returns : goal.returns
returns c = simp (lt-leb _ _ c.if-at-last.false, c.flush.ensures)
