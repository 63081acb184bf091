use Rattle.sheet.specs.Sheet.{begun_of}
use Rattle.sheet.proofs.begun.Goals as goal

pub returns : goal.returns
unfolding begun_of
returns c = simp (c.with_text.ensures, c.begun.ensures)
