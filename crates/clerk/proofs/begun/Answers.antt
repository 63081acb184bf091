use Rattle.clerk.specs.Machinery.Page.{begun_of}
use Rattle.clerk.proofs.begun.Goals as goal

pub returns : goal.returns
unfolding begun_of
returns c = simp c.begun.ensures
