use Rattle.tape.specs.Machinery.Tape.{begun_of}
use Rattle.tape.proofs.begun.Goals as goal

pub returns : goal.returns
unfolding begun_of
returns c =
    simp (c.fresh.ensures, c.begun.ensures)
