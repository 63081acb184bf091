use Rattle.phrase.proofs.which.Goals as goal

pub returns : goal.returns
returns c = rw c.which_of.ensures at c.ours.ensures
