use Rattle.printout.proofs.+bits.Given as goal

abbrev pub decreases-bits : goal.decreases-bits
decreases-bits l = l.width
