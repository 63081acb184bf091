use borrow.Author.Tests.{ne_eqb}
use Rattle.schedule.specs.Kind.{kind_of}
use Rattle.waves.proofs.Cuts.{late_6569, late_6567}
use Rattle.waves.proofs.late.Goals as goal

pub returns-then-kind-eq-KIND_6567R8 : goal.returns-then-kind-eq-KIND_6567R8
unfolding kind_of
returns-then-kind-eq-KIND_6567R8 c = rw c.if-kind-eq-KIND_6567R8.true (late_6567 c.args.dma c.places-all.ensures)

pub returns-else-kind-eq-KIND_6567R8 : goal.returns-else-kind-eq-KIND_6567R8
unfolding kind_of
returns-else-kind-eq-KIND_6567R8 c = rw (ne_eqb _ 1 c.if-kind-eq-KIND_6567R8.false) (late_6569 c.args.dma c.places-all.ensures)
