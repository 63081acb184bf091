use mir.Facts.{to_z-of_z}
use borrow.Author.Tests.{ne_eqb}
use Rattle.schedule.specs.Kind.{the6569, the6567_r8, kind_of}
use Rattle.sequencer.proofs.Whole.{is_lineable}
use Rattle.sequencer.proofs.can_line.Goals as goal

pub returns-then-kind-eq-KIND_6567R8 : goal.returns-then-kind-eq-KIND_6567R8
unfolding kind_of
returns-then-kind-eq-KIND_6567R8 c = rw (to_z-of_z c.ranges.clock, c.if-kind-eq-KIND_6567R8.true) (is_lineable the6567_r8 c.args.clock)

pub returns : goal.returns
unfolding kind_of
returns c = rw (to_z-of_z c.ranges.clock, ne_eqb _ 1 c.if-kind-eq-KIND_6567R8.false) (is_lineable the6569 c.args.clock)
