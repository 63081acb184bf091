use Rattle.memory.specs.Lent.{seen}
use Rattle.engine.specs.World.{world_in}
use Rattle.sequencer.proofs.Lined.{Lining}
use Rattle.sequencer.proofs.line_run.Given as goal

abbrev pub invariant-loop-done : goal.invariant-loop-done
invariant-loop-done l =
    Lining (seen l.host) l.regs (world_in l.initial.now l.initial.arrays) l.n (world_in l.now l.arrays) l.done
