use Prim.Native.Nat.{◌-◌}
use Rattle.memory.specs.Lent.{seen}
use Rattle.access.specs.Machinery.Noted.{reads_in}
use Rattle.engine.specs.World.{world_in}
use Rattle.sequencer.proofs.Runs.{Going}
use Rattle.sequencer.proofs.run.Given as goal

abbrev pub invariant-loop-done : goal.invariant-loop-done
invariant-loop-done l =
    Going (seen l.host) l.regs (world_in l.initial.now l.initial.arrays) l.n (world_in l.now l.arrays) l.done (reads_in l.noted)

abbrev pub decreases-loop-done : goal.decreases-loop-done
decreases-loop-done l =
    l.n - l.done
