use mathlib.Core.Bool.{Bool, not}
use Prim.Native.Nat.{ℕ}
use Rattle.memory.specs.Lent.{seen}
use Rattle.access.specs.Machinery.Noted.{reads_in}
use Rattle.schedule.specs.Machinery.Stretches.{before_graphics}
use Rattle.engine.specs.World.{world_in}
use Rattle.sequencer.proofs.Staged.{Parting}
use Rattle.sequencer.proofs.dark_run.Given as goal

abbrev goes : ℕ → Bool
goes c = not (before_graphics c)

abbrev pub invariant-loop-i : goal.invariant-loop-i
invariant-loop-i l =
    Parting (seen l.host) l.regs goes (world_in l.initial.now l.initial.arrays) l.n (world_in l.now l.arrays) l.i (reads_in l.noted)
