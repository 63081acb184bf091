use mathlib.Core.Bool.{Bool, not}
use Prim.Native.Nat.{ℕ}
use Rattle.memory.specs.Lent.{seen}
use Rattle.access.proofs.Back.{none_noted}
use Rattle.schedule.specs.Machinery.Stretches.{before_graphics}
use Rattle.engine.specs.World.{world_in}
use Rattle.sequencer.proofs.Runs.{ready}
use Rattle.sequencer.proofs.Staged.{started, tickable_now, further}
use Rattle.sequencer.proofs.dark_run.Goals as goal

abbrev goes : ℕ → Bool
goes c = not (before_graphics c)

pub loop-i-init : goal.loop-i-init
loop-i-init c =
    started (seen c.args.host.now) c.args.regs goes (world_in c.args.core c.args.arrays.now) c.args.n none_noted c.requires.held c.requires.room

pub inner_dark-stepped-requires-clause-ready : goal.inner_dark-stepped-requires-clause-ready
inner_dark-stepped-requires-clause-ready c =
    ready c.loop-i.invariant.going.held (tickable_now (seen c.args.host.now) c.args.regs goes (world_in c.args.core c.args.arrays.now) c.args.n c.loop-i.invariant c.loop-i-test.true)

pub loop-i-preserved : goal.loop-i-preserved
loop-i-preserved c =
    further (seen c.args.host.now) c.args.regs goes (world_in c.args.core c.args.arrays.now) c.args.n c.loop-i.invariant c.loop-i-test.true c.inner_dark-stepped.ensures.world c.inner_dark-stepped.ensures.reads
