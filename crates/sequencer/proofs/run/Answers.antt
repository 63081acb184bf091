use mathlib.Core.Path.{sym, ◌∙◌}
use borrow.Author.Rules.{rules}
use Rattle.laws.proofs.Signs.{back64}
use Rattle.memory.specs.Lent.{seen}
use Rattle.access.proofs.Back.{none_noted}
use Rattle.engine.specs.World.{world_in}
use Rattle.sequencer.proofs.Runs.{begun, ready, no_more}
use Rattle.sequencer.proofs.Staged.{carried}
use Rattle.sequencer.proofs.run.Goals as goal

pub loop-done-init : goal.loop-done-init
loop-done-init c = begun (seen c.args.host.now) c.args.regs (world_in c.args.core c.args.arrays.now) c.args.n none_noted c.requires

pub returns-then-not-can : goal.returns-then-not-can
returns-then-not-can c =
    let t = rw (back64 c.loop-done.now.side.bus.clock (search rules)) at c.can_tick-can.ensures in
    rw none_noted (no_more (seen c.args.host.now) c.args.regs (world_in c.args.core c.args.arrays.now) c.args.n c.loop-done.invariant c.loop-done-test.true (sym t ∙ c.if-not-can.true))

pub fitting-most-requires-clause-clock : goal.fitting-most-requires-clause-clock
fitting-most-requires-clause-clock c =
    let back = back64 c.loop-done.now.side.bus.clock (search rules) in
    rw back (ready c.loop-done.invariant.held (sym (rw back at c.can_tick-can.ensures) ∙ c.if-not-can.false)).clock

pub loop-done-preserved : goal.loop-done-preserved
loop-done-preserved c = carried c.loop-done.invariant c.stage-gone.ensures c.fitting-most.ensures.some c.fitting-most.ensures.within c.loop-done-test.true
