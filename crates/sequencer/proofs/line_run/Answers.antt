use mathlib.Core.Path.{sym, ◌∙◌}
use borrow.Author.Rules.{rules}
use Rattle.laws.proofs.Signs.{back64}
use Rattle.memory.specs.Lent.{seen}
use Rattle.access.proofs.Back.{none_noted}
use Rattle.engine.specs.World.{world_in}
use Rattle.sequencer.proofs.Whole.{begins}
use Rattle.sequencer.proofs.Lined.{lining, line_on, no_more_lines, lines_done}
use Rattle.sequencer.proofs.line_run.Goals as goal

pub loop-done-init : goal.loop-done-init
loop-done-init c = lining (seen c.args.host.now) c.args.regs (world_in c.args.core c.args.arrays.now) c.args.n c.requires.held c.requires.at

pub returns-then-not-can : goal.returns-then-not-can
returns-then-not-can c =
    let t = rw (back64 c.loop-done.now.side.bus.clock (search rules)) at c.can_line-can.ensures in
    rw none_noted (no_more_lines (seen c.args.host.now) c.args.regs (world_in c.args.core c.args.arrays.now) c.args.n c.loop-done.invariant c.loop-done-test.true (sym t ∙ c.if-not-can.true))

pub line-now-requires : goal.line-now-requires
line-now-requires c =
    let t = rw (back64 c.loop-done.now.side.bus.clock (search rules)) at c.can_line-can.ensures in
    begins c.loop-done.invariant.held c.loop-done.invariant.at (sym t ∙ c.if-not-can.false)

pub loop-done-preserved : goal.loop-done-preserved
loop-done-preserved c =
    let t = rw (back64 c.loop-done.now.side.bus.clock (search rules)) at c.can_line-can.ensures in
    line_on (seen c.args.host.now) c.args.regs (world_in c.args.core c.args.arrays.now) c.args.n c.loop-done.invariant c.loop-done-test.true (sym t ∙ c.if-not-can.false) c.line-now.ensures

pub returns : goal.returns
returns c = rw none_noted (lines_done (seen c.args.host.now) c.args.regs (world_in c.args.core c.args.arrays.now) c.args.n c.loop-done.invariant c.loop-done-test.false)
