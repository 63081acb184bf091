use Rattle.laws.proofs.Signs.{back64}
use Rattle.memory.specs.Lent.{seen}
use Rattle.engine.proofs.Glue.{range_small, picked_small, show_glue}
use Rattle.engine.proofs.show.Goals as goal

pub columns-latch-requires : goal.columns-latch-requires
columns-latch-requires c = record {
  base = rw c.pick-base.ensures (picked_small c.args.turned.begun.wraps c.args.core.side.rows.vcbase c.requires.vcbase);
  clocks = rw (back64 c.args.core.side.bus.clock (range_small c.args.core.side.bus.clock c.requires.clocks.before), back64 c.args.core.pen.forced (range_small c.args.core.pen.forced c.requires.clocks.late)) c.requires.clocks;
}

pub returns : goal.returns
returns c =
    let clock = back64 c.args.core.side.bus.clock (range_small c.args.core.side.bus.clock c.requires.clocks.before) in
    let forced = back64 c.args.core.pen.forced (range_small c.args.core.pen.forced c.requires.clocks.late) in
    let all = show_glue (seen c.args.host.now) c.args.regs c.args.core.side.rows c.args.turned.begun c.args.turned.framed c.args.core.side.bus.clock c.args.core.pen c.args.matrix.now
    c.pick-base.ensures
    c.pick-rc.ensures
    c.mode-mode.ensures
    c.pick-old.ensures
    (rw (clock, forced) at c.columns-latch.ensures) in
    record { pen = rw forced all.0; matrix = all.1 }
