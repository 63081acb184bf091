use native.Mathlib.Omega.{arith}
use Rattle.memory.specs.Lent.{seen}
use Rattle.schedule.specs.Kind.{kind_of}
use Rattle.engine.specs.World.{world_in}
use Rattle.engine.proofs.Glue.{clocks_of, line_glue}
use Rattle.engine.proofs.line.Goals as goal

pub show-pen-requires : goal.show-pen-requires
show-pen-requires c = record {
  vcbase = omega (arith, c.requires.side.rows.vcbase);
  clocks = clocks_of c.args.core.side.bus.clock (kind_of c.args.core.side.beam.kind) c.args.core.pen.forced c.requires.clock c.requires.forced;
}

pub returns : goal.returns
returns c =
    line_glue (seen c.args.host.now) c.args.regs (world_in c.args.core c.args.arrays.now)
    c.timed-g.ensures c.turn-turned.ensures.turned c.turn-turned.ensures.masks c.fetch.ensures c.show-pen.ensures.pen c.show-pen.ensures.matrix
