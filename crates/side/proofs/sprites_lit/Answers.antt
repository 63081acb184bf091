use Rattle.schedule.proofs.Parts.{slotless}
use Rattle.side.proofs.Parts.{sprites_lit}
use Rattle.schedule.specs.Kind.{kind_of}
use Rattle.side.proofs.sprites_lit.Goals as goal

pub returns : goal.returns
returns c =
    rw (c.sprites_first.ensures, c.sprites_step-stepped.ensures)
    (sprites_lit (kind_of c.args.kind) c.args.cycle c.args.raster c.args.g.my c.args.g.enable c.args.g.yexp c.args.s (slotless (kind_of c.args.kind) c.args.cycle c.requires))
