use Rattle.schedule.proofs.Parts.{slotless, lit}
use Rattle.side.proofs.Parts.{border_left}
use Rattle.schedule.specs.Kind.{kind_of}
use Rattle.side.proofs.border_left.Goals as goal

pub returns : goal.returns
returns c =
    rw (c.border_remember.ensures, c.border_left38-narrow.ensures, c.border_left40-wide.ensures)
    (border_left (kind_of c.args.kind) c.args.cycle c.args.raster c.args.g.den c.args.g.csel c.args.b (lit c.args.cycle c.requires) (slotless (kind_of c.args.kind) c.args.cycle c.requires))
