use Rattle.schedule.proofs.Parts.{dark}
use Rattle.side.proofs.Parts.{border_ends}
use Rattle.schedule.specs.Kind.{kind_of}
use Rattle.side.proofs.border_ends.Goals as goal

pub returns : goal.returns
returns c =
    rw (c.border_end.ensures, c.border_right40-late.ensures, c.border_right38-early.ensures, c.border_begin-begun.ensures)
    (border_ends (kind_of c.args.kind) c.args.cycle c.args.raster c.args.g.den c.args.g.csel c.args.b (dark c.args.cycle c.requires.small c.requires.dark))
