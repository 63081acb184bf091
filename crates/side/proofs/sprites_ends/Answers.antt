use Rattle.schedule.proofs.Parts.{dark}
use Rattle.side.proofs.Parts.{sprites_ends}
use Rattle.schedule.specs.Kind.{kind_of}
use Rattle.side.proofs.sprites_ends.Goals as goal

pub returns : goal.returns
returns c =
    rw (c.sprites_load.ensures, c.sprites_second-second.ensures, c.sprites_first-first.ensures)
    (sprites_ends (kind_of c.args.kind) c.args.cycle c.args.raster c.args.g.my c.args.g.enable c.args.g.yexp c.args.s (dark c.args.cycle c.requires.small c.requires.dark))
