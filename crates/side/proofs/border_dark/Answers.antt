use mathlib.Core.Path.{sym, ◌∙◌}
use Rattle.schedule.proofs.Parts.{dark, between}
use Rattle.side.proofs.Parts.{border_between}
use Rattle.schedule.specs.Kind.{kind_of}
use Rattle.side.proofs.border_dark.Goals as goal

pub returns-then-between : goal.returns-then-between
returns-then-between c =
    border_between (kind_of c.args.kind) c.args.cycle c.args.raster c.args.g.den c.args.g.csel c.args.b
    (dark c.args.cycle c.requires.small c.requires.dark)
    (between (kind_of c.args.kind) c.args.cycle c.requires.small (sym c.between.ensures ∙ c.if-between.true))
