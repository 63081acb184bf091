use mathlib.Core.Path.{sym, ◌∙◌}
use Rattle.schedule.proofs.Parts.{slotless, lit, lit_small, past}
use Rattle.side.proofs.Parts.{border_past}
use Rattle.schedule.specs.Kind.{kind_of}
use Rattle.side.proofs.border_lit.Goals as goal

pub returns-then-past : goal.returns-then-past
returns-then-past c =
    border_past (kind_of c.args.kind) c.args.cycle c.args.raster c.args.g.den c.args.g.csel c.args.b (lit c.args.cycle c.requires) (slotless (kind_of c.args.kind) c.args.cycle c.requires)
    (past c.args.cycle (lit_small c.args.cycle c.requires) (sym c.past.ensures ∙ c.if-past.true))
