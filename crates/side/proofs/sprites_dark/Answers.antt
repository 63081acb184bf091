use mathlib.Core.Path.{sym, ◌∙◌}
use Rattle.schedule.proofs.Places.{calm}
use Rattle.schedule.proofs.Parts.{dark}
use Rattle.side.proofs.Parts.{sprites_calm}
use Rattle.schedule.specs.Kind.{kind_of}
use Rattle.side.proofs.sprites_dark.Goals as goal

pub returns-then-calm : goal.returns-then-calm
returns-then-calm c =
    sprites_calm (kind_of c.args.kind) c.args.cycle c.args.raster c.args.g.my c.args.g.enable c.args.g.yexp c.args.s
    (dark c.args.cycle c.requires.rests.small c.requires.rests.dark)
    (calm (kind_of c.args.kind) c.requires.placed (sym c.calm.ensures ∙ c.if-calm.true))
