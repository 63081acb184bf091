use Rattle.schedule.specs.Kind.{kind_of}
use Rattle.raster.proofs.Glue.{sweep_glue}
use Rattle.raster.proofs.sweep.Goals as goal

pub returns : goal.returns
returns c =
    sweep_glue (kind_of c.args.kind) c.args.frame c.args.irq c.args.cycle c.args.raster c.args.compare c.args.den c.args.latch
    c.line_begins-begins.ensures
    c.at_last_line.ensures
    c.raster_begun-line.ensures
    c.begin-begun.ensures
    c.frame_ends.ensures
    c.pick-shown.ensures
    c.latched-latched.ensures
    c.end.ensures
    c.match_raises-equal.ensures
    c.raise.ensures
