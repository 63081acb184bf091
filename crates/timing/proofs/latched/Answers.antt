use Rattle.timing.proofs.Kept.{latch_set}
use Rattle.timing.proofs.latched.Goals as goal

pub returns : goal.returns
returns c =
    latch_set c.args.begins c.args.line c.args.den c.args.latch
