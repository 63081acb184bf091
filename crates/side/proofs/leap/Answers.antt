use Rattle.side.proofs.Counts.{leap_glue}
use Rattle.side.proofs.leap.Goals as goal

pub returns : goal.returns
returns c =
    leap_glue c.args.side c.args.k c.wide.ensures c.clocked-side.ensures c.later-side.ensures
