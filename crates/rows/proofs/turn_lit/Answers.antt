use Rattle.schedule.proofs.Parts.{lit}
use Rattle.rows.proofs.Parts.{rows_lit}
use Rattle.rows.proofs.turn_lit.Goals as goal

pub returns : goal.returns
returns c =
    rows_lit c.args.cycle c.args.bad c.args.rising c.args.rows
    (lit c.args.cycle c.requires) c.requires
    c.access_ends-over.ensures c.vc_after.ensures c.vmli_after.ensures
