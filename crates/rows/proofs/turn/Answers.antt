use Rattle.rows.proofs.Glue.{rows_glue}
use Rattle.rows.proofs.turn.Goals as goal

pub returns : goal.returns
returns c =
    rows_glue c.args.cycle c.args.bad c.args.rising c.args.wraps c.args.rows
    c.vc_load-loads.ensures c.pick-vc.ensures c.pick-vmli.ensures c.pick-rc.ensures c.access_chosen-chosen.ensures c.access_ends-over.ensures c.access_after-access.ensures c.graphics_access-graphics.ensures c.character_access.ensures c.row_ends-ends.ensures c.display_after-shows.ensures c.pick-based.ensures c.pick-base.ensures c.vc_after-next_vc.ensures c.vmli_after-next_vmli.ensures c.rc_after-next_rc.ensures
