use Rattle.rows.specs.Rows.{vc_after, vmli_after, rc_after}
use Rattle.lines.specs.Rows.{base_of, rc_of, shows_of, rows_line}
use Rattle.laws.proofs.Choice.{picks}
use Rattle.engine.proofs.Rows.{round40, round1}
use Rattle.engine.proofs.row.Goals as goal

pub returns : goal.returns
unfolding rows_line base_of rc_of shows_of vc_after vmli_after rc_after
returns c = simp (c.pick.ensures, c.pick-2.ensures, c.pick-3.ensures, c.pick-vc.ensures, c.pick-rc.ensures, c.pick-base.ensures, round40, round1, picks)
