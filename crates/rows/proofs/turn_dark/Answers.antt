use Rattle.std.proofs.Common.{not, sym, ◌∙◌}
use Rattle.laws.proofs.Choice.{left, right}
use Rattle.schedule.proofs.Parts.{still}
use Rattle.rows.proofs.Parts.{rows_still}
use Rattle.rows.proofs.turn_dark.Goals as goal

pub returns-then-wraps-still : goal.returns-then-wraps-still
returns-then-wraps-still c =
    rows_still c.args.cycle c.args.bad c.args.rising c.args.rows
    c.args.wraps (left (not c.args.wraps) _ c.if-wraps-still.true)
    (still c.args.cycle c.requires (sym c.still-still.ensures ∙ right (not c.args.wraps) _ c.if-wraps-still.true))
