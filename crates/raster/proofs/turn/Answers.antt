use mathlib.Core.Path.{sym, ap, ◌∙◌}
use Rattle.laws.specs.Pick.{pick}
use Rattle.schedule.specs.Kind.{kind_of}
use Rattle.schedule.proofs.Parts.{later}
use Rattle.raster.specs.declared.Swept.{Swept}
use Rattle.raster.specs.Refresh.{refresh_from}
use Rattle.raster.proofs.Laws.{swept_later}
use Rattle.raster.proofs.turn.Goals as goal

pub returns-then-later : goal.returns-then-later
unfolding pick
returns-then-later c =
    rw c.latched-latched.ensures
    (ap (λ (s : Swept). record { swept = s; refresh = refresh_from s.wraps c.args.refresh })
    (swept_later (kind_of c.args.kind) c.args.frame c.args.irq c.args.cycle c.args.raster c.args.compare c.args.den c.args.latch
    (later c.args.cycle c.requires (sym c.later-later.ensures ∙ c.if-later.true))))

pub returns : goal.returns
returns c = rw (c.pick.ensures, c.sweep-swept.ensures)
