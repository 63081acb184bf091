use mathlib.Core.Path.{◌∙◌}
use Rattle.schedule.specs.Kind.{kind_of}
use Rattle.schedule.proofs.Places.{asks_none_first, asks_none_past, mask_at_lem}
use Rattle.schedule.proofs.mask.Goals as goal

pub returns-then-cycle-lt1 : goal.returns-then-cycle-lt1
returns-then-cycle-lt1 c = asks_none_first (kind_of c.args.kind) c.args.cycle c.if-cycle-lt1.true

pub returns-then-last_cycle-cycle : goal.returns-then-last_cycle-cycle
returns-then-last_cycle-cycle c =
    asks_none_past (kind_of c.args.kind) c.args.cycle (rw c.last_cycle.ensures at c.if-last_cycle-cycle.true)

pub returns : goal.returns
returns c =
    c.asking.ensures
    ∙ mask_at_lem (kind_of c.args.kind)
    (record { low = c.if-cycle-lt1.false; high = rw c.last_cycle.ensures at c.if-last_cycle-cycle.false; place = c.place.ensures })
