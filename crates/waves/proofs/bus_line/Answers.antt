use Rattle.laws.proofs.Signs.{back8, back64}
use Rattle.schedule.specs.Kind.{kind_of}
use Rattle.waves.proofs.Glue.{glue}
use borrow.Author.Rules.{rules}
use Rattle.waves.proofs.bus_line.Goals as goal

pub returns : goal.returns
returns c =
    let clock = back64 c.args.bus.clock (search rules) in
    rw (back64 c.clock_on-clock.result c.clock_on-clock.type_inv, back64 c.fall_of-fall.result c.fall_of-fall.type_inv, back64 c.rise_of-rise.result c.rise_of-rise.type_inv, back8 c.count_of.result c.count_of.type_inv)
    (glue (kind_of c.args.kind) c.args.bad c.args.before c.args.after c.args.bus
    c.early-first.ensures
    c.late-last.ensures
    (rw (back8 c.args.bus.aec (search rules)) at c.low_early.ensures)
    c.low_late.ensures
    c.held_of-held.ensures
    c.held_late-kept.ensures
    c.without.ensures
    c.without-2.ensures
    (simp (clock, back64 c.args.bus.fall (search rules)) at c.fall_of-fall.ensures)
    c.without-3.ensures
    c.without-4.ensures
    (simp (clock, back64 c.args.bus.rise (search rules)) at c.rise_of-rise.ensures)
    c.run_after-run.ensures
    c.count_of.ensures
    c.lost_of-lost.ensures
    (simp (clock, c.last_cycle.ensures) at c.clock_on-clock.ensures))
