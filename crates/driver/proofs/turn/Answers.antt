use mathlib.Core.Path.{refl}
use Rattle.driver.specs.Driver.{store, made_at, store_at}
use Rattle.driver.proofs.Glue.{same_run, turned_by}
use Rattle.driver.proofs.turn.Goals as goal

pub returns-in-Changes : goal.returns-in-Changes
unfolding made_at store_at
returns-in-Changes c =
    turned_by (store c.args.ram.now c.args.rom.now c.args.colour.now) _ c.args.before _ _ _ _ c.moved-run.ensures c.in-Changes.is c.with_event.ensures refl

pub returns-in-Change : goal.returns-in-Change
unfolding made_at store_at
returns-in-Change c =
    turned_by (store c.args.ram.now c.args.rom.now c.args.colour.now) _ c.args.before _ _ _ _ c.moved-run.ensures c.in-Change.is c.with_event-in-Change.ensures c.change.ensures

pub returns-in-Steps : goal.returns-in-Steps
unfolding made_at store_at
returns-in-Steps c =
    turned_by (store c.args.ram.now c.args.rom.now c.args.colour.now) _ c.args.before _ _ _ _ c.moved-run.ensures c.in-Steps.is (same_run _ _ _ _ c.with_event-in-Steps.ensures c.set_going.ensures) refl

pub returns-in-Do : goal.returns-in-Do
unfolding made_at store_at
returns-in-Do c =
    turned_by (store c.args.ram.now c.args.rom.now c.args.colour.now) _ c.args.before _ _ _ _ c.moved-run.ensures c.in-Do.is c.act.ensures refl

pub returns-in-Done : goal.returns-in-Done
unfolding made_at store_at
returns-in-Done c =
    turned_by (store c.args.ram.now c.args.rom.now c.args.colour.now) _ c.args.before _ _ _ _ c.moved-run.ensures c.in-Done.is (same_run _ _ _ _ c.with_event-in-Done.ensures c.set_going-in-Done.ensures) refl

pub returns-in-Refused : goal.returns-in-Refused
unfolding made_at store_at
returns-in-Refused c =
    turned_by (store c.args.ram.now c.args.rom.now c.args.colour.now) _ c.args.before _ _ _ _ c.moved-run.ensures c.in-Refused.is (same_run _ _ _ _ c.with_event-in-Refused.ensures c.set_going-in-Refused.ensures) refl
