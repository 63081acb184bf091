use Rattle.driver.specs.Driver.{store}
use Rattle.driver.proofs.Glue.{done_by, refused_by}
use Rattle.driver.proofs.act.Goals as goal

pub returns-then-did-eq0 : goal.returns-then-did-eq0
returns-then-did-eq0 c =
    done_by (store c.args.ram.now c.args.rom.now c.args.colour.now) c.args.run c.args.step _ c.step-did.ensures _ _ _ c.if-did-eq0.true c.with_reads.ensures c.counted.ensures c.event_of.ensures

pub returns : goal.returns
returns c =
    refused_by (store c.args.ram.now c.args.rom.now c.args.colour.now) c.args.run c.args.step _ c.step-did.ensures _ _ c.if-did-eq0.false c.with_event.ensures c.set_going.ensures
