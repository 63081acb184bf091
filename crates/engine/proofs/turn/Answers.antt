use Rattle.engine.proofs.Glue.{turn_glue, masks_glue}
use Rattle.engine.proofs.turn.Goals as goal

pub returns : goal.returns
returns c = record {
  turned = turn_glue c.args.g c.args.side
      c.begin-begun.ensures
      c.interrupt-irq.ensures
      c.frame-framed.ensures
      c.count-counted.ensures.counted
      c.bus_line-bus.ensures
      c.row-rows.ensures
      c.refreshed-refresh.ensures
      c.requires.cycle
      c.count-counted.ensures.masks;
  masks = masks_glue c.args.g c.args.side c.begin-begun.ensures c.count-counted.ensures.masks;
}
