use Rattle.schedule.specs.Kind.{kind_of}
use Rattle.engine.proofs.Counters.{masks_same}
use Rattle.engine.proofs.Glue.{count_glue}
use borrow.Author.Rules.{rules}
use Rattle.engine.proofs.count.Goals as goal

pub returns : goal.returns
returns c = record {
  counted = count_glue c.args.s c.args.kind c.args.raster c.args.g.my c.args.g.enable c.args.g.yexp c.stepped-bases.ensures.sound (search rules) (search rules)
      c.stepped-bases.ensures.bases c.settle-loaded.ensures c.increment-after.ensures;
  masks = masks_same c.args.s c.args.raster c.args.g.my c.args.g.enable c.args.g.yexp c.stepped-bases.ensures.sound (search rules) (search rules) (kind_of c.args.kind);
}
