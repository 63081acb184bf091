use native.Mathlib.Omega.{arith}
use Rattle.line.proofs.Join.{on, named_as}
use Rattle.ledger.proofs.Words.{line_is}
use Rattle.ledger.proofs.line.Goals as goal

pub returns : goal.returns
returns c =
    let is = line_is c.args.cycle c.args.raster c.args.lost c.args.reads c.is_named-one.ensures c.is_named-two.ensures c.end-any.ensures c.end-another.ensures in
    (omega (arith, c.put-a.ensures.0, c.put-b.ensures.0, c.put-c.ensures.0, c.read-d.ensures.0, c.read.ensures.0), named_as is (on c.put-a.ensures.1 (on c.put-b.ensures.1 (on c.put-c.ensures.1 (on c.read-d.ensures.1 c.read.ensures.1)))))
