use Rattle.std.proofs.Common.{rules, of_calls, arith, refl}
use Rattle.sheet.proofs.Bundle.{one_printed}
use Rattle.sheet.proofs.of_bundle.Goals as goal

pub loop-number-preserved : goal.loop-number-preserved
loop-number-preserved g c = (
  search (rules, of_calls),
  one_printed g.F.FnMut 65535 c.loop-number.number c.args.print c.loop-number.print c.print.new.self _ c.loop-number.invariant.1 (omega (arith, c.loop-number.auto.number))
      (record { shown = _; shows = refl; desk = _; lent = record { within = search rules; fresh = c.new.ensures }; left = _; called = c.print.ensures }),
)
