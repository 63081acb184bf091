use native.Mathlib.Omega.{arith}
use borrow.Author.Rules.{rules}
use Rattle.sheet.proofs.Ends.{nothing_yet, one_block, all_ended, all_printed}
use Rattle.sheet.proofs.print.Goals as goal

pub loop-run-init : goal.loop-run-init
loop-run-init c = (nothing_yet _ _ _ _ _ c.begun-run.ensures, search rules, search rules, search rules, search rules)

pub fill-run-requires : goal.fill-run-requires
fill-run-requires c = omega (arith, c.loop-run.invariant.4, c.requires)

pub flush-requires : goal.flush-requires
flush-requires c = omega (arith, c.fill-run.ensures.at_bound, c.loop-run.invariant.4, c.requires)

pub loop-run-smaller : goal.loop-run-smaller
loop-run-smaller c = c.fill-run.ensures.result_bound c.loop-run-test.true

pub loop-run-preserved : goal.loop-run-preserved
loop-run-preserved c =
    (one_block _ _ _ _ _ _ _ _ _ c.loop-run.invariant.0 c.loop-run-test.true c.fill-run.ensures.filled (omega (arith, c.fill-run.ensures.at_bound, c.loop-run.invariant.4, c.requires)), search rules, search rules, search rules, search rules)

pub returns : goal.returns
returns c = record {
  going_value = c.loop-run-test.false;
  colour_after = all_ended _ _ _ _ _ _ _ c.loop-run.invariant.0 c.begun-run.ensures c.loop-run-test.false;
  ends = all_printed _ _ _ _ _ _ _ c.loop-run.invariant.0 c.begun-run.ensures c.loop-run-test.false;
}
