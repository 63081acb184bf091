use mathlib.Core.Path.{ap}
use native.Mathlib.Omega.{arith}
use borrow.Author.Rules.{rules}
use Rattle.sheet.specs.declared.Run.{Run}
use Rattle.sheet.proofs.Loop.{at_first, some_more, at_last, less}
use Rattle.sheet.proofs.fill.Goals as goal

pub loop-run-init : goal.loop-run-init
loop-run-init c = (at_first _ _ _ _ (omega (arith, ap (λ (x : Run). x.at) c.at_place-run.ensures)), search rules, search rules, search rules, search rules)

pub on-run-requires : goal.on-run-requires
on-run-requires c =
    (omega (arith, c.loop-run.invariant.4, c.requires), c.loop-run-test.true)

pub loop-run-smaller : goal.loop-run-smaller
loop-run-smaller c = c.on-run.ensures.less

pub loop-run-preserved : goal.loop-run-preserved
loop-run-preserved c =
    (some_more _ _ _ _ _ _ _ c.loop-run.invariant.0 _ _ _ c.on-run.ensures, search rules, search rules, search rules, search rules)

pub returns : goal.returns
returns c = record {
  at_bound = c.loop-run.invariant.0.within;
  filled = at_last _ _ _ _ _ _ _ _ c.at_place-run.ensures c.loop-run.invariant.0 c.loop-run-test.false;
  result_bound = less _ _ _ _ _ _ _ _ c.at_place-run.ensures c.loop-run.invariant.0 c.loop-run-test.false;
}
