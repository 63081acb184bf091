use Prim.Native.Nat.{◌-◌}
use native.Mathlib.Omega.{arith}
use borrow.Author.Rules.{rules}
use Rattle.script.proofs.Blocks.{lent, begins}
use Rattle.sheet.proofs.Loop.{has_room, at_first, some_more, went}
use Rattle.sheet.proofs.Lent.{walks, walks_first, goes_here, may_read, one_step, step_within}
use Rattle.sheet.proofs.walk.Goals as goal

pub overflow_sub-rest : goal.overflow_sub-rest
overflow_sub-rest c = omega (arith, (lent c.args.start.cursor.left).most, c.block_steps.ensures)

pub loop-run-init : goal.loop-run-init
loop-run-init c =
    (at_first _ _ _ _ (omega (arith, has_room c.args.start c.requires.1)), (begins c.args.start.cursor c.requires.2).0, search rules, search rules, search rules, search rules)

pub in_block-found-requires : goal.in_block-found-requires
in_block-found-requires c =
    may_read c.args.input.now _ c.args.start.cursor.at c.args.start.cursor.left _ c.loop-run.run c.block-lent.ensures c.block_steps.ensures c.loop-run.invariant.1 c.loop-run-test.true _ (omega arith)

pub turn-run-requires : goal.turn-run-requires
turn-run-requires c =
    omega (arith, has_room c.loop-run.run (goes_here c.args.input.now _ c.args.start.cursor.at c.args.start.cursor.left _ c.loop-run.run c.block-lent.ensures c.block_steps.ensures c.loop-run.invariant.1 c.loop-run-test.true), c.loop-run.invariant.5, c.requires.0)

pub loop-run-smaller : goal.loop-run-smaller
loop-run-smaller c =
    (one_step c.args.input.now _ c.args.start.cursor.at c.args.start.cursor.left _ c.loop-run.run c.block-lent.ensures c.block_steps.ensures c.loop-run.invariant.1 c.loop-run-test.true _ _ _ _ _ _ c.in_block-found.ensures (c.turn-run.ensures.at_bound, (c.turn-run.ensures.value, (c.turn-run.ensures.written, c.turn-run.ensures.colour_after)))).less

pub loop-run-preserved : goal.loop-run-preserved
loop-run-preserved c =
    (some_more _ _ _ _ _ _ _ c.loop-run.invariant.0 _ _ _ (one_step c.args.input.now _ c.args.start.cursor.at c.args.start.cursor.left _ c.loop-run.run c.block-lent.ensures c.block_steps.ensures c.loop-run.invariant.1 c.loop-run-test.true _ _ _ _ _ _ c.in_block-found.ensures (c.turn-run.ensures.at_bound, (c.turn-run.ensures.value, (c.turn-run.ensures.written, c.turn-run.ensures.colour_after)))), step_within c.args.input.now _ c.args.start.cursor.at c.args.start.cursor.left _ c.loop-run.run c.block-lent.ensures c.block_steps.ensures c.loop-run.invariant.1 c.loop-run-test.true _ _ _ _ _ _ c.in_block-found.ensures (c.turn-run.ensures.at_bound, (c.turn-run.ensures.value, (c.turn-run.ensures.written, c.turn-run.ensures.colour_after))), omega (arith, c.loop-run.invariant.2), omega (arith, c.loop-run.invariant.3), omega (arith, c.loop-run.invariant.4), omega (arith, c.loop-run.invariant.5))

pub returns : goal.returns
returns c =
    went _ _ _ _ _ _ _ c.loop-run.invariant.0 (walks (c.args.start.cursor.left - c.block_steps.result)) (walks_first c.args.start _ c.block_steps.ensures c.requires.1 c.requires.2) c.loop-run-test.false
