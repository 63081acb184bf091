use native.Mathlib.Omega.{arith}
use borrow.Author.Rules.{rules}
use Rattle.clerk.proofs.Blocks.{begins, begun_at, room_fits, stepped, step_less, run_is, store_is, ends}
use Rattle.clerk.proofs.print.Goals as goal

pub loop-page-init : goal.loop-page-init
loop-page-init c = (begins _ _ _ _ _ c.begun-page.ensures, omega (arith, begun_at _ _ c.begun-page.ensures), search rules, search rules, search rules, search rules)

pub with_room-roomy-requires : goal.with_room-roomy-requires
with_room-roomy-requires c = c.loop-page.invariant.1

pub turn-page-requires : goal.turn-page-requires
turn-page-requires c = omega (arith, room_fits _ _ c.with_room-roomy.ensures, c.loop-page.invariant.5, c.requires)

pub loop-page-smaller : goal.loop-page-smaller
loop-page-smaller c =
    let fits = room_fits _ _ c.with_room-roomy.ensures in
    step_less _ _ c.with_room-roomy.ensures _ _ _ _ _ c.loop-page.invariant.0 c.loop-page-test.true _ _ _ _ c.next-found.ensures c.turn-page.ensures.value c.turn-page.ensures.written c.turn-page.ensures.colour_after (omega (arith, c.turn-page.ensures.at_bound, fits, c.loop-page.invariant.5, c.requires))

pub loop-page-preserved : goal.loop-page-preserved
loop-page-preserved c =
    let fits = room_fits _ _ c.with_room-roomy.ensures in
    (stepped _ _ c.with_room-roomy.ensures _ _ _ _ _ c.loop-page.invariant.0 c.loop-page-test.true _ _ _ _ c.next-found.ensures c.turn-page.ensures.value c.turn-page.ensures.written c.turn-page.ensures.colour_after (omega (arith, c.turn-page.ensures.at_bound, fits, c.loop-page.invariant.5, c.requires)), omega (arith, c.turn-page.ensures.at_bound, fits, c.loop-page.invariant.5, c.requires), omega (arith, c.loop-page.invariant.2), omega (arith, c.loop-page.invariant.3), omega (arith, c.loop-page.invariant.4), omega (arith, c.loop-page.invariant.5))

pub flush-requires : goal.flush-requires
flush-requires c = c.loop-page.invariant.1

pub returns : goal.returns
returns c = record {
  run_value = run_is _ _ _ _ _ _ c.loop-page.invariant.0 c.loop-page-test.false;
  colour_after = store_is _ _ _ _ _ _ c.loop-page.invariant.0 c.loop-page-test.false;
  ends = ends _ _ _ _ _ _ c.loop-page.invariant.0 c.loop-page-test.false;
}
