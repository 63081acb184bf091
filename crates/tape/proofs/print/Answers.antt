use native.Mathlib.Omega.{arith}
use borrow.Author.Rules.{rules}
use Rattle.vcd.proofs.Short.{declarations_292}
use Rattle.tape.proofs.Blocks.{begins, begun_at, room_fits, stepped, step_less, run_is, store_is, ends}
use Rattle.tape.proofs.print.Goals as goal

pub declare-start-requires : goal.declare-start-requires
declare-start-requires c = omega (arith, c.requires)

pub loop-tape-init : goal.loop-tape-init
loop-tape-init c =
    (begins _ _ _ _ _ _ _ c.declare-start.ensures.0 (record { place = omega (arith, c.declare-start.ensures.0, declarations_292); text = c.declare-start.ensures.1 }) (omega (arith, c.requires)) c.begun-tape.ensures, omega (arith, begun_at _ _ _ c.begun-tape.ensures, c.declare-start.ensures.0, c.requires), search rules, search rules, search rules, search rules)

pub with_room-roomy-requires : goal.with_room-roomy-requires
with_room-roomy-requires c = c.loop-tape.invariant.1

pub turn-tape-requires : goal.turn-tape-requires
turn-tape-requires c = omega (arith, room_fits _ _ c.with_room-roomy.ensures, c.loop-tape.invariant.5, c.requires)

pub loop-tape-smaller : goal.loop-tape-smaller
loop-tape-smaller c =
    step_less _ _ c.with_room-roomy.ensures _ _ _ _ _ c.loop-tape.invariant.0 c.loop-tape-test.true _ _ _ _ c.next-found.ensures c.turn-tape.ensures.value c.turn-tape.ensures.written c.turn-tape.ensures.colour_after (omega (arith, c.turn-tape.ensures.at_bound, room_fits _ _ c.with_room-roomy.ensures, c.loop-tape.invariant.5, c.requires))

pub loop-tape-preserved : goal.loop-tape-preserved
loop-tape-preserved c =
    let fits = room_fits _ _ c.with_room-roomy.ensures in
    (stepped _ _ c.with_room-roomy.ensures _ _ _ _ _ c.loop-tape.invariant.0 c.loop-tape-test.true _ _ _ _ c.next-found.ensures c.turn-tape.ensures.value c.turn-tape.ensures.written c.turn-tape.ensures.colour_after (omega (arith, c.turn-tape.ensures.at_bound, fits, c.loop-tape.invariant.5, c.requires)), omega (arith, c.turn-tape.ensures.at_bound, fits, c.loop-tape.invariant.5, c.requires), omega (arith, c.loop-tape.invariant.2), omega (arith, c.loop-tape.invariant.3), omega (arith, c.loop-tape.invariant.4), omega (arith, c.loop-tape.invariant.5))

pub flush-requires : goal.flush-requires
flush-requires c = c.loop-tape.invariant.1

pub shape_of-out : goal.shape_of-out
shape_of-out c = omega (arith, c.loop-tape.invariant.5)

pub returns : goal.returns
returns c = record {
  run_value = run_is _ _ _ _ _ _ c.loop-tape.invariant.0 c.loop-tape-test.false;
  colour_after = store_is _ _ _ _ _ _ c.loop-tape.invariant.0 c.loop-tape-test.false;
  ends = ends _ _ _ _ _ _ c.loop-tape.invariant.0 c.loop-tape-test.false;
}
