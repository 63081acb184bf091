use mathlib.Core.Path.{sym}
use native.Mathlib.Omega.{arith}
use Rattle.schedule.specs.Kind.{kind_of}
use Rattle.schedule.proofs.Parts.{lit, slotless}
use Rattle.timing.proofs.Kept.{before_most, lit_next}
use Rattle.arbitration.proofs.Kept.{arbitrated_lost, clocked_lost}
use Rattle.side.proofs.Parts.{lit_glue, lit_now}
use Rattle.side.proofs.turn_lit.Goals as goal

pub overflow_add-cycle : goal.overflow_add-cycle
overflow_add-cycle c =
    omega (arith, before_most c.args.side.beam.cycle c.requires.before)

pub border_lit-border-requires : goal.border_lit-border-requires
border_lit-border-requires c =
    let k = kind_of c.args.side.beam.kind in
    lit_now k c.args.side.beam.cycle (sym (lit_next k c.args.side.beam.cycle c.requires.before)) c.requires.before

pub sprites_lit-sprites-requires : goal.sprites_lit-sprites-requires
sprites_lit-sprites-requires c =
    let k = kind_of c.args.side.beam.kind in
    lit_now k c.args.side.beam.cycle (sym (lit_next k c.args.side.beam.cycle c.requires.before)) c.requires.before

pub asked_lit-asked-requires : goal.asked_lit-asked-requires
asked_lit-asked-requires c =
    let k = kind_of c.args.side.beam.kind in
    lit_now k c.args.side.beam.cycle (sym (lit_next k c.args.side.beam.cycle c.requires.before)) c.requires.before

pub count-bus-requires : goal.count-bus-requires
count-bus-requires c =
    rw (c.arbitrate.ensures, arbitrated_lost, c.clocked.ensures, clocked_lost) c.requires.lost

pub turn_lit-rowed-requires : goal.turn_lit-rowed-requires
turn_lit-rowed-requires c =
    let k = kind_of c.args.side.beam.kind in
    lit_now k c.args.side.beam.cycle (sym (lit_next k c.args.side.beam.cycle c.requires.before)) c.requires.before

pub returns : goal.returns
returns c =
    let k = kind_of c.args.side.beam.kind in
    let next = sym (lit_next k c.args.side.beam.cycle c.requires.before) in
    let now = lit_now k c.args.side.beam.cycle next c.requires.before in
    rw c.ordered.ensures (lit_glue c.args.g c.args.side (lit _ now) (slotless k _ now)
    c.clocked.ensures
    next
    c.latched-latch.ensures
    c.border_lit-border.ensures
    c.sprites_lit-sprites.ensures
    c.turn-beam.ensures
    c.asked_lit-asked.ensures
    c.arbitrate.ensures
    c.count-bus.ensures
    c.at.ensures
    c.has_bit.ensures
    c.turn_lit-rowed.ensures
    c.next_pending-pending.ensures)
