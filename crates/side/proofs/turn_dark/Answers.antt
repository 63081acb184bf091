use mathlib.Core.Path.{ap, ◌∙◌}
use Rattle.schedule.specs.Kind.{kind_of}
use Rattle.schedule.proofs.Places.{mask_at_lem, pointing_at_lem, fetching_at_lem, sprite_at_lem, sprite_small}
use Rattle.timing.proofs.Kept.{cycle_small}
use Rattle.raster.specs.declared.SweptWith.{SweptWith}
use Rattle.raster.proofs.Laws.{refresh_found}
use Rattle.arbitration.proofs.Kept.{arbitrated_lost, clocked_lost}
use Rattle.side.proofs.Glue.{turn_glue}
use Rattle.side.proofs.Parts.{placed, lit_now}
use Rattle.side.proofs.turn_dark.Goals as goal

pub turn-sweep-requires : goal.turn-sweep-requires
turn-sweep-requires c = rw c.next_cycle-cycle.ensures (cycle_small _ _)

pub border_dark-border-requires : goal.border_dark-border-requires
border_dark-border-requires c =
    let k = kind_of c.args.side.beam.kind in record {
      small = rw c.next_cycle-cycle.ensures (cycle_small k c.args.side.beam.cycle);
      dark = lit_now k c.args.side.beam.cycle c.next_cycle-cycle.ensures c.requires.before;
    }

pub sprites_dark-phased-requires : goal.sprites_dark-phased-requires
sprites_dark-phased-requires c =
    let k = kind_of c.args.side.beam.kind in record {
      placed = placed k c.args.side.beam.cycle c.next_cycle-cycle.ensures c.place-place.ensures;
      rests = record {
        small = rw c.next_cycle-cycle.ensures (cycle_small k c.args.side.beam.cycle);
        dark = lit_now k c.args.side.beam.cycle c.next_cycle-cycle.ensures c.requires.before;
      };
    }

pub count-bus-requires : goal.count-bus-requires
count-bus-requires c =
    rw (c.arbitrate.ensures, arbitrated_lost, c.clocked.ensures, clocked_lost) c.requires.lost

pub at-requires : goal.at-requires
at-requires c = rw c.sprite_at-k.ensures (sprite_small _)

pub has_bit-requires : goal.has_bit-requires
has_bit-requires c = rw c.sprite_at-k.ensures (sprite_small _)

pub sprites_slot-sprites-requires : goal.sprites_slot-sprites-requires
sprites_slot-sprites-requires c = rw c.sprite_at-k.ensures (sprite_small _)

pub turn_dark-rowed-requires : goal.turn_dark-rowed-requires
turn_dark-rowed-requires c = rw c.next_cycle-cycle.ensures (cycle_small _ _)

pub returns : goal.returns
returns c =
    let k = kind_of c.args.side.beam.kind in
    let on = placed k c.args.side.beam.cycle c.next_cycle-cycle.ensures c.place-place.ensures in
    rw c.ordered.ensures (turn_glue c.args.g c.args.side
    c.clocked.ensures
    c.next_cycle-cycle.ensures
    (ap (λ (x : SweptWith). x.swept) c.turn-sweep.ensures)
    c.border_dark-border.ensures
    c.sprites_dark-phased.ensures
    c.turn-beam.ensures
    (c.asking.ensures ∙ mask_at_lem k on)
    c.request-asked.ensures
    c.arbitrate.ensures
    c.line_begins-begins.ensures
    c.count-bus.ensures
    (c.sprite_at-k.ensures ∙ sprite_at_lem k on)
    (c.pointing-pointing.ensures ∙ pointing_at_lem k on)
    (c.fetching-fetching.ensures ∙ fetching_at_lem k on)
    c.at.ensures
    c.has_bit.ensures
    c.sprites_slot-sprites.ensures
    c.slot_after_bus-after.ensures
    c.pick-low.ensures
    c.turn_dark-rowed.ensures
    c.next_pending-pending.ensures
    (refresh_found c.args.side.refresh c.turn-sweep.ensures)
    c.refresh_after-refresh.ensures)
