-- 02 (vi): a bad line forced by a write of $D011 rises at the next tick's live test, by the new YSCROLL and DEN. Assumes nothing.
use Prim.Native.Nat.{ℕ}
use mathlib.Core.Path.{◌≡◌, refl, ap, ◌∙◌}
use mathlib.Core.Bool.{Bool, true, false, not, ◌&&◌}
use Rattle.memory.specs.Lent.{Host, lent_refusal}
use Rattle.schedule.specs.Kind.{kind_of}
use Rattle.schedule.specs.Diagram.{happens, line_begins}
use Rattle.registers.specs.Control.{DEN, YSCROLL, timed}
use Rattle.timing.specs.Beam.{bad_line, latched, next_cycle}
use Rattle.raster.proofs.Laws.{line_inside, latch_inside}
use Rattle.side.specs.declared.Side.{Side}
use Rattle.side.specs.Turn.{turned}
use Rattle.side.proofs.Kept.{side_bad, side_rising}
use Rattle.script.specs.declared.Step.TheVariants as step
use Rattle.chip.specs.declared.Chip.{Chip}
use Rattle.chip.specs.declared.Answer.{Answer}
use Rattle.chip.specs.Accept.{accepted}
use Rattle.sequencer.specs.Tick.{tickable}
use Rattle.world.proofs.Sides.{tick_side}
use Rattle.sequencer.proofs.Sides.{tick_taken}
use Rattle.calls.specs.Calls.{control_stored, control1_written}
use Rattle.calls.proofs.Kept.{control_1_kept}
use Rattle.run.specs.Run.{done_of}

-- a state that a tick takes, in a cycle that is not the last of its line; then kind 8 and a tick
module _ (h : Host) (c : Chip) (v : ℕ) (l : lent_refusal h ≡ 0) (e : accepted c ≡ true) (t : tickable c.side.bus.clock ≡ true)
    (b : happens line_begins (next_cycle (kind_of c.side.beam.kind) c.side.beam.cycle) ≡ false) where
  abbrev written : Chip
  written = (done_of h c (step.Control1 v)).chip

  abbrev next : Chip
  next = (done_of h written step.Tick).chip

  -- the bad line of the new value, on this line
  abbrev forced : Bool
  forced = bad_line c.side.beam.raster (YSCROLL v) (latched false c.side.beam.raster (DEN v) c.side.beam.latch)

  -- the write moves none of it
  pub not_yet : written.side.beam ≡ c.side.beam
  unfolding done_of control1_written control_stored
  not_yet = refl

  -- the tick goes by the registers as they are written
  next_side : next.side ≡ (turned (timed written.regs) written.side).side
  unfolding done_of control1_written control_stored
  next_side = ap (λ (a : Answer). a.chip.side) (tick_taken h (control1_written c v) l (control_1_kept c v e) t) ∙ tick_side h (control1_written c v)

  pub next_bad : next.side.beam.bad ≡ forced
  unfolding done_of control1_written control_stored timed
  next_bad =
      ap (λ (s : Side). s.beam.bad) next_side
      ∙ side_bad (timed written.regs) written.side
      ∙ rw (line_inside _ _ _ _ _ _ _ _ b, latch_inside _ _ _ _ _ _ _ _ b)

  pub next_rises : next.side.beam.rising ≡ (forced && not c.side.beam.bad)
  unfolding done_of control1_written control_stored timed
  next_rises =
      ap (λ (s : Side). s.beam.rising) next_side
      ∙ side_rising (timed written.regs) written.side
      ∙ rw (line_inside _ _ _ _ _ _ _ _ b, latch_inside _ _ _ _ _ _ _ _ b)
