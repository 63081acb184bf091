-- What a tick answers, and that two chips with level timing sides stay level. Assumes nothing.
use mathlib.Core.Path.{◌≡◌, refl, sym, ap, ◌∙◌}
use mathlib.Core.Bool.{Bool, true, false}
use Rattle.memory.specs.Lent.{Host, lent_refusal}
use Rattle.side.specs.declared.Side.{Side}
use Rattle.side.specs.Turn.{turned}
use Rattle.chip.specs.declared.Chip.{Chip}
use Rattle.registers.specs.Control.{timed}
use Rattle.access.specs.Reads.{told}
use Rattle.chip.specs.Chip.{answer, reading}
use Rattle.chip.specs.Accept.{accepted}
use Rattle.world.specs.World.{world_of}
use Rattle.world.specs.Tick.{tick_reads, tick_of}
use Rattle.world.proofs.Sides.{tick_side}
use Rattle.sequencer.specs.Tick.{tickable, tick_refusal, ticked}
use Rattle.schedule.specs.Kind.{known}
use Rattle.chip.proofs.Fine.{accepted_taken, unaccepted_3, unknown_12}
use Rattle.chip.proofs.Level.{Level, LevelAnswers}

-- a tick refused for its bank, and for its state
pub tick_bank : (h : Host) (c : Chip) → lent_refusal h ≡ 2 → ticked h c ≡ answer 2 c
unfolding ticked tick_refusal
tick_bank h c l = simp l

pub tick_unaccepted : (h : Host) (c : Chip) → lent_refusal h ≡ 0 → known c.side.beam.kind ≡ true → accepted c ≡ false → ticked h c ≡ answer 3 c
unfolding ticked tick_refusal
tick_unaccepted h c l k e = simp (l, unaccepted_3 c k e)

pub tick_unknown : (h : Host) (c : Chip) → lent_refusal h ≡ 0 → known c.side.beam.kind ≡ false → ticked h c ≡ answer 12 c
unfolding ticked tick_refusal
tick_unknown h c l k = simp (l, unknown_12 c k)

-- the tick, where its state is accepted and its memory legal: taken, or refused for its clock
pub tick_taken : (h : Host) (c : Chip) → lent_refusal h ≡ 0 → accepted c ≡ true → tickable c.side.bus.clock ≡ true → ticked h c ≡ reading (tick_of h c) (told (tick_reads h c.regs (world_of c)))
unfolding ticked tick_refusal
tick_taken h c l e t = simp (l, accepted_taken c e, t)

pub tick_late : (h : Host) (c : Chip) → lent_refusal h ≡ 0 → accepted c ≡ true → tickable c.side.bus.clock ≡ false → ticked h c ≡ answer 4 c
unfolding ticked tick_refusal
tick_late h c l e t = simp (l, accepted_taken c e, t)

module _ {a b : Chip} (e : Level a b) where
  pub tick_level : (h k : Host) → lent_refusal h ≡ 0 → lent_refusal k ≡ 0 → accepted a ≡ true → accepted b ≡ true → LevelAnswers (ticked h a) (ticked k b)
  tick_level h k l m f g = by_clock (tickable a.side.bus.clock) refl
    where
      step : (turned (timed a.regs) a.side).side ≡ (turned (timed b.regs) b.side).side
      step = cc

      clocks : tickable b.side.bus.clock ≡ tickable a.side.bus.clock
      clocks = ap (λ (s : Side). tickable s.bus.clock) (sym e.side)

      by_clock : (t : Bool) → tickable a.side.bus.clock ≡ t → LevelAnswers (ticked h a) (ticked k b)
      by_clock true t =
          rw (tick_taken h a l f t, tick_taken k b m g (clocks ∙ t))
          (record { refused = refl; chip = record { side = tick_side h a ∙ step ∙ sym (tick_side k b); registers = e.registers } })
      by_clock false t = rw (tick_late h a l f t, tick_late k b m g (clocks ∙ t)) (record { refused = refl; chip = e })
