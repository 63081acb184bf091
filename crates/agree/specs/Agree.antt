-- 02 (ix): the old sprites run beside the chip do what the chip's own do, wherever each flag is as the mask has it; so no run from power-up changes.
use Rattle.std.specs.Prelude.{ℕ, zero, suc, ◌≡◌, Bool, cond, List, [], ◌∷◌, eqb}
use Rattle.laws.specs.Bits.{has_bit}
use Rattle.memory.specs.Lent.{Host}
use Rattle.schedule.specs.Kind.{kind_of}
use Rattle.schedule.specs.Diagram.{slot_sprite, pointer_time, data_time}
use Rattle.registers.specs.declared.Controls.{Controls}
use Rattle.registers.specs.Control.{timed}
use Rattle.timing.specs.Beam.{next_cycle}
use Rattle.raster.specs.Frame.{swept}
use Rattle.sprites.specs.declared.Sprites.{Sprites}
use Rattle.sprites.specs.Sprites.{expand_written}
use Rattle.access.specs.Slots.{byte_one, byte_zero}
use Rattle.side.specs.declared.Side.{Side}
use Rattle.chip.specs.declared.Chip.{Chip}
use Rattle.chip.specs.declared.Answer.{Answer}
use Rattle.chip.specs.Chip.{powered}
use Rattle.sequencer.specs.Tick.{tick_refusal, ticks_from}
use Rattle.calls.specs.Calls.{is_expand}
use Rattle.artwork.specs.Runs.{Call, tick, ticks, write, expand, compares, control_1, control_2, place_controls, late, done, run}
use Rattle.agree.specs.Was.{Flagged, kept, fresh_was, phased_was, slot_moved_was, byte_one_was, byte_zero_was}

-- each flag as the mask has it
abbrev pub flagged : Sprites → Flagged
flagged s = record { sprites = s; flags = s.dma }

-- the old sprites at a tick of this side: the cycle, the line and the slot are the tick's
unfoldable pub turned_was : Controls → Side → Flagged → Flagged
turned_was g s x =
    let k = kind_of s.beam.kind in
    let cycle = next_cycle k s.beam.cycle in
    let raster = (swept k s.frame s.irq cycle s.beam.raster g.compare g.den s.beam.latch).raster in
    slot_moved_was (pointer_time k cycle) (data_time k cycle) (slot_sprite k cycle) (phased_was k cycle raster g.my g.enable g.yexp x)

unfoldable pub ticked_was : Host → Chip → Flagged → Flagged
ticked_was h c x = cond (eqb (tick_refusal h c) 0) (turned_was (timed c.regs) c.side x) x

unfoldable pub ticks_was : Host → ℕ → Chip → Flagged → Flagged
ticks_was h zero c x = x
ticks_was h (suc n) c x =
    let before = ticks_from h n c in
    cond (eqb before.refused 0) (ticked_was h before.chip (ticks_was h n c x)) (ticks_was h n c x)

abbrev pub expand_was : Chip → ℕ → Flagged → Flagged
expand_was c v x = kept (expand_written (kind_of c.side.beam.kind) v c.side.beam.cycle c.regs.yexp) x

-- the old sprites at a call on this chip: only ticks and Y-expand writes reach them
unfoldable pub done_was : Call → Chip → Flagged → Flagged
done_was (tick h) c x = ticked_was h c x
done_was (ticks h n) c x = ticks_was h n c x
done_was (write addr v) c x = cond (is_expand addr) (expand_was c v x) x
done_was (expand v) c x = expand_was c v x
done_was compares c x = x
done_was (control_1 v) c x = x
done_was (control_2 v) c x = x
done_was (place_controls ctrl1 ctrl2 line) c x = x
done_was (late byte) c x = x

-- after every call of a run
unfoldable pub beside : List Call → Chip → Flagged → List Flagged
beside [] c x = []
beside (call ∷ xs) c x = done_was call c x ∷ beside xs (done call c).chip (done_was call c x)

unfoldable pub as_the_mask : List Answer → List Flagged
as_the_mask [] = []
as_the_mask (r ∷ rs) = flagged r.chip.side.sprites ∷ as_the_mask rs

-- from any state whose flags are as the mask has them
abbrev pub WhereTheyAgree : Type 0
WhereTheyAgree = (xs : List Call) (c : Chip) → beside xs c (flagged c.side.sprites) ≡ as_the_mask (run xs c)

-- from power-up of any kind, whatever the calls are given
abbrev pub NoRunChanges : Type 0
NoRunChanges = (kind : ℕ) (xs : List Call) → beside xs (powered kind) fresh_was ≡ as_the_mask (run xs (powered kind))

-- and the bytes of a slot of sprite k
pub record NoByteChanges : Type 0 where
  pub one : (s : Sprites) (pointers : List ℕ) (k mc : ℕ) (low : Bool) (ram rom : List ℕ) (bank : ℕ)
      → byte_one_was pointers k (has_bit (flagged s).sprites.dma k) (has_bit (flagged s).flags k) mc low ram rom bank ≡ byte_one pointers k (has_bit s.dma k) mc ram rom bank
  pub zero' : (s : Sprites) (pointers : List ℕ) (k mc : ℕ) (low : Bool) (ram rom : List ℕ) (bank : ℕ)
      → byte_zero_was pointers k (has_bit (flagged s).sprites.dma k) (has_bit (flagged s).flags k) mc low ram rom bank ≡ byte_zero pointers k (has_bit s.dma k) mc low ram rom bank
