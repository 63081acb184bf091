-- 02 (ix): no run from power-up changes with the flag's going. Assumes nothing.
use Prim.Native.Nat.{ℕ, zero, suc}
use mathlib.Core.Path.{◌≡◌, refl, ap, ◌∙◌}
use mathlib.Core.Bool.{Bool, true, false, not, ◌||◌, cond}
use mathlib.Core.List.{List, [], ◌∷◌}
use lib.Dec.{eqb, ltb}
use Rattle.laws.specs.Bits.{has_bit}
use Rattle.laws.proofs.Choice.{either}
use Rattle.memory.specs.Lent.{Host}
use Rattle.schedule.specs.Kind.{kind_of}
use Rattle.schedule.specs.Diagram.{slot_sprite, pointer_time, data_time}
use Rattle.registers.specs.declared.Controls.{Controls}
use Rattle.registers.specs.Control.{timed}
use Rattle.timing.specs.Beam.{next_cycle}
use Rattle.raster.specs.Frame.{swept}
use Rattle.sprites.specs.Sprites.{all_fresh}
use Rattle.std.specs.Prelude.{Option, None, Some}
use Rattle.access.specs.Slots.{or_open, byte_one, byte_zero}
use Rattle.side.specs.declared.Side.{Side}
use Rattle.side.specs.Phases.{phased}
use Rattle.side.specs.Turn.{fresh_side, turned}
use Rattle.chip.specs.declared.Chip.{Chip}
use Rattle.chip.specs.declared.Answer.{Answer}
use Rattle.chip.specs.Chip.{answer, powered}
use Rattle.chip.specs.Accept.{state_refusal}
use Rattle.world.specs.Tick.{tick_world}
use Rattle.sequencer.specs.Tick.{tick_refusal, ticked, ticks_from}
use Rattle.calls.specs.Calls.{is_expand, file_written, expand_at, register_written, compares_by, control_stored, control1_written, control2_written, controls_placed, late_at, late_taken}
use Rattle.artwork.specs.Runs.{Call, tick, ticks, write, expand, compares, control_1, control_2, place_controls, late, done, run}
use Rattle.agree.specs.Was.{Flagged, fresh_was, slot_moved_was, byte_one_was, byte_zero_was}
use Rattle.agree.specs.Agree.{flagged, turned_was, ticked_was, ticks_was, expand_was, done_was, beside, as_the_mask, WhereTheyAgree, NoRunChanges, NoByteChanges}
use Rattle.agree.proofs.Steps.{same_way, twice, expand_agrees, phased_agrees, slot_agrees}

-- ---- a tick

turned_agrees : (g : Controls) (s : Side) → turned_was g s (flagged s.sprites) ≡ flagged (turned g s).side.sprites
unfolding turned_was turned
turned_agrees g s =
    let k = kind_of s.beam.kind in
    let cycle = next_cycle k s.beam.cycle in
    let raster = (swept k s.frame s.irq cycle s.beam.raster g.compare g.den s.beam.latch).raster in
    ap (slot_moved_was (pointer_time k cycle) (data_time k cycle) (slot_sprite k cycle)) (phased_agrees k cycle raster g.my g.enable g.yexp s.sprites)
    ∙ slot_agrees (pointer_time k cycle) (data_time k cycle) (slot_sprite k cycle) (phased k cycle raster g.my g.enable g.yexp s.sprites)

-- ---- a call

abbrev held : Answer → Flagged
held r = flagged r.chip.side.sprites

abbrev own : Chip → Flagged
own c = flagged c.side.sprites

ticked_agrees : (h : Host) (c : Chip) → ticked_was h c (own c) ≡ held (ticked h c)
unfolding ticked_was ticked tick_world
ticked_agrees h c = same_way held (eqb (tick_refusal h c) 0) _ (answer (tick_refusal h c) c) (turned_agrees (timed c.regs) c.side) refl

ticks_agrees : (h : Host) (n : ℕ) (c : Chip) → ticks_was h n c (own c) ≡ held (ticks_from h n c)
unfolding ticks_was ticks_from
ticks_agrees h zero c = refl
ticks_agrees h (suc n) c =
    let before = ticks_from h n c in
    same_way held (eqb before.refused 0) (ticked h before.chip) before (ap (ticked_was h before.chip) (ticks_agrees h n c) ∙ ticked_agrees h before.chip) (ticks_agrees h n c)

late_stays : (c : Chip) (byte : ℕ) (p : Option ℕ) → own c ≡ own (late_at c byte p)
late_stays c byte None = refl
late_stays c byte (Some p) = refl

write_agrees : (c : Chip) (b : Bool) (addr v : ℕ) → cond b (expand_was c v (own c)) (own c) ≡ own (cond b (expand_at c v) (file_written c addr v))
unfolding expand_at file_written
write_agrees c true addr v = expand_agrees (kind_of c.side.beam.kind) v c.side.beam.cycle c.regs.yexp c.side.sprites
write_agrees c false addr v = refl

done_agrees : (x : Call) (c : Chip) → done_was x c (own c) ≡ held (done x c)
unfolding done_was done register_written expand_at compares_by control1_written control2_written control_stored controls_placed late_taken
done_agrees (tick h) c = ticked_agrees h c
done_agrees (ticks h n) c = ticks_agrees h n c
done_agrees (write addr v) c = write_agrees c (is_expand addr) addr v
done_agrees (expand v) c = expand_agrees (kind_of c.side.beam.kind) v c.side.beam.cycle c.regs.yexp c.side.sprites
done_agrees compares c = refl
done_agrees (control_1 v) c = refl
done_agrees (control_2 v) c = refl
done_agrees (place_controls ctrl1 ctrl2 line) c = either (λ (r : Answer). own c ≡ held r) (ltb 511 line) refl refl
done_agrees (late byte) c = either (λ (r : Answer). own c ≡ held r) (eqb (state_refusal c) 0) (late_stays c byte c.side.pending.place) refl

-- ---- a run

pub where_they_agree : WhereTheyAgree
unfolding beside as_the_mask run
where_they_agree [] c = refl
where_they_agree (x ∷ xs) c =
    let first = done_agrees x c in
    λ i. first i ∷ (ap (beside xs (done x c).chip) first ∙ where_they_agree xs (done x c).chip) i

powered_agrees : (kind : ℕ) → fresh_was ≡ own (powered kind)
unfolding fresh_was powered fresh_side all_fresh
powered_agrees kind = refl

pub no_run_changes : NoRunChanges
no_run_changes kind xs = ap (beside xs (powered kind)) (powered_agrees kind) ∙ where_they_agree xs (powered kind)

-- ---- a slot's bytes

open_one : (b low : Bool) (byte : ℕ) → or_open (not b || b || low) byte ≡ byte
unfolding or_open
open_one true low byte = refl
open_one false low byte = refl

pub no_byte_changes : NoByteChanges
unfolding byte_one_was byte_one byte_zero_was byte_zero
no_byte_changes =
    record {
      one = λ s pointers k mc low ram rom bank. rw (twice (has_bit s.dma k)) (open_one (has_bit s.dma k) low _);
      zero' = λ s pointers k mc low ram rom bank. rw (twice (has_bit s.dma k));
    }
