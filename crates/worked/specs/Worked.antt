-- 01, Twelve settled by proof: the worked examples, of the definitions that the promises name.
use Rattle.std.specs.Prelude.{◌≡◌, refl, Bool, true, false, ℕ, List, [], ◌∷◌}
use Rattle.laws.specs.Bits.{has_bit, without_bit}
use Rattle.laws.specs.Pick.{pick}
use Rattle.schedule.specs.Kind.{the6569, the6567_r8, known, kind_of, pointer_slot, data_slot}
use Rattle.schedule.specs.Diagram.{happens, first_of, first_phase, second_phase, mc_load, line_ends, slot_after_bus}
use Rattle.schedule.specs.Requests.{mask_at}
use Rattle.timing.specs.Beam.{bad_line, next_cycle, next_line, at_last_line, fresh}
use Rattle.sprites.specs.Sprites.{crunched, next_base, mask_after}
use Rattle.access.specs.Matrix.{late_word}
use Rattle.rows.specs.declared.Rows.{Rows}
use Rattle.rows.specs.Rows.{vc_after, vmli_after, rc_after, access_after, display_after, rowed}

-- MCBASE after a step with the flip-flop set, and what is left of a mask with sprite 0 alone
abbrev step_end : ℕ → ℕ → ℕ × ℕ
step_end base mc = (next_base true false base mc, mask_after 0x01 0 (next_base true false base mc))

-- the row counters in display state with this RC
abbrev row : ℕ → Rows
row rc = record { vc = 0; vcbase = 0; rc = rc; vmli = 0; display = true; transition = false; access = false }

-- RC and the display state after cycle 58
abbrev row_end : Bool → ℕ → ℕ × Bool
row_end bad rc = ((rowed 58 bad false false (row rc)).rows.rc, (rowed 58 bad false false (row rc)).rows.display)

pub record Worked : Type 0 where
  -- 1. line 0x30, YSCROLL 0, latched: bad
  pub line_30 : bad_line 0x30 0 true ≡ true
  -- 2. line 0x2F, YSCROLL 7: not
  pub line_2_f : bad_line 0x2F 7 true ≡ false
  -- 3. line 0xF7, YSCROLL 7: bad
  pub line_f7 : bad_line 0xF7 7 true ≡ true
  -- 4. line 0xF8, YSCROLL 0: not
  pub line_f8 : bad_line 0xF8 0 true ≡ false
  -- 5. mask at 63: 0x1C
  pub mask_63 : mask_at the6569 63 ≡ 0x1C
  -- 6. mask at 54: 0
  pub mask_54 : mask_at the6569 54 ≡ 0
  -- 7. mask at 55: 0x01
  pub mask_55 : mask_at the6569 55 ≡ 0x01
  -- 8. base 3, MC 6, flip, clearing: 7
  pub crunch_7 : next_base true true 3 6 ≡ 7
  -- 9. base 60, MC 63, flip: 63, DMA off
  pub base_63 : step_end 60 63 ≡ (63, 0x00)
  -- 10. late byte 0xA7: 0x07FF
  pub late_a7 : late_word 0xA7 ≡ 0x07FF
  -- 11. RC 7 with a bad line at 58: RC 0, Display
  pub row_bad : row_end true 7 ≡ (0, true)
  -- 12. RC 7 in Display without one: RC 7, Idle
  pub row_plain : row_end false 7 ≡ (7, false)

pub worked : Worked
unfolding bad_line mask_at crunched next_base mask_after without_bit has_bit late_word happens pick vc_after vmli_after rc_after access_after display_after rowed
worked =
    record {
      line_30 = refl;
      line_2_f = refl;
      line_f7 = refl;
      line_f8 = refl;
      mask_63 = refl;
      mask_54 = refl;
      mask_55 = refl;
      crunch_7 = refl;
      base_63 = refl;
      late_a7 = refl;
      row_bad = refl;
      row_plain = refl;
    }

-- ---- 02 (iv): the 6567R8, beside the 6569 where they differ

-- the cycles of the eight sprites' slots, sprite 0 first
abbrev pub eight : (ℕ → ℕ) → List ℕ
eight slot = slot 0 ∷ slot 1 ∷ slot 2 ∷ slot 3 ∷ slot 4 ∷ slot 5 ∷ slot 6 ∷ slot 7 ∷ []

pub record Kinds : Type 0 where
  -- Bauer 3.6.3, timing diagrams: the pointers; sprite 3's is in a line's last cycle on the 6567R8
  pub pointers_6569 : eight (pointer_slot the6569) ≡ 58 ∷ 60 ∷ 62 ∷ 1 ∷ 3 ∷ 5 ∷ 7 ∷ 9 ∷ []
  pub pointers_6567_r8 : eight (pointer_slot the6567_r8) ≡ 59 ∷ 61 ∷ 63 ∷ 65 ∷ 2 ∷ 4 ∷ 6 ∷ 8 ∷ []
  -- and the data, in the cycle after
  pub data_6569 : eight (data_slot the6569) ≡ 59 ∷ 61 ∷ 63 ∷ 2 ∷ 4 ∷ 6 ∷ 8 ∷ 10 ∷ []
  pub data_6567_r8 : eight (data_slot the6567_r8) ≡ 60 ∷ 62 ∷ 64 ∷ 1 ∷ 3 ∷ 5 ∷ 7 ∷ 9 ∷ []
  -- the requests of the 6567R8: none in 55, where the 6569 has sprite 0's first; across the line's end; up to sprite 7's data
  pub mask_55 : mask_at the6567_r8 55 ≡ 0
  pub mask_56 : mask_at the6567_r8 56 ≡ 0x01
  pub mask_64 : mask_at the6567_r8 64 ≡ 0x1C
  pub mask_65 : mask_at the6567_r8 65 ≡ 0x18
  pub mask_1 : mask_at the6567_r8 1 ≡ 0x38
  pub mask_9 : mask_at the6567_r8 9 ≡ 0x80
  pub mask_10 : mask_at the6567_r8 10 ≡ 0
  pub mask_66 : mask_at the6567_r8 66 ≡ 0
  -- what goes with sprite 0's slot, DIFFERENCES 30: the comparisons, MC and display; the slot after its arbitration
  pub first_6569 : first_of (first_phase the6569) ≡ 55
  pub first_6567_r8 : first_of (first_phase the6567_r8) ≡ 56
  pub second_6569 : first_of (second_phase the6569) ≡ 56
  pub second_6567_r8 : first_of (second_phase the6567_r8) ≡ 57
  pub load_6569 : first_of (mc_load the6569) ≡ 58
  pub load_6567_r8 : first_of (mc_load the6567_r8) ≡ 59
  pub after_58 : slot_after_bus the6567_r8 58 ≡ false
  pub after_59 : slot_after_bus the6567_r8 59 ≡ true
  -- Bauer 3.4: the ends of a line and of a frame
  pub ends_6567_r8 : first_of (line_ends the6567_r8) ≡ 65
  pub cycle_63 : next_cycle the6569 63 ≡ 1
  pub cycle_64 : next_cycle the6567_r8 64 ≡ 65
  pub cycle_65 : next_cycle the6567_r8 65 ≡ 1
  pub line_261 : next_line the6567_r8 261 ≡ 262
  pub line_262 : (next_line the6567_r8 262 ≡ 262) × (at_last_line the6567_r8 262 ≡ true)
  pub line_262_6569 : (next_line the6569 262 ≡ 263) × (at_last_line the6569 262 ≡ false)
  -- power-up: at the end of a frame; an unknown kind is kept
  pub fresh_0 : ((fresh 0).cycle ≡ 63) × ((fresh 0).raster ≡ 311)
  pub fresh_1 : ((fresh 1).cycle ≡ 65) × ((fresh 1).raster ≡ 262)
  pub fresh_2 : ((fresh 2).kind ≡ 2) × ((fresh 2).cycle ≡ 63) × ((fresh 2).raster ≡ 311)
  pub known_1 : known 1 ≡ true
  pub unknown_2 : known 2 ≡ false

pub kinds : Kinds
unfolding mask_at slot_after_bus next_cycle next_line at_last_line fresh known kind_of
kinds =
    record {
      pointers_6569 = refl;
      pointers_6567_r8 = refl;
      data_6569 = refl;
      data_6567_r8 = refl;
      mask_55 = refl;
      mask_56 = refl;
      mask_64 = refl;
      mask_65 = refl;
      mask_1 = refl;
      mask_9 = refl;
      mask_10 = refl;
      mask_66 = refl;
      first_6569 = refl;
      first_6567_r8 = refl;
      second_6569 = refl;
      second_6567_r8 = refl;
      load_6569 = refl;
      load_6567_r8 = refl;
      after_58 = refl;
      after_59 = refl;
      ends_6567_r8 = refl;
      cycle_63 = refl;
      cycle_64 = refl;
      cycle_65 = refl;
      line_261 = refl;
      line_262 = (refl, refl);
      line_262_6569 = (refl, refl);
      fresh_0 = (refl, refl);
      fresh_1 = (refl, refl);
      fresh_2 = (refl, refl, refl);
      known_1 = refl;
      unknown_2 = refl;
    }
