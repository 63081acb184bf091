-- Each timing register is needed, and so is the kind: two runs of two calls on one accepted chip, that differ in one timing value, differ after one tick.
use Prim.Native.Nat.{ℕ}
use mathlib.Core.Path.{◌≡◌, refl, ap, ◌∙◌}
use mathlib.Core.Bool.{true, false}
use mathlib.Core.List.{◌∷◌}
use lib.IntN.{ℤ, pos, negsuc}
use Rattle.laws.specs.Bits.{has_bit, with_bit, without_bit}
use Rattle.laws.specs.Lists.{zeros}
use Rattle.laws.specs.Pick.{pick}
use Rattle.memory.specs.Lent.{Host, lent_refusal}
use Rattle.registers.specs.Registers.{latch, written}
use Rattle.registers.specs.Irq.{quiet, asked, settled, triggered, irq_written}
use Rattle.schedule.specs.Kind.{known, kind_of}
use Rattle.schedule.specs.Diagram.{happens, pointer_time, data_time}
use Rattle.schedule.specs.Requests.{mask_at}
use Rattle.timing.specs.Beam.{bad_line, latched, ba_output, next_cycle, at_last_line, next_line, beam_turned}
use Rattle.timing.specs.Beam as Beams
use Rattle.timing.specs.Set.{cycle≔, raster≔, den≔, latch≔}
use Rattle.border.specs.Border as Borders
use Rattle.sprites.specs.Sprites as Sprites
use Rattle.sprites.specs.Fine.{fine_test}
use Rattle.arbitration.specs.Bus as Buses
use Rattle.std.specs.Prelude.{None}
use Rattle.rows.specs.Pending.{waits}
use Rattle.side.specs.declared.Side.{Side}
use Rattle.raster.specs.Frame as Frames
use Rattle.rows.specs.Rows as Rows
use Rattle.side.specs.Phases as Phases
use Rattle.rows.specs.Fine.{vmli_limit}
use Rattle.side.specs.Turn.{turned}
use Rattle.chip.specs.declared.Chip.{Chip}
use Rattle.chip.specs.declared.Answer.{Answer}
use Rattle.registers.specs.Control.{timed}
use Rattle.chip.specs.Accept.{accepted, aec_fine, clock_fine, place_fine}
use Rattle.sequencer.specs.Tick.{tickable}
use Rattle.calls.specs.Calls.{file_written, register_written, expand_at, control_stored, control1_written, control2_written, controls_placed}
use Rattle.world.proofs.Sides.{tick_side}
use Rattle.sequencer.proofs.Sides.{tick_taken, tick_bank, tick_unknown, tick_unaccepted}
use Rattle.artwork.specs.Runs.{Call, tick, write, expand, control_1, control_2, place_controls, done}
use Rattle.artwork.proofs.Instances.{filled, filled_low, filled_high, filled_above}

-- after this cycle of this line: DEN latched, both borders open, no sprite busy; sprite 0 enabled at line 100
abbrev pub chip_made : ℕ → ℤ → ℕ → ℕ → Chip
chip_made kind forced cycle raster =
    record {
      regs = record { mx = zeros 8; my = 100 ∷ zeros 7; cols = zeros 8; bg = zeros 4; msbx = 0; enable = 1; yexp = 0; xexp = 0; prio = 0; multi = 0; mc0 = 0; mc1 = 0; ctrl1 = 0x10; ctrl2 = 0; compare = 0; ptrs = 0; border = 0 };
      side = record {
        irq = quiet;
        beam = cycle≔ cycle (raster≔ raster (den≔ true (latch≔ true (Beams.fresh kind))));
        frame = Frames.fresh;
        border = record { vertical = false; main = false; old = false; disabled = false; part40 = 0; part38 = 0; top = 55; bottom = 247 };
        sprites = Sprites.all_fresh;
        bus = Buses.fresh;
        rows = Rows.fresh;
        pending = waits None;
        changed = false;
        refresh = 0xFF;
      };
      picture = record {
        pen = record { ch = 0; carry = 0; gfx = 0; mode = 0; old = 0; changing = false; forced = forced };
        matrix = zeros 40;
        pointers = zeros 8;
        bytes = zeros 24;
        words = zeros 8;
      };
    }

-- a 6569
abbrev pub chip_forced : ℤ → ℕ → ℕ → Chip
chip_forced forced cycle raster = chip_made 0 forced cycle raster

abbrev pub chip_at : ℕ → ℕ → Chip
chip_at cycle raster = chip_forced (pos 0) cycle raster

-- the timing side after a call and one tick
abbrev pub after : Host → Call → Chip → Side
after h x c = (done (tick h) (done x c).chip).chip.side

pub record Needed (h : Host) : Type 0 where
  -- YSCROLL, on line 0x30 in cycle 12: the line is bad and BA is low, or not
  pub yscroll_0 : (after h (place_controls 0x10 0 0) (chip_at 11 0x30)).bus.balow ≡ true
  pub yscroll_1 : (after h (place_controls 0x11 0 0) (chip_at 11 0x30)).bus.balow ≡ false
  -- sprite 0's Y, on line 100 in cycle 55: its DMA starts, or not
  pub y_100 : (after h (write 0x01 100) (chip_at 54 100)).sprites.dma ≡ 1
  pub y_101 : (after h (write 0x01 101) (chip_at 54 100)).sprites.dma ≡ 0
  -- its enable bit
  pub enable_1 : (after h (write 0x15 1) (chip_at 54 100)).sprites.dma ≡ 1
  pub enable_0 : (after h (write 0x15 0) (chip_at 54 100)).sprites.dma ≡ 0
  -- CSEL, in cycle 56: the main border closes, or not
  pub csel_0 : (after h (place_controls 0x10 0x00 0) (chip_at 55 100)).border.main ≡ true
  pub csel_1 : (after h (place_controls 0x10 0x08 0) (chip_at 55 100)).border.main ≡ false
  -- the compare line, as line 101 begins: an interrupt, or none
  pub compare_101 : (after h (write 0x12 101) (chip_at 63 100)).irq.flags ≡ 1
  pub compare_102 : (after h (write 0x12 102) (chip_at 63 100)).irq.flags ≡ 0
  -- Y-expand, in cycle 55: the expansion flip turns, or not
  pub yexp_0 : (after h (expand 0) (chip_at 54 50)).sprites.flip ≡ 0xFF
  pub yexp_1 : (after h (expand 1) (chip_at 54 50)).sprites.flip ≡ 0xFE
  -- the same through the one door
  pub door_0 : (after h (write 0x17 0) (chip_at 54 50)).sprites.flip ≡ 0xFF
  pub door_1 : (after h (write 0x17 1) (chip_at 54 50)).sprites.flip ≡ 0xFE
  -- DEN, as line 0x30 begins: it is latched, or not
  pub den_1 : (after h (place_controls 0x10 0 0) (chip_at 63 0x2F)).beam.latch ≡ true
  pub den_0 : (after h (place_controls 0x00 0 0) (chip_at 63 0x2F)).beam.latch ≡ false
  -- RSEL, in every cycle: the beam has it
  pub rsel_1 : (after h (place_controls 0x18 0 0) (chip_at 11 100)).beam.rsel ≡ true
  pub rsel_0 : (after h (place_controls 0x10 0 0) (chip_at 11 100)).beam.rsel ≡ false
  -- $D011: bit 7 as bit 8 of the compare line, on line 256, YSCROLL, RSEL and DEN; $D016: CSEL
  pub written_high_1 : (after h (control_1 0x90) (chip_at 11 256)).irq.flags ≡ 1
  pub written_high_0 : (after h (control_1 0x10) (chip_at 11 256)).irq.flags ≡ 0
  pub written_yscroll_0 : (after h (control_1 0x10) (chip_at 11 0x30)).bus.balow ≡ true
  pub written_yscroll_1 : (after h (control_1 0x11) (chip_at 11 0x30)).bus.balow ≡ false
  pub written_rsel_1 : (after h (control_1 0x18) (chip_at 11 100)).border.top ≡ 51
  pub written_rsel_0 : (after h (control_1 0x10) (chip_at 11 100)).border.top ≡ 55
  pub written_den_1 : (after h (control_1 0x10) (chip_at 63 0x2F)).beam.latch ≡ true
  pub written_den_0 : (after h (control_1 0x00) (chip_at 63 0x2F)).beam.latch ≡ false
  pub written_csel_0 : (after h (control_2 0x00) (chip_at 55 100)).border.main ≡ true
  pub written_csel_1 : (after h (control_2 0x08) (chip_at 55 100)).border.main ≡ false
  -- the kind, after cycle 63: the line goes on, or the next begins
  pub kind_0 : (after h (write 0x20 0) (chip_made 0 (pos 0) 63 100)).beam.cycle ≡ 1
  pub kind_1 : (after h (write 0x20 0) (chip_made 1 (pos 0) 63 100)).beam.cycle ≡ 64

-- And so are the legal values and the accepted states: one of two calls, or of two chips, is refused where the other is not
pub record Refused : Type 0 where
  -- the bank
  pub bank_3 : (done (tick (filled 0 3)) (chip_at 11 100)).refused ≡ 0
  pub bank_4 : (done (tick (filled 0 4)) (chip_at 11 100)).refused ≡ 2
  -- the kind of a chip
  pub known_1 : (done (tick (filled 0 0)) (chip_made 1 (pos 0) 11 100)).refused ≡ 0
  pub unknown_2 : (done (tick (filled 0 0)) (chip_made 2 (pos 0) 11 100)).refused ≡ 12
  -- the forced clock of a chip
  pub accepted_0 : (done (tick (filled 0 0)) (chip_forced (pos 0) 11 100)).refused ≡ 0
  pub accepted_below : (done (tick (filled 0 0)) (chip_forced (negsuc 0) 11 100)).refused ≡ 3

seen : {A : Type 0} (see : Side → A) (h : Host) (x : Call) (c : Chip) → lent_refusal h ≡ 0 → accepted (done x c).chip ≡ true → tickable (done x c).chip.side.bus.clock ≡ true
    → see (after h x c) ≡ see (turned (timed (done x c).chip.regs) (done x c).chip.side).side
unfolding done
seen see h x c l e t = ap see (ap (λ (r : Answer). r.chip.side) (tick_taken h (done x c).chip l e t) ∙ tick_side h (done x c).chip)

pub needed : (h : Host) → lent_refusal h ≡ 0 → Needed h
unfolding done known kind_of file_written register_written expand_at control_stored control1_written control2_written controls_placed timed accepted aec_fine clock_fine tickable place_fine fine_test vmli_limit turned has_bit with_bit without_bit pick latch written asked settled triggered irq_written happens pointer_time data_time mask_at bad_line latched ba_output next_cycle at_last_line next_line beam_turned Beams.fresh Borders.compared Borders.right38_passed Sprites.all_fresh Sprites.fresh Sprites.sprite_at Sprites.up_to Sprites.dma_begun Sprites.start_one Sprites.started Sprites.first_phased Sprites.clear_after Sprites.flip_after Sprites.expand_written Buses.fresh Buses.sprite_asks Buses.requested Buses.arbitrated Buses.lost_after Buses.counted Frames.fresh Frames.swept Frames.raster_begun Frames.match_raises Frames.compared Frames.frame_begun Frames.frame_ended Frames.raised Rows.fresh Phases.begin_at Phases.left40_at Phases.left38_at Phases.right38_at Phases.right40_at Phases.remember_at Phases.end_at Phases.bordered Phases.step_at Phases.first_at Phases.second_at Phases.load_at Phases.phased Phases.slot_moved
needed h l =
    record {
      yscroll_0 = seen (λ (s : Side). s.bus.balow) h (place_controls 0x10 0 0) (chip_at 11 0x30) l refl refl;
      yscroll_1 = seen (λ (s : Side). s.bus.balow) h (place_controls 0x11 0 0) (chip_at 11 0x30) l refl refl;
      y_100 = seen (λ (s : Side). s.sprites.dma) h (write 0x01 100) (chip_at 54 100) l refl refl;
      y_101 = seen (λ (s : Side). s.sprites.dma) h (write 0x01 101) (chip_at 54 100) l refl refl;
      enable_1 = seen (λ (s : Side). s.sprites.dma) h (write 0x15 1) (chip_at 54 100) l refl refl;
      enable_0 = seen (λ (s : Side). s.sprites.dma) h (write 0x15 0) (chip_at 54 100) l refl refl;
      csel_0 = seen (λ (s : Side). s.border.main) h (place_controls 0x10 0x00 0) (chip_at 55 100) l refl refl;
      csel_1 = seen (λ (s : Side). s.border.main) h (place_controls 0x10 0x08 0) (chip_at 55 100) l refl refl;
      compare_101 = seen (λ (s : Side). s.irq.flags) h (write 0x12 101) (chip_at 63 100) l refl refl;
      compare_102 = seen (λ (s : Side). s.irq.flags) h (write 0x12 102) (chip_at 63 100) l refl refl;
      yexp_0 = seen (λ (s : Side). s.sprites.flip) h (expand 0) (chip_at 54 50) l refl refl;
      yexp_1 = seen (λ (s : Side). s.sprites.flip) h (expand 1) (chip_at 54 50) l refl refl;
      door_0 = seen (λ (s : Side). s.sprites.flip) h (write 0x17 0) (chip_at 54 50) l refl refl;
      door_1 = seen (λ (s : Side). s.sprites.flip) h (write 0x17 1) (chip_at 54 50) l refl refl;
      den_1 = seen (λ (s : Side). s.beam.latch) h (place_controls 0x10 0 0) (chip_at 63 0x2F) l refl refl;
      den_0 = seen (λ (s : Side). s.beam.latch) h (place_controls 0x00 0 0) (chip_at 63 0x2F) l refl refl;
      rsel_1 = seen (λ (s : Side). s.beam.rsel) h (place_controls 0x18 0 0) (chip_at 11 100) l refl refl;
      rsel_0 = seen (λ (s : Side). s.beam.rsel) h (place_controls 0x10 0 0) (chip_at 11 100) l refl refl;
      written_high_1 = seen (λ (s : Side). s.irq.flags) h (control_1 0x90) (chip_at 11 256) l refl refl;
      written_high_0 = seen (λ (s : Side). s.irq.flags) h (control_1 0x10) (chip_at 11 256) l refl refl;
      written_yscroll_0 = seen (λ (s : Side). s.bus.balow) h (control_1 0x10) (chip_at 11 0x30) l refl refl;
      written_yscroll_1 = seen (λ (s : Side). s.bus.balow) h (control_1 0x11) (chip_at 11 0x30) l refl refl;
      written_rsel_1 = seen (λ (s : Side). s.border.top) h (control_1 0x18) (chip_at 11 100) l refl refl;
      written_rsel_0 = seen (λ (s : Side). s.border.top) h (control_1 0x10) (chip_at 11 100) l refl refl;
      written_den_1 = seen (λ (s : Side). s.beam.latch) h (control_1 0x10) (chip_at 63 0x2F) l refl refl;
      written_den_0 = seen (λ (s : Side). s.beam.latch) h (control_1 0x00) (chip_at 63 0x2F) l refl refl;
      written_csel_0 = seen (λ (s : Side). s.border.main) h (control_2 0x00) (chip_at 55 100) l refl refl;
      written_csel_1 = seen (λ (s : Side). s.border.main) h (control_2 0x08) (chip_at 55 100) l refl refl;
      kind_0 = seen (λ (s : Side). s.beam.cycle) h (write 0x20 0) (chip_made 0 (pos 0) 63 100) l refl refl;
      kind_1 = seen (λ (s : Side). s.beam.cycle) h (write 0x20 0) (chip_made 1 (pos 0) 63 100) l refl refl;
    }

pub refused : Refused
unfolding done known kind_of accepted aec_fine clock_fine tickable place_fine fine_test vmli_limit pick happens Sprites.all_fresh Sprites.fresh Sprites.sprite_at Buses.fresh Beams.fresh Frames.fresh Rows.fresh
refused =
    record {
      bank_3 = ap number (tick_taken (filled 0 3) (chip_at 11 100) (filled_high 0) refl refl);
      bank_4 = ap number (tick_bank (filled 0 4) (chip_at 11 100) (filled_above 0));
      known_1 = ap number (tick_taken (filled 0 0) (chip_made 1 (pos 0) 11 100) (filled_low 0) refl refl);
      unknown_2 = ap number (tick_unknown (filled 0 0) (chip_made 2 (pos 0) 11 100) (filled_low 0) refl);
      accepted_0 = ap number (tick_taken (filled 0 0) (chip_at 11 100) (filled_low 0) refl refl);
      accepted_below = ap number (tick_unaccepted (filled 0 0) (chip_forced (negsuc 0) 11 100) (filled_low 0) refl refl);
    }
  where
    number : Answer → ℕ
    number r = r.refused
