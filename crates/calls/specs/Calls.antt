-- Every other public call on a chip.
use Rattle.std.specs.Prelude.{ℕ, ◌%◌, Bool, not, ◌||◌, cond, eqb, ltb, set, Option, None, Some}
use Rattle.registers.specs.declared.Registers.{Registers}
use Rattle.registers.specs.Control.{RSEL, mode_number}
use Rattle.registers.specs.Registers.{written, controlled, control1_stored, control2_stored, expanded}
use Rattle.registers.specs.Read.{read_of}
use Rattle.registers.specs.Irq.{irq_written}
use Rattle.schedule.specs.Kind.{kind_of}
use Rattle.schedule.specs.Requests.{sprites_in}
use Rattle.raster.specs.Frame as Raster
use Rattle.border.specs.Border.{compared}
use Rattle.sprites.specs.Sprites.{expand_written}
use Rattle.arbitration.specs.Bus.{phi1_high}
use Rattle.rows.specs.Pending.{waits}
use Rattle.access.specs.Matrix.{late_word}
use Rattle.side.specs.Set.{irq≔, frame≔, border≔, sprites≔, pending≔}
use Rattle.picture.specs.Set.{changing≔}
use Rattle.chip.specs.declared.Chip.{Chip}
use Rattle.chip.specs.declared.Answer.{Answer}
use Rattle.chip.specs.Set.{regs≔, side≔, picture≔, matrix≔, pen≔}
use Rattle.chip.specs.Accept.{state_refusal}
use Rattle.chip.specs.Chip.{answer}

-- Bauer 3.2: the raster that a read shows is the beam's
unfoldable pub register_read : Chip → ℕ → ℕ → ℕ → ℕ
register_read c addr penx peny = read_of c.regs c.side.irq c.side.beam.raster addr penx peny

-- Bauer 3.2: the register file and the interrupt latches each take their own
unfoldable pub file_written : Chip → ℕ → ℕ → Chip
file_written c addr v =
    regs≔ (written c.regs addr v) (side≔ (irq≔ (irq_written c.side.irq addr v) c.side) c)

-- DECISIONS 6: at the state's own cycle
unfoldable pub expand_at : Chip → ℕ → Chip
expand_at c v =
    regs≔ (expanded c.regs v)
    (side≔ (sprites≔ (expand_written (kind_of c.side.beam.kind) v c.side.beam.cycle c.regs.yexp c.side.sprites) c.side) c)

-- Bauer 3.2: addresses count mod 64
abbrev pub is_expand : ℕ → Bool
is_expand addr = eqb (addr % 64) 0x17

-- 02 (v): one door for every register, at 0x17 the Y-expand write; departs, DIFFERENCES 16
unfoldable pub register_written : Chip → ℕ → ℕ → Chip
register_written c addr v = cond (is_expand addr) (expand_at c v) (file_written c addr v)

-- 01, Run file kind 5: by ctrl1's RSEL
unfoldable pub compares_by : Chip → Chip
compares_by c = side≔ (border≔ (compared c.side.border (RSEL c.regs.ctrl1)) c.side) c

-- 02 (vi): a mode bit changed
abbrev pub mode_moved : Registers → Registers → Bool
mode_moved before after = not (eqb (mode_number before.ctrl1 before.ctrl2) (mode_number after.ctrl1 after.ctrl2))

-- 02 (vi): a control register is stored; the mode-changing flag is set where a mode bit changed, and not cleared
unfoldable pub control_stored : Chip → Registers → Chip
control_stored c g =
    regs≔ g (picture≔ (pen≔ (changing≔ (c.picture.pen.changing || mode_moved c.regs g) c.picture.pen) c.picture) c)

-- 02 (vi), $D011: ctrl1 with bit 8 of the compare line, the border compares by RSEL, and the new line compared with the raster. Our rule, DIFFERENCES 32
unfoldable pub control1_written : Chip → ℕ → Chip
control1_written c v =
    let g = control1_stored c.regs v in
    let now = Raster.compared c.side.frame c.side.irq c.side.beam.raster g.compare in
    side≔ (irq≔ now.irq (frame≔ now.frame (border≔ (compared c.side.border (RSEL v)) c.side))) (control_stored c g)

-- 02 (vi), $D016: ctrl2
unfoldable pub control2_written : Chip → ℕ → Chip
control2_written c v = control_stored c (control2_stored c.regs v)

-- 01, Placing calls: ctrl1, ctrl2, compare line only; 5 where the line is above 511
unfoldable pub controls_placed : Chip → ℕ → ℕ → ℕ → Answer
controls_placed c ctrl1 ctrl2 compare =
    cond (ltb 511 compare) (answer 5 c) (answer 0 (regs≔ (controlled c.regs ctrl1 ctrl2 compare) c))

-- 01, Late byte: it fills a place only if one is pending, and the place is pending no more
abbrev pub late_at : Chip → ℕ → Option ℕ → Chip
late_at c byte None = c
late_at c byte (Some p) =
    side≔ (pending≔ (waits None) c.side) (picture≔ (matrix≔ (set c.picture.matrix p (late_word byte)) c.picture) c)

-- 01, Numbers; 02 (iv): refused for its state as a tick is
unfoldable pub late_taken : Chip → ℕ → Answer
late_taken c byte = cond (eqb (state_refusal c) 0) (answer 0 (late_at c byte c.side.pending.place)) (answer (state_refusal c) c)

-- 01, Arbitration
unfoldable pub phi1 : Chip → Bool
phi1 c = phi1_high (kind_of c.side.beam.kind) c.side.beam.ba c.side.sprites.dma c.side.sprites.prev c.side.beam.cycle

-- 01: the number of sprites with DMA on
unfoldable pub dma_count : Chip → ℕ
dma_count c = sprites_in c.side.sprites.dma

-- 02 (xi): the number that the state keeps
unfoldable pub cycles_lost : Chip → ℕ
cycles_lost c = c.side.bus.lost
