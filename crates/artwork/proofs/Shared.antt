-- The timing bits of the two registers that share a byte with mode bits.
use Prim.Native.Nat.{ℕ, ◌+◌, ◌/◌, ◌%◌, ◌^◌}
use mathlib.Core.Path.{◌≡◌, sym, ap, ◌∙◌}
use native.Mathlib.Omega.{arith}
use lib.Dec.{eqb}
use Rattle.laws.specs.Bits.{has_bit}
use Rattle.registers.specs.Control.{DEN, RSEL, YSCROLL, CSEL, timed}
use Rattle.registers.specs.Read.{read_control, control_at, read_of}
use Rattle.registers.specs.declared.Controls.{Controls}
use Rattle.side.specs.declared.Side.{Side}
use Rattle.chip.specs.declared.Chip.{Chip}
use Rattle.calls.specs.Calls.{register_read}
use Rattle.artwork.specs.Runs.{Together, Control1, Control2}

-- what a read of 0x16 shows
abbrev read_control2 : ℕ → ℕ
read_control2 ctrl2 = 0xC0 + ctrl2 % 64

shown_1 : (c : Chip) (addr penx peny : ℕ) → addr % 64 ≡ 0x11 → register_read c addr penx peny ≡ read_control c.regs.ctrl1 c.side.beam.raster
unfolding register_read read_of control_at
shown_1 c addr penx peny e = rw e

shown_2 : (c : Chip) (addr penx peny : ℕ) → addr % 64 ≡ 0x16 → register_read c addr penx peny ≡ read_control2 c.regs.ctrl2
unfolding register_read read_of control_at
shown_2 c addr penx peny e = rw e

same_bit : (v w n : ℕ) → v / 2 ^ n % 2 ≡ w / 2 ^ n % 2 → has_bit v n ≡ has_bit w n
unfolding has_bit
same_bit v w n e = ap (λ (x : ℕ). eqb x 1) e

-- the bits that a read shows are those of the register
module _ (c r : ℕ) where
  yscroll_of : YSCROLL (read_control c r) ≡ YSCROLL c
  yscroll_of = omega arith

  rsel_of : RSEL (read_control c r) ≡ RSEL c
  rsel_of = same_bit (read_control c r) c 3 (omega arith)

  den_of : DEN (read_control c r) ≡ DEN c
  den_of = same_bit (read_control c r) c 4 (omega arith)

  raster_of_lem : (d : ℕ) → has_bit (read_control c r) 7 ≡ has_bit (read_control d r) 7
  raster_of_lem d = same_bit (read_control c r) (read_control d r) 7 (omega arith)

csel_of : (c : ℕ) → CSEL (read_control2 c) ≡ CSEL c
csel_of c = same_bit (read_control2 c) c 3 (omega arith)

-- the timing bits of two control registers, as the timing registers have them
module _ (a b : Chip) (t : Together a b) where
  yscroll_same : YSCROLL a.regs.ctrl1 ≡ YSCROLL b.regs.ctrl1
  unfolding timed
  yscroll_same = ap (λ (g : Controls). g.yscroll) t.registers

  rsel_same : RSEL a.regs.ctrl1 ≡ RSEL b.regs.ctrl1
  unfolding timed
  rsel_same = ap (λ (g : Controls). g.rsel) t.registers

  den_same : DEN a.regs.ctrl1 ≡ DEN b.regs.ctrl1
  unfolding timed
  den_same = ap (λ (g : Controls). g.den) t.registers

  csel_same : CSEL a.regs.ctrl2 ≡ CSEL b.regs.ctrl2
  unfolding timed
  csel_same = ap (λ (g : Controls). g.csel) t.registers

  -- the raster line is on the timing side
  raster_same : has_bit (read_control a.regs.ctrl1 a.side.beam.raster) 7 ≡ has_bit (read_control b.regs.ctrl1 b.side.beam.raster) 7
  raster_same = simp (ap (λ (s : Side). s.beam.raster) t.side) (raster_of_lem a.regs.ctrl1 b.side.beam.raster b.regs.ctrl1)

  pub control_1_same : (addr penx peny : ℕ) → addr % 64 ≡ 0x11 → Control1 (register_read a addr penx peny) (register_read b addr penx peny)
  control_1_same addr penx peny e =
      rw (shown_1 a addr penx peny e, shown_1 b addr penx peny e)
      (record {
        yscroll = yscroll_of a.regs.ctrl1 a.side.beam.raster ∙ yscroll_same ∙ sym (yscroll_of b.regs.ctrl1 b.side.beam.raster);
        rsel = rsel_of a.regs.ctrl1 a.side.beam.raster ∙ rsel_same ∙ sym (rsel_of b.regs.ctrl1 b.side.beam.raster);
        den = den_of a.regs.ctrl1 a.side.beam.raster ∙ den_same ∙ sym (den_of b.regs.ctrl1 b.side.beam.raster);
        raster = raster_same;
      })

  pub control_2_same : (addr penx peny : ℕ) → addr % 64 ≡ 0x16 → Control2 (register_read a addr penx peny) (register_read b addr penx peny)
  control_2_same addr penx peny e =
      rw (shown_2 a addr penx peny e, shown_2 b addr penx peny e)
      (record {
        csel = csel_of a.regs.ctrl2 ∙ csel_same ∙ sym (csel_of b.regs.ctrl2);
        six = same_bit (read_control2 a.regs.ctrl2) (read_control2 b.regs.ctrl2) 6 (omega arith);
        seven = same_bit (read_control2 a.regs.ctrl2) (read_control2 b.regs.ctrl2) 7 (omega arith);
      })
