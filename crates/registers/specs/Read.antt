-- What a read of each register answers: Bauer 3.2. Unused bits read 1.
use Rattle.std.specs.Prelude.{ℕ, ◌+◌, ◌-◌, ◌*◌, ◌/◌, ◌%◌, Bool, cond, ltb, eqb, get_or}
use Rattle.registers.specs.declared.Registers.{Registers}
use Rattle.registers.specs.declared.Irq.{Irq}

-- Bauer 3.2, 0x11: bit 7 is bit 8 of the raster line, not what was written
abbrev pub read_control : ℕ → ℕ → ℕ
read_control ctrl1 raster = raster / 256 % 2 * 128 + ctrl1 % 128

-- Bauer 3.2, 0x19: the four latches, and in bit 7 the line
unfoldable pub read_latches : ℕ → Bool → ℕ
read_latches flags line = cond line 0x80 0 + 0x70 + flags % 16

-- Bauer 3.2, 0x20 to 0x2E: a colour in bits 3 to 0
abbrev pub read_colour : ℕ → ℕ
read_colour c = 0xF0 + c % 16

-- Bauer 3.2, 0x00 to 0x0F: X and Y of the sprites in turn
abbrev pub place_at : Registers → ℕ → ℕ
place_at s reg = cond (eqb (reg % 2) 0) (get_or s.mx (reg / 2) 0) (get_or s.my (reg / 2) 0)

-- Bauer 3.2, 0x10 to 0x1F; 01, Leaves: Registers: 0x1E and 0x1F give 0xFF, the light pen is the caller's
unfoldable pub control_at : Registers → Irq → ℕ → ℕ → ℕ → ℕ → ℕ
control_at s irq raster penx peny reg =
    cond (eqb reg 0x10) s.msbx
    (cond (eqb reg 0x11) (read_control s.ctrl1 raster)
    (cond (eqb reg 0x12) (raster % 256)
    (cond (eqb reg 0x13) penx
    (cond (eqb reg 0x14) peny
    (cond (eqb reg 0x15) s.enable
    (cond (eqb reg 0x16) (0xC0 + s.ctrl2 % 64)
    (cond (eqb reg 0x17) s.yexp
    (cond (eqb reg 0x18) (s.ptrs / 2 * 2 + 1)
    (cond (eqb reg 0x19) (read_latches irq.flags irq.line)
    (cond (eqb reg 0x1A) (0xF0 + irq.enable % 16)
    (cond (eqb reg 0x1B) s.prio
    (cond (eqb reg 0x1C) s.multi
    (cond (eqb reg 0x1D) s.xexp 0xFF)))))))))))))

-- Bauer 3.2, 0x20 to 0x26: the border, the four backgrounds, the two sprite multicolours
unfoldable pub colour_at : Registers → ℕ → ℕ
colour_at s reg =
    cond (eqb reg 0x20) s.border
    (cond (eqb reg 0x21) (get_or s.bg 0 0)
    (cond (eqb reg 0x22) (get_or s.bg 1 0)
    (cond (eqb reg 0x23) (get_or s.bg 2 0)
    (cond (eqb reg 0x24) (get_or s.bg 3 0)
    (cond (eqb reg 0x25) s.mc0 s.mc1)))))

-- Bauer 3.2: the 64 numbers; 0x2F to 0x3F read 0xFF
abbrev pub register_at : Registers → Irq → ℕ → ℕ → ℕ → ℕ → ℕ
register_at s irq raster penx peny reg =
    cond (ltb reg 0x10) (place_at s reg)
    (cond (ltb reg 0x20) (control_at s irq raster penx peny reg)
    (cond (ltb reg 0x27) (read_colour (colour_at s reg))
    (cond (ltb reg 0x2F) (read_colour (get_or s.cols (reg - 0x27) 0)) 0xFF)))

unfoldable pub read_of : Registers → Irq → ℕ → ℕ → ℕ → ℕ → ℕ
read_of s irq raster addr penx peny = register_at s irq raster penx peny (addr % 64)
