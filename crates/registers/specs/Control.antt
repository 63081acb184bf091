-- What the bits of the control registers 0x11 and 0x16 mean: Bauer 3.2.
use Rattle.std.specs.Prelude.{ℕ, ◌+◌, ◌%◌, Bool, cond}
use Rattle.laws.specs.Bits.{has_bit}
use Rattle.registers.specs.declared.Registers.{Registers}
use Rattle.registers.specs.declared.Controls.{Controls}

-- Bauer 3.2, 0x11: RST8 in bit 7, ECM, BMM, DEN, RSEL in bits 6 to 3, YSCROLL in bits 2 to 0
abbrev pub RST8 : ℕ → Bool
RST8 ctrl1 = has_bit ctrl1 7

abbrev pub ECM : ℕ → Bool
ECM ctrl1 = has_bit ctrl1 6

abbrev pub BMM : ℕ → Bool
BMM ctrl1 = has_bit ctrl1 5

abbrev pub DEN : ℕ → Bool
DEN ctrl1 = has_bit ctrl1 4

abbrev pub RSEL : ℕ → Bool
RSEL ctrl1 = has_bit ctrl1 3

abbrev pub YSCROLL : ℕ → ℕ
YSCROLL ctrl1 = ctrl1 % 8

-- Bauer 3.2, 0x16: MCM in bit 4, CSEL in bit 3
abbrev pub MCM : ℕ → Bool
MCM ctrl2 = has_bit ctrl2 4

abbrev pub CSEL : ℕ → Bool
CSEL ctrl2 = has_bit ctrl2 3

-- 01, One tick: 4·ECM + 2·BMM + MCM
unfoldable pub mode_number : ℕ → ℕ → ℕ
mode_number ctrl1 ctrl2 = cond (ECM ctrl1) 4 0 + cond (BMM ctrl1) 2 0 + cond (MCM ctrl2) 1 0

-- 01, Timing side and picture side: the timing registers, as a tick finds them
unfoldable pub timed : Registers → Controls
timed g =
    record {
      den = DEN g.ctrl1;
      rsel = RSEL g.ctrl1;
      yscroll = YSCROLL g.ctrl1;
      csel = CSEL g.ctrl2;
      compare = g.compare;
      my = g.my;
      enable = g.enable;
      yexp = g.yexp;
    }
