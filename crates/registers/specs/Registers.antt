-- The register file, and what a write stores: Bauer 3.2.
use Rattle.std.specs.Prelude.{ℕ, ◌+◌, ◌-◌, ◌*◌, ◌/◌, ◌%◌, Bool, false, ◌&&◌, ◌||◌, cond, List, [], ◌∷◌, ltb, leb, eqb, set}
use Rattle.laws.specs.Lists.{zeros}
use Rattle.laws.specs.Pick.{pick}
use Rattle.registers.specs.declared.Registers.{Registers}
use Rattle.registers.specs.Set.{controls≔, yexp≔}
use Rattle.registers.specs.Control.{RST8}

-- 01: power-up
abbrev pub fresh : Registers
fresh = record { mx = zeros 8; my = zeros 8; cols = zeros 8; bg = zeros 4; msbx = 0; enable = 0; yexp = 0; xexp = 0; prio = 0; multi = 0; mc0 = 0; mc1 = 0; ctrl1 = 0; ctrl2 = 0; compare = 0; ptrs = 0; border = 0 }

abbrev pub between : ℕ → ℕ → ℕ → Bool
between a e x = leb a x && leb x e

abbrev pub one_of : ℕ → List ℕ → Bool
one_of x [] = false
one_of x (k ∷ ks) = eqb x k || one_of x ks

-- registers with a latch of their own; 01, Leaves: Registers: writes to 0x11, 0x16, 0x17 and what is not listed change nothing
abbrev pub stored : ℕ → Bool
stored reg = one_of reg (0x10 ∷ 0x12 ∷ 0x15 ∷ 0x18 ∷ 0x1B ∷ 0x1C ∷ 0x1D ∷ 0x20 ∷ 0x25 ∷ 0x26 ∷ [])

-- Bauer 3.2: the latch of a register, named by its number, or by the first of its kind: 0x00 X and 0x01 Y of a sprite, 0x21 a background, 0x27 a sprite's colour; 0x3F is none
unfoldable pub latch : ℕ → ℕ
latch reg =
    cond (ltb reg 0x10) (reg % 2)
    (cond (between 0x21 0x24 reg) 0x21
    (cond (between 0x27 0x2E reg) 0x27
    (cond (stored reg) reg 0x3F)))

-- Bauer 3.2: what a write to a latch stores; colours keep four bits, and 0x12 keeps bit 8 of the compare line
abbrev pub put : ℕ → ℕ → ℕ → Registers → Registers
put t reg v s = record {
  mx = cond (eqb t 0x00) (set s.mx (reg / 2) v) s.mx;
  my = cond (eqb t 0x01) (set s.my (reg / 2) v) s.my;
  cols = cond (eqb t 0x27) (set s.cols (reg - 0x27) (v % 16)) s.cols;
  bg = cond (eqb t 0x21) (set s.bg (reg - 0x21) (v % 16)) s.bg;
  msbx = cond (eqb t 0x10) v s.msbx;
  enable = cond (eqb t 0x15) v s.enable;
  yexp = s.yexp;
  xexp = cond (eqb t 0x1D) v s.xexp;
  prio = cond (eqb t 0x1B) v s.prio;
  multi = cond (eqb t 0x1C) v s.multi;
  mc0 = cond (eqb t 0x25) (v % 16) s.mc0;
  mc1 = cond (eqb t 0x26) (v % 16) s.mc1;
  ctrl1 = s.ctrl1;
  ctrl2 = s.ctrl2;
  compare = cond (eqb t 0x12) (s.compare / 256 % 2 * 256 + v) s.compare;
  ptrs = cond (eqb t 0x18) v s.ptrs;
  border = cond (eqb t 0x20) (v % 16) s.border;
}

-- Bauer 3.2: the address counts mod 64
unfoldable pub written : Registers → ℕ → ℕ → Registers
written s addr v = put (latch (addr % 64)) (addr % 64) v s

-- 01: the placing call stores these three only
abbrev pub controlled : Registers → ℕ → ℕ → ℕ → Registers
controlled s ctrl1 ctrl2 compare = controls≔ ctrl1 ctrl2 compare s

-- Bauer 3.2: RST8 is bit 8 of the compare line; 02 (vi): the low byte stays, and anything above goes
abbrev pub line_by : ℕ → ℕ → ℕ
line_by ctrl1 compare = pick (RST8 ctrl1) 256 0 + compare % 256

-- 02 (vi): $D011 stores ctrl1 and bit 8 of the compare line
abbrev pub control1_stored : Registers → ℕ → Registers
control1_stored s v = controls≔ v s.ctrl2 (line_by v s.compare) s

-- 02 (vi): $D016 stores ctrl2
abbrev pub control2_stored : Registers → ℕ → Registers
control2_stored s v = controls≔ s.ctrl1 v s.compare s

-- 01: the Y-expand write stores its byte
abbrev pub expanded : Registers → ℕ → Registers
expanded s v = yexp≔ v s
