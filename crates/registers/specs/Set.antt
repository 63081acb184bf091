-- One setter for each call that stores: with `written`, the only places that list every field.
use Rattle.std.specs.Prelude.{ℕ}
use Rattle.registers.specs.declared.Registers.{Registers}

abbrev pub controls≔ : ℕ → ℕ → ℕ → Registers → Registers
controls≔ a b c s = record { mx = s.mx; my = s.my; cols = s.cols; bg = s.bg; msbx = s.msbx; enable = s.enable; yexp = s.yexp; xexp = s.xexp; prio = s.prio; multi = s.multi; mc0 = s.mc0; mc1 = s.mc1; ctrl1 = a; ctrl2 = b; compare = c; ptrs = s.ptrs; border = s.border }

abbrev pub yexp≔ : ℕ → Registers → Registers
yexp≔ v s = record { mx = s.mx; my = s.my; cols = s.cols; bg = s.bg; msbx = s.msbx; enable = s.enable; yexp = v; xexp = s.xexp; prio = s.prio; multi = s.multi; mc0 = s.mc0; mc1 = s.mc1; ctrl1 = s.ctrl1; ctrl2 = s.ctrl2; compare = s.compare; ptrs = s.ptrs; border = s.border }
