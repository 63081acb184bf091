-- The interrupt latches: Bauer 3.12.
use Rattle.std.specs.Prelude.{ℕ, ◌-◌, ◌%◌, Bool, false, not, cond, eqb}
use Rattle.std.specs.Int.Bits.{bit_and, bit_or}
use Rattle.laws.specs.Bits.{with_bit, without_bit}
use Rattle.registers.specs.declared.Irq.{Irq}

-- 01: power-up
abbrev pub quiet : Irq
quiet = record { flags = 0; enable = 0; line = false }

-- Bauer 3.12: one of the four sources is latched and enabled
unfoldable pub asked : ℕ → ℕ → Bool
asked flags enable = not (eqb (bit_and (bit_and flags enable) 15) 0)

-- Bauer 3.12: bit 7 of 0x19 says so, and so does the line
unfoldable pub settled : ℕ → ℕ → Irq
settled flags enable = record {
  flags = cond (asked flags enable) (with_bit flags 7) (without_bit flags 7);
  enable = enable;
  line = asked flags enable;
}

-- Bauer 3.12: a source is latched, whether it is enabled or not
unfoldable pub triggered : Irq → ℕ → Irq
triggered i source = settled (bit_or i.flags source) i.enable

-- Bauer 3.12: a source is acknowledged by writing its bit
unfoldable pub cleared : Irq → ℕ → Irq
cleared i mask = settled (bit_and i.flags (255 - mask % 16)) i.enable

unfoldable pub enabled : Irq → ℕ → Irq
enabled i v = settled i.flags (v % 16)

-- Bauer 3.2: 0x19 acknowledges, 0x1A enables
unfoldable pub irq_written : Irq → ℕ → ℕ → Irq
irq_written i addr v = cond (eqb (addr % 64) 0x19) (cleared i v) (cond (eqb (addr % 64) 0x1A) (enabled i v) i)
