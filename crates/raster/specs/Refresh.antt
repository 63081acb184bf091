-- The refresh counter REF (Bauer 3.13, 02 (xiv)).
use Rattle.std.specs.Prelude.{ℕ, ◌+◌, ◌-◌, ◌%◌, Bool, cond}
use Rattle.laws.specs.Pick.{pick}
use Rattle.schedule.specs.Kind.{Kind}
use Rattle.schedule.specs.Diagram.{happens, refresh}
use Rattle.registers.specs.declared.Irq.{Irq}
use Rattle.raster.specs.declared.Frame.{Frame}
use Rattle.raster.specs.declared.SweptWith.{SweptWith}
use Rattle.raster.specs.Frame.{swept}

-- Bauer 3.13: 0xFF on line 0; 02 (xiv): with the frame's end, in cycle 2 where the frame flag is set
abbrev pub refresh_from : Bool → ℕ → ℕ
refresh_from wraps ref = pick wraps 0xFF ref

-- what the line and the frame do in a cycle, and the counter as the cycle then finds it
abbrev pub swept_with : Kind → Frame → Irq → ℕ → ℕ → ℕ → Bool → Bool → ℕ → SweptWith
swept_with k f irq cycle raster compare den latch ref =
    let s = swept k f irq cycle raster compare den latch in
    record { swept = s; refresh = refresh_from s.wraps ref }

-- Bauer 3.13: a counter of eight bits; 02 (xiv): 0 is followed by 0xFF
unfoldable pub less_by : ℕ → ℕ → ℕ
less_by n ref = (ref + 0x100 - n) % 0x100

-- Bauer 3.13: one less after each refresh access
unfoldable pub refresh_after : ℕ → ℕ → ℕ
refresh_after cycle ref = cond (happens refresh cycle) (less_by 1 ref) ref

-- Bauer 3.13: 0x3FFF, 0x3FFE ..: the counter's eight bits below 0x3F
abbrev pub refresh_address : ℕ → ℕ
refresh_address ref = 0x3F00 + ref % 0x100
