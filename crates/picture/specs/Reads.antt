-- What a tick reads (02 (viii)): the accesses that the table beside the diagram has for its cycle, each with its reason and where it reads.
-- The reasons go by the orders alone, which are the timing side's; the addresses follow pointers and modes.
use Rattle.std.specs.Prelude.{ℕ, List, map, ℤ}
use Rattle.schedule.specs.Kind.{Kind}
use Rattle.schedule.specs.Reads.{Access, pointer, byte_two, byte_one, byte_zero, refreshing, matrix, graphics, idle, Seen, reason_of, accesses}
use Rattle.memory.specs.Memory.{read_at}
use Rattle.raster.specs.Refresh.{refresh_address}
use Rattle.access.specs.declared.Read.{Read}
use Rattle.access.specs.Reads.{read}
use Rattle.access.specs.Matrix.{matrix_address}
use Rattle.access.specs.Slots.{pointer_read, two_read, one_read, zero_read}
use Rattle.side.specs.declared.Orders.{Orders}
use Rattle.picture.specs.declared.Pen.{Pen}
use Rattle.picture.specs.Pen.{character_of, graphics_of}

-- what the accesses go by, of the orders
abbrev pub seen_by : Orders → Seen
seen_by o = record { on = o.mask; low = o.low; moves = o.moves; fills = o.fills }

-- where each access reads, with the matrix line and the pointers as they were before the tick
abbrev pub spot_of : List ℕ → List ℕ → Orders → ℤ → Pen → ℕ → ℕ → List ℕ → List ℕ → ℕ → Access → ℕ
spot_of m ps o clock p mode ptrs ram rom bank pointer = (pointer_read o.sprite ptrs ram rom bank).address
spot_of m ps o clock p mode ptrs ram rom bank byte_two = (two_read o.sprite o.mask o.mc ptrs ram rom bank).address
spot_of m ps o clock p mode ptrs ram rom bank byte_one = (one_read ps o.sprite o.mask o.mc ram rom bank).address
spot_of m ps o clock p mode ptrs ram rom bank byte_zero = (zero_read ps o.sprite o.mask o.mc ram rom bank).address
spot_of m ps o clock p mode ptrs ram rom bank matrix = (read_at ram rom bank (matrix_address ptrs o.column)).address
spot_of m ps o clock p mode ptrs ram rom bank graphics = (graphics_of (character_of m o clock p).ch o clock p mode ptrs ram rom bank).address
-- Bauer 3.13: by the refresh counter; 02 (xiv): the byte is dropped
spot_of m ps o clock p mode ptrs ram rom bank refreshing = refresh_address o.refresh
-- Bauer 3.6.3: the idle access's own address, whose byte is dropped
spot_of m ps o clock p mode ptrs ram rom bank idle = 0x3FFF

-- the tick's reads, in order
unfoldable pub reads_by : Kind → List ℕ → List ℕ → Orders → ℤ → Pen → ℕ → ℕ → List ℕ → List ℕ → ℕ → List Read
reads_by k m ps o clock p mode ptrs ram rom bank =
    map (λ (a : Access). read (reason_of (seen_by o) a) (spot_of m ps o clock p mode ptrs ram rom bank a)) (accesses k o.cycle (seen_by o))
