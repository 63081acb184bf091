-- When a sprite asks for the bus, and how many do.
use Rattle.std.specs.Prelude.{ℕ, zero, suc, ◌+◌, ◌-◌, ◌%◌, ◌^◌, Bool, ◌||◌, cond, eqb, leb}
use Rattle.laws.specs.Bits.{ones_below}
use Rattle.schedule.specs.Kind.{Kind, last_cycle, pointer_slot, data_slot}
use Rattle.schedule.specs.Diagram.{on_line}

-- how many cycles after cycle c the cycle e comes, on a line that goes round
abbrev pub until : Kind → ℕ → ℕ → ℕ
until k c e = (e + last_cycle k - c) % last_cycle k

-- 01, Sprite schedule; Bauer 3.6.1: from three cycles before the pointer to the data slot
abbrev pub requests : Kind → ℕ → ℕ → Bool
requests k n c = leb (until k c (pointer_slot k n)) 3 || eqb c (data_slot k n)

-- the requests of the first n sprites, sprite n at bit n
abbrev pub mask_below : Kind → ℕ → ℕ → ℕ
mask_below k zero c = 0
mask_below k (suc n) c = mask_below k n c + cond (requests k n c) (2 ^ n) 0

-- 01, Sprite schedule: the eight requests in a cycle of the line; other numbers give 0
unfoldable pub mask_at : Kind → ℕ → ℕ
mask_at k c = cond (on_line k c) (mask_below k 8 c) 0

-- 01: the number of sprites with DMA on, over the mask's eight bits
unfoldable pub sprites_in : ℕ → ℕ
sprites_in mask = ones_below 8 mask
