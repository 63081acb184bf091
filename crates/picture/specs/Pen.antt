-- The picture side's step, by the orders of the timing side (01, tick 5, 6, 8 and 10).
use Rattle.std.specs.Prelude.{ℕ, Bool, false, ◌&&◌, cond, List, ℤ, pos, negsuc, eqb}
use Rattle.laws.specs.Pick.{pick}
use Rattle.schedule.specs.Diagram.{happens, graphics_cleared, late_idle}
use Rattle.memory.specs.Memory.{read_at}
use Rattle.memory.specs.declared.Found.{Found}
use Rattle.access.specs.Matrix.{filled}
use Rattle.access.specs.Merge.{since_of, Merging, merging, latched}
use Rattle.access.specs.Graphics.{access_address}
use Rattle.access.specs.Slots.{pointers_after, byte_two_after, data_after, words_after}
use Rattle.side.specs.declared.Orders.{Orders}
use Rattle.picture.specs.declared.Pen.{Pen}

-- 01, power-up: forced clock 0, all else 0 and clear
unfoldable pub fresh_pen : Pen
fresh_pen = record { ch = 0; carry = 0; gfx = 0; mode = 0; old = 0; changing = false; forced = pos 0 }

-- two clocks are the same
unfoldable pub same_clock : ℤ → ℤ → Bool
same_clock (pos m) (pos n) = eqb m n
same_clock (negsuc m) (negsuc n) = eqb m n
same_clock (pos m) (negsuc n) = false
same_clock (negsuc m) (pos n) = false

-- Bauer 3.7.2 rule 3: a graphics access latches the character that it shows
unfoldable pub character_of : List ℕ → Orders → ℤ → Pen → Merging
character_of matrix orders clock p =
    cond orders.graphics
    (latched matrix orders.moves orders.hidden orders.plain orders.cycle (since_of clock p.forced) orders.vmli p.ch p.carry)
    (merging p.ch p.carry matrix)

-- 01, tick 8: what the graphics access reads; without one the byte stays, and is 0 in the cycle after the last
unfoldable pub graphics_of : ℕ → Orders → ℤ → Pen → ℕ → ℕ → List ℕ → List ℕ → ℕ → Found
graphics_of ch orders clock p mode ptrs ram rom bank =
    let forced = orders.waiting && happens late_idle orders.cycle && same_clock clock p.forced in
    cond orders.graphics
    (read_at ram rom bank (access_address orders.moves forced mode p.old ptrs ch orders.vc orders.rc bank))
    (record { byte = pick (happens graphics_cleared orders.cycle) 0 p.gfx; address = 0 })

-- 01, tick 6 and 10: the mode of this tick; a mode-changing flag is cleared and the mode before moves on
unfoldable pub pen_after : List ℕ → Orders → ℤ → Pen → ℕ → ℕ → List ℕ → List ℕ → ℕ → Pen
pen_after matrix orders clock p mode ptrs ram rom bank =
    let latch = character_of matrix orders clock p in
    record {
      ch = latch.ch;
      carry = latch.carry;
      gfx = (graphics_of latch.ch orders clock p mode ptrs ram rom bank).byte;
      mode = mode;
      old = pick p.changing mode p.old;
      changing = false;
      forced = p.forced;
    }

-- 01, tick 8: graphics access, then character access
unfoldable pub matrix_after : List ℕ → Orders → ℤ → Pen → ℕ → List ℕ → List ℕ → List ℕ → ℕ → List ℕ
matrix_after matrix orders clock p ptrs ram rom colour bank =
    filled (character_of matrix orders clock p).matrix orders.fills orders.place orders.column ptrs ram rom colour bank

-- what the sprites' slots fetched: eight pointers, three bytes a sprite, eight words
pub record Latches : Type 0 where
  pub pointers : List ℕ
  pub bytes : List ℕ
  pub words : List ℕ

-- DECISIONS 22: pointer and byte 2, or bytes 1 and 0 and the word; sprite 0's byte 2, in the cycle that loads MC, wants the bus
unfoldable pub slotted : List ℕ → List ℕ → List ℕ → Orders → ℕ → List ℕ → List ℕ → ℕ → Latches
slotted pointers bytes words orders ptrs ram rom bank =
    cond orders.pointing
    (record {
      pointers = pointers_after pointers orders.sprite ptrs ram rom bank;
      bytes = byte_two_after bytes orders.sprite (eqb orders.sprite 0) orders.mask orders.mc orders.low ptrs ram rom bank;
      words = words;
    })
    (cond orders.fetching
    (record {
      pointers = pointers;
      bytes = data_after pointers bytes orders.sprite orders.mask orders.mc orders.low ram rom bank;
      words = words_after pointers bytes words orders.sprite orders.mask orders.mc orders.low ram rom bank;
    })
    (record { pointers = pointers; bytes = bytes; words = words }))
