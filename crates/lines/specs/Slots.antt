-- What the sprites' slots of a line fetch (Bauer 3.6.3).
use Rattle.std.specs.Prelude.{ℕ, ◌-◌, Bool, List, [], ◌∷◌, eqb}
use Rattle.laws.specs.Bits.{has_bit}
use Rattle.laws.specs.Pick.{pick}
use Rattle.schedule.specs.Kind.{Kind, pointer_slot, data_slot}
use Rattle.schedule.specs.Diagram.{slot_after_bus}
use Rattle.sprites.specs.declared.Sprites.{Sprites}
use Rattle.sprites.specs.Sprites.{sprite_at}
use Rattle.access.specs.Slots.{pointers_after, byte_two_after, data_after, words_after}
use Rattle.picture.specs.Pen.{Latches}
use Rattle.lines.specs.Sprites.{Slot, pointing, fetching, early_slots, late_slots, slot_moves, sprites_loaded}

-- what every slot of a line is handed: register 0x18, the memory and the wave of AEC
pub record Fetch : Type 0 where
  pub ptrs : ℕ
  pub ram : List ℕ
  pub rom : List ℕ
  pub bank : ℕ
  pub low : ℕ → Bool

-- 01, tick 5 and 8: most slots come before their cycle's arbitration
abbrev pub low_at : Kind → (ℕ → Bool) → ℕ → Bool
low_at k low c = pick (slot_after_bus k c) (low c) (low (c - 1))

-- DECISIONS 22: one slot, with the sprites as it finds them
unfoldable pub slot_reads : Kind → Fetch → Slot → Sprites → Latches → Latches
slot_reads k f (pointing n) s l =
    record {
      pointers = pointers_after l.pointers n f.ptrs f.ram f.rom f.bank;
      bytes = byte_two_after l.bytes n (eqb n 0) (has_bit s.dma n) (sprite_at s n).mc (low_at k f.low (pointer_slot k n)) f.ptrs f.ram f.rom f.bank;
      words = l.words;
    }
slot_reads k f (fetching n) s l =
    let low = low_at k f.low (data_slot k n) in
    record {
      pointers = l.pointers;
      bytes = data_after l.pointers l.bytes n (has_bit s.dma n) (sprite_at s n).mc low f.ram f.rom f.bank;
      words = words_after l.pointers l.bytes l.words n (has_bit s.dma n) (sprite_at s n).mc low f.ram f.rom f.bank;
    }

-- slot after slot, each with the MC that those before it left
abbrev pub slots_read : Kind → Fetch → List Slot → Sprites → Latches → Latches
slots_read k f [] s l = l
slots_read k f (x ∷ more) s l = slots_read k f more (slot_moves x s) (slot_reads k f x s l)

unfoldable pub slots_line : Kind → Fetch → ℕ → List ℕ → ℕ → ℕ → Sprites → Latches → Latches
slots_line k f raster my enable yexp s l =
    slots_read k f (late_slots k) (sprites_loaded k raster my enable yexp s) (slots_read k f (early_slots k) s l)
