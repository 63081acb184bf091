-- The sprites' fetches over a line. Assumes nothing.
use Prim.Native.Nat.{ℕ, ◌-◌}
use mathlib.Core.Path.{◌≡◌, refl}
use mathlib.Core.Bool.{cond}
use mathlib.Core.List.{List}
use lib.Dec.{eqb}
use Rattle.laws.specs.Bits.{has_bit}
use Rattle.schedule.specs.Kind.{Kind, the6569, the6567_r8, last_cycle}
use Rattle.schedule.specs.Diagram.{happens, slot_sprite, pointer_time, data_time}
use Rattle.sprites.specs.declared.Sprites.{Sprites}
use Rattle.sprites.specs.Sprites.{sprite_at}
use Rattle.access.specs.Slots.{pointers_after, byte_two_after, data_after, words_after}
use Rattle.side.specs.Phases.{phased, step_at, first_at, second_at, load_at, slot_moved}
use Rattle.picture.specs.Pen.{Latches}
use Rattle.lines.specs.Slots.{Fetch, low_at, slot_reads, slots_line}
use Rattle.lines.proofs.Through.{through}
use Rattle.lines.proofs.Sprites.{phase, sprite_step}

module _ (f : Fetch) (line raster : ℕ) (my : List ℕ) (enable yexp : ℕ) (s : Sprites) where
  -- the sprites as the slot of cycle c finds them
  abbrev pub before : Kind → ℕ → Sprites
  before k c = phase line raster my enable yexp k c (through (sprite_step line raster my enable yexp k) (c - 1) s)

  unfoldable pub slot_step : Kind → ℕ → Latches → Latches
  slot_step k c l =
      cond (pointer_time k c)
      (record {
        pointers = pointers_after l.pointers (slot_sprite k c) f.ptrs f.ram f.rom f.bank;
        bytes = byte_two_after l.bytes (slot_sprite k c) (eqb (slot_sprite k c) 0) (has_bit (before k c).dma (slot_sprite k c)) (sprite_at (before k c) (slot_sprite k c)).mc (low_at k f.low c) f.ptrs f.ram f.rom f.bank;
        words = l.words;
      })
      (cond (data_time k c)
      (record {
        pointers = l.pointers;
        bytes = data_after l.pointers l.bytes (slot_sprite k c) (has_bit (before k c).dma (slot_sprite k c)) (sprite_at (before k c) (slot_sprite k c)).mc (low_at k f.low c) f.ram f.rom f.bank;
        words = words_after l.pointers l.bytes l.words (slot_sprite k c) (has_bit (before k c).dma (slot_sprite k c)) (sprite_at (before k c) (slot_sprite k c)).mc (low_at k f.low c) f.ram f.rom f.bank;
      })
      (record { pointers = l.pointers; bytes = l.bytes; words = l.words }))

  pub slots_line_lem : (k : Kind) (l : Latches) → through (slot_step k) (last_cycle k) l ≡ slots_line k f raster my enable yexp s l
  unfolding through slot_step happens phased step_at first_at second_at load_at slot_moved slot_sprite pointer_time data_time slot_reads slots_line
  slots_line_lem the6569 l = refl
  slots_line_lem the6567_r8 l = refl
