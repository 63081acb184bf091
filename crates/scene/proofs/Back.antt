-- What is read from a saved chip's bytes is the chip, part by part. Assumes nothing.
use mathlib.Core.Path.{◌≡◌, refl, ap}
use mathlib.Core.List.{List}
use mathlib.Core.Bool.{true}
use native.Mathlib.Nat.{mod-eq_of_lt}
use lib.ListN.{get_or}
use borrow.Author.Tests.{lt-ltb}
use Rattle.sprites.specs.declared.Sprite.{Sprite}
use Rattle.sprites.specs.Set.{each≔}
use Rattle.sprites.specs.Sprites.{sprite_at, none}
use Rattle.rows.specs.Pending.{waits}
use Rattle.chip.specs.declared.Chip.{Chip}
use Rattle.scene.specs.Numbers.{flag_at}
use Rattle.versions.specs.Versions.{byte_at, is_newest}
use Rattle.scene.specs.Decode.{beam_at, registers_at, irq_at, border_at, sprites_at, pointers_at, words_at, sprite_bytes_at, rows_at, bus_at, frame_at, pen_at, matrix_at, waits_at, side_at, picture_at, chip_at, fields_fine}
use Rattle.scene.specs.Encode.{encoded}
use Rattle.scene.specs.Saved.{Saved}
use Rattle.scene.proofs.Numbers.{word_back, flag_back, long_back, clock_back, count_back, flag_fine, place_back, place_fine_lem}
use Rattle.versions.proofs.Listed.{listed}

module _ (c : Chip) (s : Saved c) where
  beam : beam_at (encoded c) ≡ c.side.beam
  unfolding encoded
  beam = simp (word_back, flag_back)

  registers : registers_at (encoded c) ≡ c.regs
  unfolding encoded
  registers = simp (word_back, listed 0 c.regs.mx 8 s.mx, listed 0 c.regs.my 8 s.my, listed 0 c.regs.cols 8 s.cols, listed 0 c.regs.bg 4 s.bg)

  irq : irq_at (encoded c) ≡ c.side.irq
  unfolding encoded
  irq = simp flag_back

  border : border_at (encoded c) ≡ c.side.border
  unfolding encoded
  border = simp (word_back, flag_back)

  sprites : sprites_at (encoded c) ≡ c.side.sprites
  unfolding encoded sprite_at
  sprites =
      simp
      (mod-eq_of_lt (s.number 0), mod-eq_of_lt (s.number 1), mod-eq_of_lt (s.number 2), mod-eq_of_lt (s.number 3), mod-eq_of_lt (s.number 4), mod-eq_of_lt (s.number 5), mod-eq_of_lt (s.number 6), mod-eq_of_lt (s.number 7))
      (ap (λ (e : List Sprite). each≔ e c.side.sprites) (listed none c.side.sprites.each 8 s.each))

  pointers : pointers_at (encoded c) ≡ c.picture.pointers
  unfolding encoded
  pointers = listed 0 c.picture.pointers 8 s.pointers

  bytes : sprite_bytes_at (encoded c) ≡ c.picture.bytes
  unfolding encoded
  bytes = listed 0 c.picture.bytes 24 s.bytes

  words : words_at (encoded c) ≡ c.picture.words
  unfolding encoded
  words =
      simp
      (long_back (get_or c.picture.words 0 0) (s.word 0), long_back (get_or c.picture.words 1 0) (s.word 1), long_back (get_or c.picture.words 2 0) (s.word 2), long_back (get_or c.picture.words 3 0) (s.word 3), long_back (get_or c.picture.words 4 0) (s.word 4), long_back (get_or c.picture.words 5 0) (s.word 5), long_back (get_or c.picture.words 6 0) (s.word 6), long_back (get_or c.picture.words 7 0) (s.word 7))
      (listed 0 c.picture.words 8 s.words)

  rows : rows_at (encoded c) ≡ c.side.rows
  unfolding encoded
  rows = simp (word_back, flag_back)

  frame : frame_at (encoded c) ≡ c.side.frame
  unfolding encoded
  frame = simp flag_back

  bus : bus_at (encoded c) ≡ c.side.bus
  unfolding encoded
  bus = simp (flag_back, clock_back c.side.bus.clock s.clock, clock_back c.side.bus.fall s.fall, clock_back c.side.bus.rise s.rise, count_back c.side.bus.aec s.aec, mod-eq_of_lt s.lost)

  pen : pen_at (encoded c) ≡ c.picture.pen
  unfolding encoded
  pen = simp (word_back, flag_back, clock_back c.picture.pen.forced s.forced)

  matrix : matrix_at (encoded c) ≡ c.picture.matrix
  unfolding encoded matrix_at
  matrix = simp word_back (listed 0 c.picture.matrix 40 s.matrix)

  pending : waits_at (encoded c) ≡ c.side.pending
  unfolding encoded
  pending = ap waits (place_back c.side.pending.place s.place)

  changed : flag_at (encoded c) 259 ≡ c.side.changed
  unfolding encoded
  changed = flag_back c.side.changed

  refresh : byte_at (encoded c) 310 ≡ c.side.refresh
  unfolding encoded
  refresh = refl

  side : side_at (encoded c) ≡ c.side
  side =
      λ i.
      record {
        irq = irq i;
        beam = beam i;
        frame = frame i;
        border = border i;
        sprites = sprites i;
        bus = bus i;
        rows = rows i;
        pending = pending i;
        changed = changed i;
        refresh = refresh i;
      }

  picture : picture_at (encoded c) ≡ c.picture
  picture = λ i. record { pen = pen i; matrix = matrix i; pointers = pointers i; bytes = bytes i; words = words i }

  pub chip_back : chip_at (encoded c) ≡ c
  chip_back = λ i. record { regs = registers i; side = side i; picture = picture i }

  pub fields_fine_lem : fields_fine (encoded c) ≡ true
  unfolding encoded
  fields_fine_lem = simp (flag_fine, lt-ltb c.picture.pen.mode 8 s.mode, lt-ltb c.picture.pen.old 8 s.old, place_fine_lem c.side.pending.place s.place)

  pub newest : is_newest (encoded c) ≡ true
  unfolding encoded
  newest = refl
