-- What the 311 bytes of the newest version hold, field by field in the order of FORMATS, Scene, and which bytes are a scene.
use Rattle.std.specs.Prelude.{ℕ, zero, suc, ◌+◌, ◌*◌, Bool, ◌&&◌, ◌||◌, cond, List, [], ◌∷◌, ◌++◌, eqb, ltb, Result, Ok, Err}
use Rattle.registers.specs.declared.Irq.{Irq}
use Rattle.registers.specs.declared.Registers.{Registers}
use Rattle.timing.specs.declared.Beam.{Beam}
use Rattle.border.specs.declared.Border.{Border}
use Rattle.sprites.specs.declared.Sprite.{Sprite}
use Rattle.sprites.specs.declared.Sprites.{Sprites}
use Rattle.arbitration.specs.declared.Bus.{Bus}
use Rattle.raster.specs.declared.Frame.{Frame}
use Rattle.rows.specs.declared.Rows.{Rows}
use Rattle.rows.specs.declared.Waits.{Waits}
use Rattle.rows.specs.Pending.{waits}
use Rattle.side.specs.declared.Side.{Side}
use Rattle.picture.specs.declared.Pen.{Pen}
use Rattle.chip.specs.declared.Picture.{Picture}
use Rattle.chip.specs.declared.Chip.{Chip}
use Rattle.chip.specs.Chip.{powered}
use Rattle.scene.specs.declared.NoScene.{NoScene}
use Rattle.scene.specs.Numbers.{word_at, long_at, clock_at, flag_at, aec_of, pending_of}
use Rattle.versions.specs.Versions.{byte_at, is_flag, sprite_flags, is_newest, renewed}

abbrev pub eight_at : List ℕ → ℕ → List ℕ
eight_at s i =
    byte_at s i ∷ byte_at s (i + 1) ∷ byte_at s (i + 2) ∷ byte_at s (i + 3) ∷ byte_at s (i + 4) ∷ byte_at s (i + 5) ∷ byte_at s (i + 6) ∷ byte_at s (i + 7) ∷ []

-- timing, from 4; 02 (iv): the kind, at 308
abbrev pub beam_at : List ℕ → Beam
beam_at s =
    record {
      kind = byte_at s 308;
      cycle = word_at s 4;
      raster = word_at s 6;
      den = flag_at s 8;
      rsel = flag_at s 9;
      yscroll = byte_at s 10;
      latch = flag_at s 271;
      bad = flag_at s 11;
      rising = flag_at s 12;
      ba = flag_at s 13;
    }

-- registers, from 14
abbrev pub registers_at : List ℕ → Registers
registers_at s =
    record {
      mx = eight_at s 14;
      my = eight_at s 22;
      cols = eight_at s 30;
      bg = byte_at s 38 ∷ byte_at s 39 ∷ byte_at s 40 ∷ byte_at s 41 ∷ [];
      msbx = byte_at s 42;
      enable = byte_at s 43;
      yexp = byte_at s 44;
      xexp = byte_at s 45;
      prio = byte_at s 46;
      multi = byte_at s 47;
      mc0 = byte_at s 48;
      mc1 = byte_at s 49;
      ctrl1 = byte_at s 50;
      ctrl2 = byte_at s 51;
      compare = word_at s 52;
      ptrs = byte_at s 54;
      border = byte_at s 55;
    }

-- interrupt, from 56
abbrev pub irq_at : List ℕ → Irq
irq_at s = record { flags = byte_at s 56; enable = byte_at s 57; line = flag_at s 58 }

-- border, from 59
abbrev pub border_at : List ℕ → Border
border_at s =
    record {
      vertical = flag_at s 59;
      main = flag_at s 60;
      old = flag_at s 61;
      disabled = flag_at s 62;
      part40 = byte_at s 63;
      part38 = byte_at s 64;
      top = word_at s 65;
      bottom = word_at s 67;
    }

-- a sprite, twelve bytes from i: its pointer, its word and its bytes go to the picture
abbrev pub sprite_from : List ℕ → ℕ → Sprite
sprite_from s i = record { number = byte_at s i; mc = byte_at s (i + 2); base = byte_at s (i + 3) }

-- sprite masks from 69, and eight sprites from 75
abbrev pub sprites_at : List ℕ → Sprites
sprites_at s =
    record {
      each =
          sprite_from s 75 ∷ sprite_from s 87 ∷ sprite_from s 99 ∷ sprite_from s 111 ∷ sprite_from s 123 ∷ sprite_from s 135 ∷ sprite_from s 147 ∷ sprite_from s 159 ∷ [];
      flip = byte_at s 69;
      clear = byte_at s 70;
      dma = byte_at s 71;
      prev = byte_at s 72;
      display = byte_at s 73;
      vmatch = byte_at s 74;
    }

abbrev pub pointers_at : List ℕ → List ℕ
pointers_at s =
    byte_at s 76 ∷ byte_at s 88 ∷ byte_at s 100 ∷ byte_at s 112 ∷ byte_at s 124 ∷ byte_at s 136 ∷ byte_at s 148 ∷ byte_at s 160 ∷ []

abbrev pub words_at : List ℕ → List ℕ
words_at s =
    long_at s 80 ∷ long_at s 92 ∷ long_at s 104 ∷ long_at s 116 ∷ long_at s 128 ∷ long_at s 140 ∷ long_at s 152 ∷ long_at s 164 ∷ []

abbrev pub sprite_bytes_at : List ℕ → List ℕ
sprite_bytes_at s =
    byte_at s 84 ∷ byte_at s 85 ∷ byte_at s 86
    ∷ byte_at s 96 ∷ byte_at s 97 ∷ byte_at s 98
    ∷ byte_at s 108 ∷ byte_at s 109 ∷ byte_at s 110
    ∷ byte_at s 120 ∷ byte_at s 121 ∷ byte_at s 122
    ∷ byte_at s 132 ∷ byte_at s 133 ∷ byte_at s 134
    ∷ byte_at s 144 ∷ byte_at s 145 ∷ byte_at s 146
    ∷ byte_at s 156 ∷ byte_at s 157 ∷ byte_at s 158
    ∷ byte_at s 168 ∷ byte_at s 169 ∷ byte_at s 170 ∷ []

-- the first n entries of the matrix line, from 171
abbrev pub entries : List ℕ → ℕ → List ℕ
entries s zero = []
entries s (suc n) = entries s n ++ (word_at s (171 + 2 * n) ∷ [])

unfoldable pub matrix_at : List ℕ → List ℕ
matrix_at s = entries s 40

-- the rest, from 251
abbrev pub rows_at : List ℕ → Rows
rows_at s =
    record {
      vc = word_at s 251;
      vcbase = word_at s 253;
      rc = byte_at s 255;
      vmli = byte_at s 256;
      display = flag_at s 260;
      transition = flag_at s 261;
      access = flag_at s 262;
    }

-- 02 (xi): the lost cycles, at 309
abbrev pub bus_at : List ℕ → Bus
bus_at s =
    record {
      clock = clock_at s 299;
      fall = clock_at s 275;
      rise = clock_at s 283;
      aec = aec_of (byte_at s 274);
      balow = flag_at s 257;
      aeclow = flag_at s 258;
      lost = byte_at s 309;
    }

abbrev pub frame_at : List ℕ → Frame
frame_at s = record { ending = flag_at s 272; matched = flag_at s 273 }

abbrev pub pen_at : List ℕ → Pen
pen_at s =
    record {
      ch = word_at s 266;
      carry = word_at s 268;
      gfx = byte_at s 270;
      mode = byte_at s 263;
      old = byte_at s 264;
      changing = flag_at s 265;
      forced = clock_at s 291;
    }

abbrev pub waits_at : List ℕ → Waits
waits_at s = waits (pending_of (byte_at s 307))

-- 02 (xiv): the refresh counter, last
abbrev pub side_at : List ℕ → Side
side_at s =
    record {
      irq = irq_at s;
      beam = beam_at s;
      frame = frame_at s;
      border = border_at s;
      sprites = sprites_at s;
      bus = bus_at s;
      rows = rows_at s;
      pending = waits_at s;
      changed = flag_at s 259;
      refresh = byte_at s 310;
    }

abbrev pub picture_at : List ℕ → Picture
picture_at s =
    record { pen = pen_at s; matrix = matrix_at s; pointers = pointers_at s; bytes = sprite_bytes_at s; words = words_at s }

abbrev pub chip_at : List ℕ → Chip
chip_at s = record { regs = registers_at s; side = side_at s; picture = picture_at s }

-- FORMATS, Scene: not a scene is another length, head or version; a flag above 1; a mode above 7; a pending place that is neither 255 nor 0 to 39

abbrev pub head_fine : List ℕ → Bool
head_fine s = eqb (byte_at s 0) 78 && eqb (byte_at s 1) 80 && eqb (byte_at s 2) 83

abbrev pub early_flags : List ℕ → Bool
early_flags s =
    is_flag s 8 && is_flag s 9 && is_flag s 11 && is_flag s 12 && is_flag s 13 && is_flag s 58 && is_flag s 59 && is_flag s 60 && is_flag s 61 && is_flag s 62

-- 02 (ix): what was a sprite's flag is 0
abbrev pub sprites_clear : List ℕ → Bool
sprites_clear s =
    eqb (byte_at s 79) 0 && eqb (byte_at s 91) 0 && eqb (byte_at s 103) 0 && eqb (byte_at s 115) 0 && eqb (byte_at s 127) 0 && eqb (byte_at s 139) 0 && eqb (byte_at s 151) 0 && eqb (byte_at s 163) 0

abbrev pub late_flags : List ℕ → Bool
late_flags s =
    is_flag s 257 && is_flag s 258 && is_flag s 259 && is_flag s 260 && is_flag s 261 && is_flag s 262 && is_flag s 265 && is_flag s 271 && is_flag s 272 && is_flag s 273

abbrev pub ranges_fine : List ℕ → Bool
ranges_fine s = ltb (byte_at s 263) 8 && ltb (byte_at s 264) 8 && (eqb (byte_at s 307) 255 || ltb (byte_at s 307) 40)

abbrev pub fields_fine : List ℕ → Bool
fields_fine s = head_fine s && early_flags s && sprites_clear s && late_flags s && ranges_fine s

-- of versions 1 and 2: a sprite's flag is 0 or 1
abbrev pub older_fine : List ℕ → Bool
older_fine s = head_fine s && early_flags s && sprite_flags s && late_flags s && ranges_fine s

-- what else comes out: the chip at power-up
abbrev pub no_scene : Result Chip NoScene
no_scene = Err (record { chip = powered 0 })

unfoldable pub decoded_fields : List ℕ → Result Chip NoScene
decoded_fields s = cond (fields_fine s) (Ok (chip_at s)) no_scene

unfoldable pub decoded_newest : List ℕ → Result Chip NoScene
decoded_newest s = cond (is_newest s) (decoded_fields s) no_scene

-- 02 (iv), 02 (ix), 02 (xi), 02 (xiv): every version is read
unfoldable pub decoded : List ℕ → Result Chip NoScene
decoded s = decoded_newest (renewed s)
