-- The 311 bytes of a chip, part by part in the order of FORMATS, Scene: the newest version.
use Rattle.std.specs.Prelude.{ℕ, zero, suc, ◌+◌, ◌*◌, ◌/◌, ◌%◌, Bool, List, [], ◌∷◌, ◌++◌, ℤ, get_or, Option}
use Rattle.laws.specs.Bytes.{low_byte, high_byte}
use Rattle.registers.specs.declared.Irq.{Irq}
use Rattle.registers.specs.declared.Registers.{Registers}
use Rattle.timing.specs.declared.Beam.{Beam}
use Rattle.border.specs.declared.Border.{Border}
use Rattle.sprites.specs.declared.Sprite.{Sprite}
use Rattle.sprites.specs.declared.Sprites.{Sprites}
use Rattle.sprites.specs.Sprites.{sprite_at}
use Rattle.arbitration.specs.declared.Bus.{Bus}
use Rattle.raster.specs.declared.Frame.{Frame}
use Rattle.rows.specs.declared.Rows.{Rows}
use Rattle.side.specs.declared.Side.{Side}
use Rattle.picture.specs.declared.Pen.{Pen}
use Rattle.chip.specs.declared.Picture.{Picture}
use Rattle.chip.specs.declared.Chip.{Chip}
use Rattle.scene.specs.Numbers.{bits, bit_bytes, count_byte, flag_byte, place_byte}

-- head: 'N' 'P' 'S' and the version; then timing
abbrev pub head_bytes : Beam → List ℕ
head_bytes b =
    78 ∷ 80 ∷ 83 ∷ 5
    ∷ low_byte b.cycle ∷ high_byte b.cycle ∷ low_byte b.raster ∷ high_byte b.raster
    ∷ flag_byte b.den ∷ flag_byte b.rsel ∷ b.yscroll ∷ flag_byte b.bad ∷ flag_byte b.rising ∷ flag_byte b.ba ∷ []

abbrev pub eight : List ℕ → List ℕ → List ℕ
eight l rest =
    get_or l 0 0 ∷ get_or l 1 0 ∷ get_or l 2 0 ∷ get_or l 3 0 ∷ get_or l 4 0 ∷ get_or l 5 0 ∷ get_or l 6 0 ∷ get_or l 7 0 ∷ rest

abbrev pub register_bytes : Registers → List ℕ
register_bytes r =
    eight r.mx (eight r.my (eight r.cols
    (get_or r.bg 0 0 ∷ get_or r.bg 1 0 ∷ get_or r.bg 2 0 ∷ get_or r.bg 3 0
    ∷ r.msbx ∷ r.enable ∷ r.yexp ∷ r.xexp ∷ r.prio ∷ r.multi ∷ r.mc0 ∷ r.mc1
    ∷ r.ctrl1 ∷ r.ctrl2 ∷ low_byte r.compare ∷ high_byte r.compare ∷ r.ptrs ∷ r.border ∷ [])))

-- interrupt, border, sprite masks
abbrev pub mask_bytes : Irq → Border → Sprites → List ℕ
mask_bytes i b s =
    i.flags ∷ i.enable ∷ flag_byte i.line
    ∷ flag_byte b.vertical ∷ flag_byte b.main ∷ flag_byte b.old ∷ flag_byte b.disabled
    ∷ b.part40 ∷ b.part38 ∷ low_byte b.top ∷ high_byte b.top ∷ low_byte b.bottom ∷ high_byte b.bottom
    ∷ s.flip ∷ s.clear ∷ s.dma ∷ s.prev ∷ s.display ∷ s.vmatch ∷ []

-- a sprite: number, pointer, MC, MC base, 0 (02 (ix)), word, three bytes
abbrev pub sprite_bytes : Sprite → ℕ → ℕ → ℕ → ℕ → ℕ → List ℕ
sprite_bytes s pointer w b0 b1 b2 =
    s.number % 256 ∷ pointer ∷ s.mc ∷ s.base ∷ 0
    ∷ w % 256 ∷ w / 256 % 256 ∷ w / 65536 % 256 ∷ w / 16777216 % 256 ∷ b0 ∷ b1 ∷ b2 ∷ []

abbrev pub sprite_row : Sprites → Picture → ℕ → List ℕ
sprite_row s p k =
    sprite_bytes (sprite_at s k) (get_or p.pointers k 0) (get_or p.words k 0)
    (get_or p.bytes (3 * k) 0) (get_or p.bytes (3 * k + 1) 0) (get_or p.bytes (3 * k + 2) 0)

-- the first n sprites
abbrev pub sprite_rows : Sprites → Picture → ℕ → List ℕ
sprite_rows s p zero = []
sprite_rows s p (suc n) = sprite_rows s p n ++ sprite_row s p n

-- the first n entries of the matrix line
abbrev pub entry_bytes : List ℕ → ℕ → List ℕ
entry_bytes m zero = []
entry_bytes m (suc n) = entry_bytes m n ++ (low_byte (get_or m n 0) ∷ high_byte (get_or m n 0) ∷ [])

-- the rest, up to the AEC counter, which comes as its byte
abbrev pub rest_bytes : Rows → Bus → Bool → Pen → Bool → Frame → ℕ → List ℕ
rest_bytes r b changed p latch f aec =
    low_byte r.vc ∷ high_byte r.vc ∷ low_byte r.vcbase ∷ high_byte r.vcbase ∷ r.rc ∷ r.vmli
    ∷ flag_byte b.balow ∷ flag_byte b.aeclow ∷ flag_byte changed
    ∷ flag_byte r.display ∷ flag_byte r.transition ∷ flag_byte r.access
    ∷ p.mode ∷ p.old ∷ flag_byte p.changing ∷ low_byte p.ch ∷ high_byte p.ch ∷ low_byte p.carry ∷ high_byte p.carry ∷ p.gfx
    ∷ flag_byte latch ∷ flag_byte f.ending ∷ flag_byte f.matched ∷ aec ∷ []

abbrev pub rest_of : Side → Pen → List ℕ
rest_of s p = rest_bytes s.rows s.bus s.changed p s.beam.latch s.frame (count_byte s.bus.aec)

abbrev pub clock_bytes : ℤ → List ℕ
clock_bytes z = bit_bytes (bits z)

abbrev pub clocks_bytes : Bus → ℤ → List ℕ
clocks_bytes b forced = clock_bytes b.fall ++ clock_bytes b.rise ++ clock_bytes forced ++ clock_bytes b.clock

-- pending place; 02 (iv): the kind; 02 (xi): the lost cycles; 02 (xiv): the refresh counter
abbrev pub tail_bytes : Option ℕ → ℕ → ℕ → ℕ → List ℕ
tail_bytes place kind lost refresh = place_byte place ∷ kind ∷ lost % 256 ∷ refresh ∷ []

unfoldable pub encoded : Chip → List ℕ
encoded c =
    head_bytes c.side.beam
    ++ register_bytes c.regs
    ++ mask_bytes c.side.irq c.side.border c.side.sprites
    ++ sprite_rows c.side.sprites c.picture 8
    ++ entry_bytes c.picture.matrix 40
    ++ rest_of c.side c.picture.pen
    ++ clocks_bytes c.side.bus c.picture.pen.forced
    ++ tail_bytes c.side.pending.place c.side.beam.kind c.side.bus.lost c.side.refresh
