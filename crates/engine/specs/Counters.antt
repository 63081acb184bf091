-- The sprites' counters over a line in the code's own words: number by number, the eight masks at once. No rules: `proofs/Counters.antt` has them from the line's definition.
use Rattle.std.specs.Prelude.{ℕ, ◌-◌, ◌%◌, ◌<◌, ◌≡◌, Bool, true, false, ◌&&◌, cond, List, [], ◌∷◌, eqb, length, get_or}
use Rattle.std.specs.Int.Bits.{bit_and, bit_or, bit_xor}
use Rattle.laws.specs.Bits.{has_bit}
use Rattle.laws.specs.Pick.{pick}
use Rattle.schedule.specs.Kind.{Kind, the6569, the6567_r8}
use Rattle.sprites.specs.declared.Sprite.{Sprite}
use Rattle.sprites.specs.declared.Sprites.{Sprites}
use Rattle.sprites.specs.Set.{sprite_mc≔, each≔}
use Rattle.sprites.specs.Sprites.{sprite_at, next_base, mc_moved}
use Rattle.lines.specs.Sprites.{sprites_loaded, sprites_line}
use Rattle.engine.specs.declared.Counted.{Counted}

-- what an array of eight and bytes tell of the sprites by their types
pub record Sound (s : Sprites) : Type 0 where
  pub eight : length s.each ≡ 8
  pub flip : s.flip < 256
  pub dma : s.dma < 256
  pub display : s.display < 256

-- MC after some bytes
abbrev pub moved_by : Bool → ℕ → ℕ → ℕ
moved_by on bytes mc = mc_moved on bytes mc

-- a sprite's base after the step of MCBASE, with the bytes of its slots before it
abbrev pub base_by : Sprites → ℕ → Bool → ℕ → ℕ
base_by s k early bytes =
    next_base (has_bit s.flip k) (has_bit s.clear k) (sprite_at s k).base (moved_by (has_bit s.dma k && early) bytes (sprite_at s k).mc)

-- the bytes of sprite 3 as a line begins, and whether its pointer slot is where it ends
abbrev pub early3 : Kind → ℕ
early3 the6569 = 3
early3 the6567_r8 = 2

abbrev pub late3 : Kind → Bool
late3 the6569 = false
late3 the6567_r8 = true

abbrev pub bases_of : Kind → Sprites → List ℕ
bases_of k s =
    base_by s 0 false 0
    ∷ base_by s 1 false 0
    ∷ base_by s 2 false 0
    ∷ base_by s 3 true (early3 k)
    ∷ base_by s 4 true 3
    ∷ base_by s 5 true 3
    ∷ base_by s 6 true 3
    ∷ base_by s 7 true 3
    ∷ []

-- eight tests as a mask
unfoldable pub mask_of : Bool → Bool → Bool → Bool → Bool → Bool → Bool → Bool → ℕ
mask_of c0 c1 c2 c3 c4 c5 c6 c7 =
    bit_or (bit_or (bit_or (bit_or (bit_or (bit_or (bit_or (cond c0 1 0) (cond c1 2 0)) (cond c2 4 0)) (cond c3 8 0)) (cond c4 16 0)) (cond c5 32 0)) (cond c6 64 0)) (cond c7 128 0)

-- the sprites whose byte is y, and those whose base is that of their last row
abbrev pub equal_of : List ℕ → ℕ → ℕ
equal_of bytes y = mask_of (eqb (get_or bytes 0 0) y) (eqb (get_or bytes 1 0) y) (eqb (get_or bytes 2 0) y) (eqb (get_or bytes 3 0) y) (eqb (get_or bytes 4 0) y) (eqb (get_or bytes 5 0) y) (eqb (get_or bytes 6 0) y) (eqb (get_or bytes 7 0) y)

abbrev pub ending_of : List ℕ → ℕ
ending_of bases = equal_of bases 63

-- a sprite after the comparisons and the load of MC
abbrev pub settled_by : Sprites → ℕ → ℕ → ℕ → Sprite
settled_by s k starts base = record { number = (sprite_at s k).number; mc = pick (has_bit starts k) 0 base; base = pick (has_bit starts k) 0 base }

module _ (s : Sprites) (bases : List ℕ) (raster : ℕ) (my : List ℕ) (enable yexp : ℕ) where
  abbrev pub meets_of : ℕ
  meets_of = bit_and enable (equal_of my (raster % 256))

  abbrev pub stays_of : ℕ
  stays_of = bit_and s.dma (255 - ending_of bases)

  abbrev pub starts_of : ℕ
  starts_of = bit_and meets_of (255 - stays_of)

  abbrev pub dma_of : ℕ
  dma_of = bit_or stays_of meets_of

  -- what the load of MC leaves
  abbrev pub settled_of : Sprites
  settled_of =
      record {
        each =
            settled_by s 0 starts_of (get_or bases 0 0)
            ∷ settled_by s 1 starts_of (get_or bases 1 0)
            ∷ settled_by s 2 starts_of (get_or bases 2 0)
            ∷ settled_by s 3 starts_of (get_or bases 3 0)
            ∷ settled_by s 4 starts_of (get_or bases 4 0)
            ∷ settled_by s 5 starts_of (get_or bases 5 0)
            ∷ settled_by s 6 starts_of (get_or bases 6 0)
            ∷ settled_by s 7 starts_of (get_or bases 7 0)
            ∷ [];
        flip = bit_and (bit_xor s.flip yexp) (255 - bit_and starts_of yexp);
        clear = 0;
        dma = dma_of;
        prev = dma_of;
        display = bit_and (bit_or s.display meets_of) dma_of;
        vmatch = 0;
      }

-- a sprite after the bytes of its slots at the line's end
abbrev pub incremented_by : Sprites → ℕ → Bool → ℕ → Sprite
incremented_by s k late bytes = sprite_mc≔ (moved_by (has_bit s.dma k && late) bytes (sprite_at s k).mc) (sprite_at s k)

-- after the slots of sprites 0 to 2, and sprite 3's pointer slot where it is there
abbrev pub incremented_of : Bool → Sprites → Sprites
incremented_of third s =
    each≔
    (incremented_by s 0 true 3
    ∷ incremented_by s 1 true 3
    ∷ incremented_by s 2 true 3
    ∷ incremented_by s 3 third 1
    ∷ sprite_at s 4
    ∷ sprite_at s 5
    ∷ sprite_at s 6
    ∷ sprite_at s 7
    ∷ [])
    s

-- what a line leaves of the sprites, and before it what the load of MC leaves
abbrev pub counted_of : Kind → ℕ → List ℕ → ℕ → ℕ → Sprites → Counted
counted_of k raster my enable yexp s = record { loaded = sprites_loaded k raster my enable yexp s; after = sprites_line k raster my enable yexp s }
