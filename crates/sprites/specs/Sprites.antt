-- The sprites' counters (Bauer 3.8.1), each rule for one sprite and then for all eight.
use Rattle.std.specs.Prelude.{ℕ, zero, suc, ◌+◌, ◌-◌, ◌%◌, ◌^◌, Bool, true, false, not, ◌&&◌, ◌||◌, cond, List, [], ◌∷◌, eqb, get_or, set}
use Rattle.std.specs.Int.Bits.{bit_and, bit_or, bit_xor}
use Rattle.laws.specs.Bits.{has_bit, with_bit, without_bit}
use Rattle.schedule.specs.Kind.{Kind}
use Rattle.schedule.specs.Diagram.{happens, crunch, first_phase}
use Rattle.sprites.specs.declared.Sprite.{Sprite}
use Rattle.sprites.specs.declared.Sprites.{Sprites}
use Rattle.sprites.specs.Set.{sprite_mc≔, sprite_base≔, each≔, flip≔, clear≔, dma≔, prev≔, display≔, vmatch≔}

-- 01, power-up: sprite k numbered k, expansion flip 0xFF, all else 0 and off
unfoldable pub fresh : ℕ → Sprite
fresh k = record { number = k; mc = 0; base = 0 }

unfoldable pub all_fresh : Sprites
all_fresh =
    record {
      each = fresh 0 ∷ fresh 1 ∷ fresh 2 ∷ fresh 3 ∷ fresh 4 ∷ fresh 5 ∷ fresh 6 ∷ fresh 7 ∷ [];
      flip = 0xFF;
      clear = 0;
      dma = 0;
      prev = 0;
      display = 0;
      vmatch = 0;
    }

abbrev pub none : Sprite
none = record { number = 0; mc = 0; base = 0 }

unfoldable pub sprite_at : Sprites → ℕ → Sprite
sprite_at s k = get_or s.each k none

abbrev pub sprite_at≔ : ℕ → Sprite → Sprites → Sprites
sprite_at≔ k v s = each≔ (set s.each k v) s

-- the first n sprites, one after the other
unfoldable pub up_to : (ℕ → Sprites → Sprites) → ℕ → Sprites → Sprites
up_to one zero s = s
up_to one (suc n) s = one n (up_to one n s)

-- The MCBASE step, once a line. Bauer 3.8.1 rules 7 and 8 add 2 and then 1; departs, DIFFERENCES 3: the base takes MC

-- 01, Sprite counters: while clearing is pending the two counters meet bit by bit
abbrev pub in_either : ℕ → ℕ → ℕ → ℕ
in_either n a b = cond (has_bit a n || has_bit b n) (2 ^ n) 0

abbrev pub in_both : ℕ → ℕ → ℕ → ℕ
in_both n a b = cond (has_bit a n && has_bit b n) (2 ^ n) 0

unfoldable pub crunched : ℕ → ℕ → ℕ
crunched base mc =
    in_either 0 base mc + in_both 1 base mc + in_either 2 base mc + in_both 3 base mc + in_either 4 base mc + in_both 5 base mc

-- 01, Sprite counters: flip clear keeps the base; flip set takes MC, or the crunch while clearing is pending
unfoldable pub next_base : Bool → Bool → ℕ → ℕ → ℕ
next_base flip clearing base mc = cond flip (cond clearing (crunched base mc) mc) base

-- Bauer 3.8.1 rule 8: base 63 ends DMA
unfoldable pub mask_after : ℕ → ℕ → ℕ → ℕ
mask_after mask k base = cond (eqb base 63) (without_bit mask k) mask

-- DECISIONS 4: with or without DMA
unfoldable pub step_one : ℕ → Sprites → Sprites
step_one k s =
    let base = next_base (has_bit s.flip k) (has_bit s.clear k) (sprite_at s k).base (sprite_at s k).mc in
    dma≔ (mask_after s.dma k base) (sprite_at≔ k (sprite_base≔ base (sprite_at s k)) s)

unfoldable pub mcbase_stepped : Sprites → Sprites
mcbase_stepped s = clear≔ 0 (up_to step_one 8 (prev≔ s.dma s))

-- The start of DMA

-- Bauer 3.8.1 rule 3: enabled, Y equal to the low eight bits of the raster, DMA still off
abbrev pub starts : ℕ → ℕ → ℕ → ℕ → Sprites → Bool
starts line enable k y s = not (has_bit s.dma k) && has_bit enable k && eqb y line

-- Bauer 3.8.1 rule 3: DMA on, MCBASE 0, and with MxYE set the flip-flop is reset
unfoldable pub dma_begun : ℕ → ℕ → Sprites → Sprites
dma_begun k yexp s =
    flip≔ (cond (has_bit yexp k) (without_bit s.flip k) s.flip)
    (dma≔ (with_bit s.dma k) (sprite_at≔ k (sprite_base≔ 0 (sprite_at s k)) s))

unfoldable pub start_one : ℕ → ℕ → ℕ → ℕ → ℕ → Sprites → Sprites
start_one line enable yexp k y s = cond (starts line enable k y s) (dma_begun k yexp s) s

abbrev pub start_at : ℕ → List ℕ → ℕ → ℕ → ℕ → Sprites → Sprites
start_at line my enable yexp k s = start_one line enable yexp k (get_or my k 0) s

unfoldable pub started : ℕ → List ℕ → ℕ → ℕ → Sprites → Sprites
started line my enable yexp s = up_to (start_at line my enable yexp) 8 s

-- Bauer 3.8.1 rules 2 and 3: the flip-flops of the expanded are inverted, then the comparison
unfoldable pub first_phased : ℕ → List ℕ → ℕ → ℕ → Sprites → Sprites
first_phased raster my enable yexp s =
    started (raster % 256) my enable yexp (flip≔ (bit_xor s.flip yexp) (vmatch≔ 0 (prev≔ s.dma s)))

-- Bauer 3.8.1 rule 3: the comparison again
unfoldable pub second_phased : ℕ → List ℕ → ℕ → ℕ → Sprites → Sprites
second_phased raster my enable yexp s = started (raster % 256) my enable yexp (prev≔ s.dma s)

-- Bauer 3.8.1 rule 4: MC takes MCBASE
unfoldable pub load_one : ℕ → Sprites → Sprites
load_one k s = sprite_at≔ k (sprite_mc≔ (sprite_at s k).base (sprite_at s k)) s

unfoldable pub loaded : Sprites → Sprites
loaded s = up_to load_one 8 s

-- Bauer 3.8.1 rule 4: DMA on and Y equal: display on; departs, DIFFERENCES 4: it also wants the enable bit
unfoldable pub show_one : ℕ → ℕ → ℕ → ℕ → Sprites → Sprites
show_one line enable k y s =
    cond (has_bit s.dma k && has_bit enable k && eqb y line) (display≔ (with_bit s.display k) s) s

abbrev pub show_at : ℕ → List ℕ → ℕ → ℕ → Sprites → Sprites
show_at line my enable k s = show_one line enable k (get_or my k 0) s

unfoldable pub shown : ℕ → List ℕ → ℕ → Sprites → Sprites
shown line my enable s = up_to (show_at line my enable) 8 s

-- departs, DIFFERENCES 4: display is masked by DMA here, not turned off where DMA ends
unfoldable pub mc_loaded : ℕ → List ℕ → ℕ → Sprites → Sprites
mc_loaded raster my enable s =
    let t = loaded s in
    shown (raster % 256) my enable (display≔ (bit_and t.display t.dma) t)

-- The Y-expand write. Bauer 3.8.1 rule 1 holds the flip-flop set as long as MxYE is clear; departs, DIFFERENCES 5

-- DECISIONS 6: in the crunch cycle, pending where neither the value nor the flip-flop is set
unfoldable pub clear_after : ℕ → ℕ → ℕ → ℕ → ℕ
clear_after value cycle old flip = cond (happens crunch cycle) (255 - bit_or value flip) old

-- DECISIONS 6: in the first DMA phase it stays set only where the old bit was set or the new one is clear
unfoldable pub flip_after : Kind → ℕ → ℕ → ℕ → ℕ → ℕ
flip_after k value cycle old flip =
    bit_or (cond (happens (first_phase k) cycle) (bit_and flip (bit_or old (255 - value))) flip) (255 - value)

unfoldable pub expand_written : Kind → ℕ → ℕ → ℕ → Sprites → Sprites
expand_written k value cycle old s =
    flip≔ (flip_after k value cycle old s.flip) (clear≔ (clear_after value cycle s.clear s.flip) s)

-- A slot's bytes

-- Bauer 3.8.1 rule 5: with DMA on, MC up by one after each byte, mod 64
abbrev pub mc_moved : Bool → ℕ → ℕ → ℕ
mc_moved on bytes mc = cond on ((mc + bytes) % 64) mc

-- a slot's bytes move its sprite's own MC on. Bauer 3.8.1 rule 5: with DMA on, MC up by one after each byte, mod 64
unfoldable pub fetched : ℕ → ℕ → Sprites → Sprites
fetched k bytes s =
    cond (has_bit s.dma k) (sprite_at≔ k (sprite_mc≔ (((sprite_at s k).mc + bytes) % 64) (sprite_at s k)) s) s
