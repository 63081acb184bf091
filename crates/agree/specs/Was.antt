-- 02 (ix): the sprites as they were, with a flag each beside the mask, rule by rule. What did not look at the flags is the rule that stands today.
use Rattle.std.specs.Prelude.{ℕ, zero, suc, ◌+◌, ◌%◌, Bool, not, ◌&&◌, ◌||◌, cond, List, eqb, get_or}
use Rattle.std.specs.Int.Bits.{bit_xor}
use Rattle.laws.specs.Bits.{has_bit, with_bit, without_bit}
use Rattle.memory.specs.Memory.{read_at}
use Rattle.schedule.specs.Kind.{Kind}
use Rattle.schedule.specs.Diagram.{happens, mcbase_step, first_phase, second_phase, mc_load}
use Rattle.sprites.specs.declared.Sprites.{Sprites}
use Rattle.sprites.specs.Set.{sprite_mc≔, sprite_base≔, dma≔, flip≔, clear≔, prev≔, vmatch≔}
use Rattle.sprites.specs.Sprites.{all_fresh, sprite_at, sprite_at≔, next_base, starts, dma_begun, mc_loaded, expand_written}
use Rattle.access.specs.Slots.{byte_address, or_open}

-- the sprites, and the eight flags, sprite k's at bit k
pub record Flagged : Type 0 where
  pub sprites : Sprites
  pub flags : ℕ

-- a rule that left the flags alone
abbrev pub kept : (Sprites → Sprites) → Flagged → Flagged
kept f x = record { sprites = f x.sprites; flags = x.flags }

unfoldable pub up_to_was : (ℕ → Flagged → Flagged) → ℕ → Flagged → Flagged
up_to_was one zero x = x
up_to_was one (suc n) x = one n (up_to_was one n x)

-- power-up: no sprite fetches
unfoldable pub fresh_was : Flagged
fresh_was = record { sprites = all_fresh; flags = 0 }

-- base 63 ended the flag; the mask lost a sprite wherever its flag was off
unfoldable pub step_one_was : ℕ → Flagged → Flagged
step_one_was k x =
    let s = x.sprites in
    let base = next_base (has_bit s.flip k) (has_bit s.clear k) (sprite_at s k).base (sprite_at s k).mc in
    let flag = has_bit x.flags k && not (eqb base 63) in
    record {
      sprites = dma≔ (cond flag s.dma (without_bit s.dma k)) (sprite_at≔ k (sprite_base≔ base (sprite_at s k)) s);
      flags = cond flag x.flags (without_bit x.flags k);
    }

unfoldable pub mcbase_stepped_was : Flagged → Flagged
mcbase_stepped_was x = kept (λ s. clear≔ 0 s) (up_to_was step_one_was 8 (kept (λ s. prev≔ s.dma s) x))

-- a start went by the mask, and set both
unfoldable pub start_one_was : ℕ → ℕ → ℕ → ℕ → ℕ → Flagged → Flagged
start_one_was line enable yexp k y x =
    cond (starts line enable k y x.sprites) (record { sprites = dma_begun k yexp x.sprites; flags = with_bit x.flags k }) x

abbrev pub start_at_was : ℕ → List ℕ → ℕ → ℕ → ℕ → Flagged → Flagged
start_at_was line my enable yexp k x = start_one_was line enable yexp k (get_or my k 0) x

unfoldable pub started_was : ℕ → List ℕ → ℕ → ℕ → Flagged → Flagged
started_was line my enable yexp x = up_to_was (start_at_was line my enable yexp) 8 x

unfoldable pub first_phased_was : ℕ → List ℕ → ℕ → ℕ → Flagged → Flagged
first_phased_was raster my enable yexp x =
    started_was (raster % 256) my enable yexp (kept (λ s. flip≔ (bit_xor s.flip yexp) (vmatch≔ 0 (prev≔ s.dma s))) x)

unfoldable pub second_phased_was : ℕ → List ℕ → ℕ → ℕ → Flagged → Flagged
second_phased_was raster my enable yexp x = started_was (raster % 256) my enable yexp (kept (λ s. prev≔ s.dma s) x)

-- each in its cycle
unfoldable pub phased_was : Kind → ℕ → ℕ → List ℕ → ℕ → ℕ → Flagged → Flagged
phased_was k cycle raster my enable yexp x =
    let stepped = cond (happens mcbase_step cycle) (mcbase_stepped_was x) x in
    let first = cond (happens (first_phase k) cycle) (first_phased_was raster my enable yexp stepped) stepped in
    let second = cond (happens (second_phase k) cycle) (second_phased_was raster my enable yexp first) first in
    cond (happens (mc_load k) cycle) (kept (mc_loaded raster my enable) second) second

-- MC moved on under the mask and the flag
unfoldable pub fetched_was : ℕ → ℕ → Flagged → Flagged
fetched_was k bytes x =
    cond (has_bit x.sprites.dma k && has_bit x.flags k)
    (kept (λ s. sprite_at≔ k (sprite_mc≔ (((sprite_at s k).mc + bytes) % 64) (sprite_at s k)) s) x)
    x

unfoldable pub slot_moved_was : Bool → Bool → ℕ → Flagged → Flagged
slot_moved_was pointing fetching n x = cond pointing (fetched_was n 1 x) (cond fetching (fetched_was n 2 x) x)

-- the bytes of a slot: byte 2 went by the mask and the flag, as today by the mask; byte 1 and byte 0 by the two apart
unfoldable pub byte_one_was : List ℕ → ℕ → Bool → Bool → ℕ → Bool → List ℕ → List ℕ → ℕ → ℕ
byte_one_was pointers k mask flag mc low ram rom bank =
    or_open (not mask || flag || low) (read_at ram rom bank (byte_address (mask && flag) (get_or pointers k 0) mc)).byte

unfoldable pub byte_zero_was : List ℕ → ℕ → Bool → Bool → ℕ → Bool → List ℕ → List ℕ → ℕ → ℕ
byte_zero_was pointers k mask flag mc low ram rom bank =
    or_open ((mask && flag) || low) (read_at ram rom bank (byte_address (mask && flag) (get_or pointers k 0) (mc % 64 + 1))).byte
