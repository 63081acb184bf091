-- Where a graphics access reads (Bauer 3.7.3). VC counts in ten bits.
use Rattle.std.specs.Prelude.{ℕ, ◌+◌, ◌*◌, ◌/◌, ◌%◌, Bool, not, ◌&&◌, ◌||◌, cond, eqb}
use Rattle.laws.specs.Pointers.{character_base, bitmap_base}
use Rattle.memory.specs.Memory.{in_rom}

-- 01, tick 6: the bits of a mode number, 4·ECM + 2·BMM + MCM
abbrev pub ecm : ℕ → Bool
ecm mode = eqb (mode / 4 % 2) 1

abbrev pub bmm : ℕ → Bool
bmm mode = eqb (mode / 2 % 2) 1

abbrev pub mcm : ℕ → Bool
mcm mode = eqb (mode % 2) 1

-- Bauer 3.7.3.5: ECM holds address bits 9 and 10 at 0
unfoldable pub ecm_masked : Bool → ℕ → ℕ
ecm_masked on address = cond on (address / 2048 * 2048 + address % 512) address

-- Bauer 3.7.3.1: CB13 to CB11, the character code, RC
unfoldable pub text_address : ℕ → ℕ → ℕ → ℕ
text_address ptrs ch rc = character_base ptrs + ch % 256 * 8 + rc

-- Bauer 3.7.3.3: CB13, VC, RC
unfoldable pub bitmap_address : ℕ → ℕ → ℕ → ℕ
bitmap_address ptrs vc rc = bitmap_base ptrs + vc % 0x400 * 8 + rc

unfoldable pub plain_address : ℕ → ℕ → ℕ → ℕ → ℕ → ℕ
plain_address mode ptrs ch vc rc =
    cond (bmm mode) (ecm_masked (ecm mode) (bitmap_address ptrs vc rc)) (ecm_masked (ecm mode) (text_address ptrs ch rc))

-- fetch.rs; departs, DIFFERENCES 11: the first access after BMM fell still has the bitmap's counter, in ROM its low byte alone
unfoldable pub bmm_fell : Bool → ℕ → ℕ → ℕ → ℕ → ℕ → ℕ
bmm_fell fell ptrs vc rc bank address =
    let bitmap = bitmap_address ptrs vc rc in
    cond fell (cond (in_rom bank address) (address / 256 * 256 + bitmap % 256) bitmap) address

-- fetch.rs; departs, DIFFERENCES 11: the first access after ECM fell still has its mask, in a bitmap newly begun or multicoloured and in ROM
unfoldable pub ecm_fell : Bool → Bool → ℕ → ℕ → ℕ
ecm_fell fell into_bitmap bank address = ecm_masked (fell && (into_bitmap || in_rom bank address)) address

-- DECISIONS 38: by the live mode; the mode before decides the two transitions
unfoldable pub graphics_address : ℕ → ℕ → ℕ → ℕ → ℕ → ℕ → ℕ → ℕ
graphics_address mode old ptrs ch vc rc bank =
    ecm_fell (ecm old && not (ecm mode)) (bmm mode && (not (bmm old) || mcm mode)) bank
    (bmm_fell (bmm old && not (bmm mode)) ptrs vc rc bank (plain_address mode ptrs ch vc rc))

-- Bauer 3.7.3.9: 0x3FFF, under ECM 0x39FF, by the mode before (DECISIONS 38)
-- DECISIONS 39; departs, DIFFERENCES 11: 0x38FF in the cycle of a forced bad line's first access
unfoldable pub idle_address : ℕ → Bool → ℕ
idle_address old forced = cond forced 0x38FF (ecm_masked (ecm old) 0x3FFF)

unfoldable pub access_address : Bool → Bool → ℕ → ℕ → ℕ → ℕ → ℕ → ℕ → ℕ → ℕ
access_address moves forced mode old ptrs ch vc rc bank =
    cond moves (graphics_address mode old ptrs ch vc rc bank) (idle_address old forced)
