-- Where the ROM shows, by page and by address, and what a block question's answer 0 says. Assumes nothing.
use mathlib.Core.Path.{◌≡◌, refl}
use mathlib.Core.Bool.{Bool, true, false, ◌&&◌, ◌||◌, cond}
use mathlib.Core.List.{List}
use Prim.Native.Nat.{ℕ, ◌-◌, ◌/◌, ◌%◌, ◌≤◌, ◌<◌}
use native.Mathlib.Omega.{arith}
use native.Mathlib.Decide.{dec_lt}
use lib.Dec.{eqb, leb, ltb}
use lib.ListN.{length}
use borrow.Author.Tests.{eq-eqb, ne_eqb, le-leb, lt-leb, leb-true, eqb-true, ltb-false}
use Rattle.laws.proofs.Choice.{left, right}
use Rattle.memory.specs.Memory.{in_rom, block_refusal}

-- the second page of 4,096 addresses is 0x1000 to 0x1FFF
pub page : (a : ℕ) → eqb (a / 4096) 1 ≡ (leb 0x1000 a && leb a 0x1FFF)
page a = by_order (dec_lt a 0x1000) (dec_lt 0x1FFF a)
  where
    by_order : Dec (a < 0x1000) → Dec (0x1FFF < a) → eqb (a / 4096) 1 ≡ (leb 0x1000 a && leb a 0x1FFF)
    by_order (yes h) d = simp (lt-leb 0x1000 a h, ne_eqb (a / 4096) 1 (λ e. omega arith))
    by_order (no h) (yes g) =
        simp (le-leb 0x1000 a (omega arith), lt-leb a 0x1FFF g, ne_eqb (a / 4096) 1 (λ e. omega arith))
    by_order (no h) (no g) =
        simp (le-leb 0x1000 a (omega arith), le-leb a 0x1FFF (omega arith), eq-eqb (a / 4096) 1 (omega arith))

module _ (bank a : ℕ) (e : in_rom bank a ≡ true) where
  window : (leb 0x1000 a && leb a 0x1FFF) ≡ true
  unfolding in_rom
  window = right (eqb bank 0 || eqb bank 2) (leb 0x1000 a && leb a 0x1FFF) e

  pub from_1000 : 0x1000 ≤ a
  from_1000 = leb-true 0x1000 a (left (leb 0x1000 a) (leb a 0x1FFF) window)

  pub to_1_fff : a ≤ 0x1FFF
  to_1_fff = leb-true a 0x1FFF (right (leb 0x1000 a) (leb a 0x1FFF) window)

  -- an address that shows ROM, counted from the ROM's first byte
  pub in_page : a % 4096 ≡ a - 0x1000
  in_page = omega (arith, from_1000, to_1_fff)

fine : (a b d : Bool) → ◌≡◌ {A = ℕ} (cond a (cond b (cond d 2 0) 1) 1) 0 → (a ≡ true) × (b ≡ true) × (d ≡ false)
fine true true true e = absurd (omega arith)
fine true true false e = (refl, refl, refl)
fine true false d e = absurd (omega arith)
fine false b d e = absurd (omega arith)

-- answer 0: both lengths and the bank are right
module _ (ram rom : List ℕ) (bank : ℕ) (e : block_refusal ram rom bank ≡ 0) where
  accepted : (eqb (length ram) 16384 ≡ true) × (eqb (length rom) 4096 ≡ true) × (ltb 3 bank ≡ false)
  unfolding block_refusal
  accepted = fine (eqb (length ram) 16384) (eqb (length rom) 4096) (ltb 3 bank) e

  pub ram_long : length ram ≡ 16384
  ram_long = eqb-true (length ram) 16384 accepted.0

  pub rom_long : length rom ≡ 4096
  rom_long = eqb-true (length rom) 4096 accepted.1

  pub bank_small : bank ≤ 3
  bank_small = ltb-false 3 bank accepted.2
