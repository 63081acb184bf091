-- The block question and the read agree byte for byte, and where a block turns from RAM to ROM. Assumes nothing.
use mathlib.Core.Path.{◌≡◌, refl, sym, ◌∙◌, ap}
use mathlib.Core.Bool.{Bool, true, false, ◌&&◌, ◌||◌, cond}
use mathlib.Core.List.{List}
use Prim.Native.Nat.{ℕ, ◌+◌, ◌-◌, ◌*◌, ◌/◌, ◌%◌, ◌≤◌, ◌<◌}
use native.Mathlib.Omega.{arith}
use lib.Dec.{eqb, ltb}
use lib.ListN.{length, get_or}
use lib.Seq.{get_or-take, get_or-drop}
use borrow.Author.Tests.{eqb-true, ltb-false, le-ltb}
use Rattle.laws.proofs.Choice.{passed}
use Rattle.memory.specs.Memory.{Lent, in_rom, read_at, block_refusal, block_of}
use Rattle.memory.proofs.Page.{page, from_1000}

-- what is lent whole, in a bank that there is, is never refused
pub not_refused : (ram rom : List ℕ) (bank : ℕ) → Lent ram rom → bank ≤ 3 → block_refusal ram rom bank ≡ 0
unfolding block_refusal
not_refused ram rom bank lent b = simp (lent.whole_ram, lent.whole_rom, le-ltb 3 bank b)

-- and where nothing is refused, all is lent whole, in a bank that there is
no_bank_above : (b : Bool) → ◌≡◌ {A = ℕ} (cond b 2 0) 0 → b ≡ false
no_bank_above true e = absurd (omega arith)
no_bank_above false e = refl

module _ (ram rom : List ℕ) (bank : ℕ) (e : block_refusal ram rom bank ≡ 0) where
  roms : (eqb (length ram) 16384 ≡ true) × (◌≡◌ {A = ℕ} (cond (eqb (length rom) 4096) (cond (ltb 3 bank) 2 0) 1) 0)
  unfolding block_refusal
  roms = passed (eqb (length ram) 16384) _ e

  banks : (eqb (length rom) 4096 ≡ true) × (◌≡◌ {A = ℕ} (cond (ltb 3 bank) 2 0) 0)
  banks = passed (eqb (length rom) 4096) _ roms.1

  pub unrefused_lent : Lent ram rom
  unrefused_lent = record { whole_ram = eqb-true (length ram) 16384 roms.0; whole_rom = eqb-true (length rom) 4096 banks.0 }

  pub unrefused_bank : bank ≤ 3
  unrefused_bank = ltb-false 3 bank (no_bank_above (ltb 3 bank) banks.1)

-- 64 addresses from a multiple of 64 on lie in one page
one_page : (bank pointer i : ℕ) → i < 64 → in_rom bank (pointer * 64 + i) ≡ in_rom bank (pointer * 64)
unfolding in_rom
one_page bank pointer i h =
    let same : (pointer * 64 + i) / 4096 ≡ pointer * 64 / 4096 = omega arith in
    ap (λ (t : Bool). (eqb bank 0 || eqb bank 2) && t)
    (sym (page (pointer * 64 + i)) ∙ ap (λ (n : ℕ). eqb n 1) same ∙ page (pointer * 64))

module _ (ram rom : List ℕ) (bank pointer i : ℕ) (lent : Lent ram rom) (b : bank ≤ 3) (p : pointer < 256) (h : i < 64) where
  by_window : (t : Bool) → in_rom bank (pointer * 64) ≡ t
      → get_or (block_of ram rom pointer bank) i 0 ≡ (read_at ram rom bank (pointer * 64 + i)).byte
  unfolding block_of read_at
  by_window true e =
      let low : 0x1000 ≤ pointer * 64 = from_1000 bank (pointer * 64) e in
      let at : (pointer * 64 + i) % 0x4000 ≡ pointer * 64 + i = omega arith in
      let place : pointer * 64 - 0x1000 + i ≡ pointer * 64 + i - 0x1000 = omega arith in
      simp (not_refused ram rom bank lent b, at, one_page bank pointer i h, e, get_or-take, get_or-drop, place)
  by_window false e =
      let at : (pointer * 64 + i) % 0x4000 ≡ pointer * 64 + i = omega arith in
      simp (not_refused ram rom bank lent b, at, one_page bank pointer i h, e, get_or-take, get_or-drop)

  -- 01, Memory: each of the 64 bytes is the one that the chip reads there
  pub block_reads : get_or (block_of ram rom pointer bank) i 0 ≡ (read_at ram rom bank (pointer * 64 + i)).byte
  block_reads = by_window (in_rom bank (pointer * 64)) refl

-- 01, Memory: pointers 64 to 127 in bank 0 show ROM; 63 and 128 show RAM
pub record Edges : Type 0 where
  pub before : in_rom 0 (63 * 64) ≡ false
  pub first : in_rom 0 (64 * 64) ≡ true
  pub last : in_rom 0 (127 * 64) ≡ true
  pub after : in_rom 0 (128 * 64) ≡ false

pub edges : Edges
unfolding in_rom
edges = record { before = refl; first = refl; last = refl; after = refl }
