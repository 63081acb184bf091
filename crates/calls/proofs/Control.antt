-- 02 (vi): what a write of $D011 and of $D016 does, sentence by sentence, and that nothing else moves. Assumes nothing.
use Prim.Native.Nat.{ℕ, ◌+◌, ◌%◌}
use mathlib.Core.Path.{◌≡◌, refl, ap}
use mathlib.Core.Bool.{Bool, true, false, ◌||◌}
use native.Mathlib.Omega.{arith}
use borrow.Author.Tests.{eq-eqb, ne_eqb}
use Rattle.laws.proofs.Choice.{or_false, picks}
use Rattle.registers.specs.declared.Registers.{Registers}
use Rattle.registers.specs.Control.{RST8, ECM, BMM, RSEL, MCM, mode_number}
use Rattle.registers.specs.Registers.{control1_stored, control2_stored, line_by}
use Rattle.registers.specs.Set.{controls≔}
use Rattle.registers.specs.Irq.{triggered}
use Rattle.registers.proofs.Modes.{number_bits, bits_number}
use Rattle.raster.specs.declared.Compared.{Compared}
use Rattle.raster.specs.Set.{matched≔}
use Rattle.raster.proofs.Compare.{equal_raises, equal_stays, unequal_clears}
use Rattle.border.specs.Border.{compared}
use Rattle.border.specs.Set.{compares≔}
use Rattle.chip.specs.declared.Chip.{Chip}
use Rattle.calls.specs.Calls.{control_stored, control1_written, control2_written}

-- `$D011 stores ctrl1, sets bit 8 of the compare line`: these two, and no other register
module _ (c : Chip) (v : ℕ) where
  pub stored_1 : (control1_written c v).regs ≡ controls≔ v c.regs.ctrl2 (line_by v c.regs.compare) c.regs
  unfolding control1_written control_stored
  stored_1 = refl

  pub line_high : RST8 v ≡ true → (control1_written c v).regs.compare ≡ 256 + c.regs.compare % 256
  unfolding control1_written control_stored
  line_high e = rw (e, picks {A = ℕ} true 256 0)

  pub line_low : RST8 v ≡ false → (control1_written c v).regs.compare ≡ c.regs.compare % 256
  unfolding control1_written control_stored
  line_low e = rw (e, picks {A = ℕ} false 256 0) (omega arith)

  -- `chooses the border compares by RSEL`
  pub rows_25 : RSEL v ≡ true → (control1_written c v).side.border ≡ compares≔ 51 251 c.side.border
  unfolding control1_written control_stored compared
  rows_25 e = rw e

  pub rows_24 : RSEL v ≡ false → (control1_written c v).side.border ≡ compares≔ 55 247 c.side.border
  unfolding control1_written control_stored compared
  rows_24 e = rw e

  -- `compares the new line with the current raster`
  abbrev new_line : ℕ
  new_line = line_by v c.regs.compare

  pub raises : c.side.beam.raster ≡ new_line → c.side.frame.matched ≡ false
      → ((control1_written c v).side.irq ≡ triggered c.side.irq 1) × ((control1_written c v).side.frame ≡ matched≔ true c.side.frame)
  unfolding control1_written control_stored
  raises e m =
      let r = equal_raises c.side.frame c.side.irq c.side.beam.raster new_line e m in
      (ap (λ (d : Compared). d.irq) r, ap (λ (d : Compared). d.frame) r)

  pub raised_already : c.side.beam.raster ≡ new_line → c.side.frame.matched ≡ true
      → ((control1_written c v).side.irq ≡ c.side.irq) × ((control1_written c v).side.frame ≡ c.side.frame)
  unfolding control1_written control_stored
  raised_already e m =
      let r = equal_stays c.side.frame c.side.irq c.side.beam.raster new_line e m in
      (ap (λ (d : Compared). d.irq) r, ap (λ (d : Compared). d.frame) r)

  pub clears : (c.side.beam.raster ≡ new_line → ⊥)
      → ((control1_written c v).side.irq ≡ c.side.irq) × ((control1_written c v).side.frame ≡ matched≔ false c.side.frame)
  unfolding control1_written control_stored
  clears n =
      let r = unequal_clears c.side.frame c.side.irq c.side.beam.raster new_line n in
      (ap (λ (d : Compared). d.irq) r, ap (λ (d : Compared). d.frame) r)

  -- `$D016 stores ctrl2`, and the timing side stays
  pub stored_2 : (control2_written c v).regs ≡ controls≔ c.regs.ctrl1 v c.regs.compare c.regs
  unfolding control2_written control_stored
  stored_2 = refl

  pub side_2 : (control2_written c v).side ≡ c.side
  unfolding control2_written control_stored
  side_2 = refl

-- what either write leaves as it was, though the register is another: it waits for the tick
pub record Waits (before after : Chip) : Type 0 where
  -- the bad line, the controls as latched and the BA output, with the cycle and the raster line
  pub beam : after.side.beam ≡ before.side.beam
  -- the display state, the transition, the character access, and the counters of the row
  pub rows : after.side.rows ≡ before.side.rows
  pub pending : after.side.pending ≡ before.side.pending
  pub sprites : after.side.sprites ≡ before.side.sprites
  pub bus : after.side.bus ≡ before.side.bus
  pub irq_changed : after.side.changed ≡ before.side.changed
  -- the mode of the last tick, the mode before it, the forced clock
  pub mode : after.picture.pen.mode ≡ before.picture.pen.mode
  pub previous : after.picture.pen.old ≡ before.picture.pen.old
  pub forced : after.picture.pen.forced ≡ before.picture.pen.forced
  -- what was fetched
  pub character : after.picture.pen.ch ≡ before.picture.pen.ch
  pub carry : after.picture.pen.carry ≡ before.picture.pen.carry
  pub graphics : after.picture.pen.gfx ≡ before.picture.pen.gfx
  pub matrix : after.picture.matrix ≡ before.picture.matrix
  pub pointers : after.picture.pointers ≡ before.picture.pointers
  pub bytes : after.picture.bytes ≡ before.picture.bytes
  pub words : after.picture.words ≡ before.picture.words

module _ (c : Chip) (v : ℕ) where
  pub waits_1 : Waits c (control1_written c v)
  unfolding control1_written control_stored
  waits_1 = record { beam = refl; rows = refl; pending = refl; sprites = refl; bus = refl; irq_changed = refl; mode = refl; previous = refl; forced = refl; character = refl; carry = refl; graphics = refl; matrix = refl; pointers = refl; bytes = refl; words = refl }

  pub waits_2 : Waits c (control2_written c v)
  unfolding control2_written control_stored
  waits_2 = record { beam = refl; rows = refl; pending = refl; sprites = refl; bus = refl; irq_changed = refl; mode = refl; previous = refl; forced = refl; character = refl; carry = refl; graphics = refl; matrix = refl; pointers = refl; bytes = refl; words = refl }

-- `Either write sets the mode-changing flag when a mode bit changed`, leaves it otherwise, and so never clears it
set_is_set : (flag : Bool) → (flag || true) ≡ true
set_is_set true = refl
set_is_set false = refl

module _ (c : Chip) (g : Registers) where
  flag_kept : c.picture.pen.changing ≡ true → (control_stored c g).picture.pen.changing ≡ true
  unfolding control_stored
  flag_kept e = rw e

  flag_set : (mode_number c.regs.ctrl1 c.regs.ctrl2 ≡ mode_number g.ctrl1 g.ctrl2 → ⊥) → (control_stored c g).picture.pen.changing ≡ true
  unfolding control_stored
  flag_set n = rw (ne_eqb _ _ n) (set_is_set c.picture.pen.changing)

  flag_stays : mode_number c.regs.ctrl1 c.regs.ctrl2 ≡ mode_number g.ctrl1 g.ctrl2 → (control_stored c g).picture.pen.changing ≡ c.picture.pen.changing
  unfolding control_stored
  flag_stays e = rw (eq-eqb _ _ e) (or_false c.picture.pen.changing)

module _ (c : Chip) (v : ℕ) where
  pub flag_1_set : ((ECM c.regs.ctrl1 ≡ ECM v) × (BMM c.regs.ctrl1 ≡ BMM v) → ⊥) → (control1_written c v).picture.pen.changing ≡ true
  unfolding control1_written
  flag_1_set n =
      flag_set c (control1_stored c.regs v)
      (λ e. let s = number_bits c.regs.ctrl1 c.regs.ctrl2 v c.regs.ctrl2 e in n (s.ecm, s.bmm))

  pub flag_1_stays : ECM c.regs.ctrl1 ≡ ECM v → BMM c.regs.ctrl1 ≡ BMM v → (control1_written c v).picture.pen.changing ≡ c.picture.pen.changing
  unfolding control1_written
  flag_1_stays e b =
      flag_stays c (control1_stored c.regs v) (bits_number c.regs.ctrl1 c.regs.ctrl2 v c.regs.ctrl2 (record { ecm = e; bmm = b; mcm = refl }))

  pub flag_1_kept : c.picture.pen.changing ≡ true → (control1_written c v).picture.pen.changing ≡ true
  unfolding control1_written
  flag_1_kept e = flag_kept c (control1_stored c.regs v) e

  pub flag_2_set : (MCM c.regs.ctrl2 ≡ MCM v → ⊥) → (control2_written c v).picture.pen.changing ≡ true
  unfolding control2_written
  flag_2_set n =
      flag_set c (control2_stored c.regs v)
      (λ e. n (number_bits c.regs.ctrl1 c.regs.ctrl2 c.regs.ctrl1 v e).mcm)

  pub flag_2_stays : MCM c.regs.ctrl2 ≡ MCM v → (control2_written c v).picture.pen.changing ≡ c.picture.pen.changing
  unfolding control2_written
  flag_2_stays m =
      flag_stays c (control2_stored c.regs v) (bits_number c.regs.ctrl1 c.regs.ctrl2 c.regs.ctrl1 v (record { ecm = refl; bmm = refl; mcm = m }))

  pub flag_2_kept : c.picture.pen.changing ≡ true → (control2_written c v).picture.pen.changing ≡ true
  unfolding control2_written
  flag_2_kept e = flag_kept c (control2_stored c.regs v) e
