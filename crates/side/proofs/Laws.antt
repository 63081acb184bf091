-- What callers may know of a turn without opening it. Assumes nothing.
use mathlib.Core.Path.{◌≡◌, sym, ◌∙◌}
use mathlib.Core.Bool.{true, false}
use Prim.Native.Nat.{◌<◌}
use Rattle.schedule.specs.Machinery.Stretches.{before_graphics}
use Rattle.schedule.proofs.Laws.{slot_small}
use Rattle.schedule.proofs.Parts.{slotless}
use Rattle.registers.specs.declared.Controls.{Controls}
use Rattle.timing.proofs.Kept.{before_graphics_lem}
use Rattle.rows.specs.Rows.{rowed}
use Rattle.side.specs.declared.Side.{Side}
use Rattle.side.specs.Turn.{turned}

-- a slot is one of eight sprites'
pub slot_of_eight : (g : Controls) (s : Side) → (turned g s).orders.sprite < 8
unfolding turned
slot_of_eight g s = slot_small _ _

-- with a graphics access there is no slot, and without one none is ordered
module _ (g : Controls) (s : Side) where
  pub lit_pointing : before_graphics s.beam.cycle ≡ true → (turned g s).orders.pointing ≡ false
  unfolding turned
  lit_pointing e = (slotless _ _ (sym (before_graphics_lem _ s.beam.cycle) ∙ e)).pointing

  pub lit_fetching : before_graphics s.beam.cycle ≡ true → (turned g s).orders.fetching ≡ false
  unfolding turned
  lit_fetching e = (slotless _ _ (sym (before_graphics_lem _ s.beam.cycle) ∙ e)).fetching

  pub dark_graphics : before_graphics s.beam.cycle ≡ false → (turned g s).orders.graphics ≡ false
  unfolding turned rowed
  dark_graphics e = sym (before_graphics_lem _ s.beam.cycle) ∙ e
