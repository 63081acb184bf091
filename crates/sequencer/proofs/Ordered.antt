-- The orders of a turn follow the diagram, so that what a tick reads goes by the table beside it. Assumes nothing.
use mathlib.Core.Path.{◌≡◌, refl, sym, ◌∙◌}
use mathlib.Core.Bool.{Bool, true, false, ◌&&◌}
use Prim.Native.Nat.{ℕ}
use borrow.Author.Tests.{le-leb}
use Rattle.schedule.specs.Kind.{Kind, kind_of, last_cycle}
use Rattle.schedule.specs.Diagram.{happens, character_access, on_line}
use Rattle.schedule.specs.Machinery.Stretches.{before_graphics}
use Rattle.registers.specs.declared.Controls.{Controls}
use Rattle.timing.specs.Beam.{next_cycle}
use Rattle.timing.proofs.Kept.{cycle_low, cycle_high, before_graphics_lem}
use Rattle.rows.specs.Rows.{rowed}
use Rattle.side.specs.declared.Side.{Side}
use Rattle.side.specs.Turn.{turned}
use Rattle.picture.proofs.Told.{Follows}

twice : (a b c : Bool) → (a && ((a && b) && c)) ≡ ((a && b) && c)
twice true b c = refl
twice false b c = refl

next_on_line : (k : Kind) (c : ℕ) → on_line k (next_cycle k c) ≡ true
next_on_line k c = rw (le-leb (next_cycle k c) (last_cycle k) (cycle_high k c), le-leb 1 (next_cycle k c) (cycle_low k c))

pub follows : (g : Controls) (s : Side) → Follows (kind_of s.beam.kind) (turned g s).orders
unfolding turned rowed
follows g s = record {
  line = next_on_line (kind_of s.beam.kind) s.beam.cycle;
  graphics = refl;
  pointing = refl;
  fetching = refl;
  sprite = refl;
  fills = twice (happens character_access (turned g s).orders.cycle) (turned g s).side.rows.access (turned g s).side.bus.aeclow;
}

pub lit_graphics : (g : Controls) (s : Side) → before_graphics s.beam.cycle ≡ true → (turned g s).orders.graphics ≡ true
unfolding turned rowed
lit_graphics g s e = sym (before_graphics_lem _ s.beam.cycle) ∙ e
