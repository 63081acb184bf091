-- Ticks of a run that need not be done one by one: each leaves only its own byte and what it counts, and the next takes their place.
use Rattle.std.specs.Prelude.{ℕ, ◌-◌, Bool, not, ◌&&◌, ◌||◌, cond, eqb, leb, ltb}
use Rattle.registers.specs.declared.Registers.{Registers}
use Rattle.registers.specs.Control.{YSCROLL}
use Rattle.schedule.specs.Diagram.{last_of, character_access, left38}
use Rattle.side.specs.Machinery.Leap.{only_counts, leapt}
use Rattle.engine.specs.declared.Core.{Core}
use Rattle.world.specs.World.{World}

-- the timing side only counts, no change of mode is pending, and no access merges: output shut off, idle, or not in row 0
unfoldable pub skippable_by : Registers → Core → Bool
skippable_by g c =
    only_counts (YSCROLL g.ctrl1) c.side
    && not c.pen.changing
    && (c.side.border.disabled || not c.side.rows.display || not (eqb c.side.rows.rc 0))

-- from where the left compares are over to before the last character access
abbrev pub counted_from : ℕ
counted_from = last_of left38

abbrev pub counted_to : ℕ
counted_to = last_of character_access - 1

-- up to the last of them or of those left; the last is done
unfoldable pub skipped : Bool → ℕ → ℕ → ℕ
skipped able cycle left =
    cond (able && leb counted_from cycle && leb cycle (counted_to - 1)) (cond (ltb (counted_to - cycle) left) (counted_to - cycle) (left - 1)) 0

abbrev pub core_later : ℕ → Core → Core
core_later k c = record { side = leapt k c.side; pen = c.pen }

abbrev pub world_later : ℕ → World → World
world_later k w = record { side = leapt k w.side; pen = w.pen; matrix = w.matrix; pointers = w.pointers; bytes = w.bytes; words = w.words }
