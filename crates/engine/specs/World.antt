-- What a tick or a line changes, as the code holds it: the two sides in one struct, the picture's arrays beside it.
use Rattle.std.specs.Prelude.{ℕ, ◌+◌, ◌*◌, ◌≤◌, ◌≡◌, List, ℤ, pos, negsuc}
use Rattle.laws.specs.Clock.{last_clock, InRange}
use Rattle.schedule.specs.Kind.{kind_of, last_cycle}
use Rattle.side.specs.Fine.{FineSide}
use Rattle.world.specs.World.{World}
use Rattle.engine.specs.declared.Core.{Core}
use Rattle.engine.specs.declared.Arrays.{Arrays}

abbrev pub world : Core → List ℕ → List ℕ → List ℕ → List ℕ → World
world c matrix pointers bytes words =
    record { side = c.side; pen = c.pen; matrix = matrix; pointers = pointers; bytes = bytes; words = words }

-- with the arrays in their struct
abbrev pub world_in : Core → Arrays → World
world_in c a = world c a.matrix a.slots.pointers a.slots.bytes a.slots.words

-- a clock that n ticks leave in range
abbrev pub Takes : ℕ → ℤ → Type 0
Takes n (pos c) = c + 2 * n ≤ last_clock
Takes n (negsuc c) = ⊥

-- what a line may lean on: a state as we accept it at the last cycle of its line, and a clock that takes the line
pub record Begins (w : World) : Type 0 where
  pub side : FineSide w.side
  pub cycle : w.side.beam.cycle ≡ last_cycle (kind_of w.side.beam.kind)
  pub clock : Takes (last_cycle (kind_of w.side.beam.kind)) w.side.bus.clock
  pub forced : InRange w.pen.forced
