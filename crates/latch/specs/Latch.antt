-- The DEN latch over the ticks of line 0x30, whatever is written between them, and on every other line.
use Rattle.std.specs.Prelude.{ℕ, ◌<◌, ◌≡◌, Bool, false, not, ◌&&◌, ◌||◌, List, [], ◌∷◌, eqb, length}
use Rattle.schedule.specs.Kind.{kind_of, last_cycle}
use Rattle.registers.specs.declared.Controls.{Controls}
use Rattle.timing.specs.Beam.{next_cycle}
use Rattle.raster.specs.declared.Swept.{Swept}
use Rattle.raster.specs.Frame.{swept}
use Rattle.side.specs.declared.Side.{Side}
use Rattle.side.specs.Turn.{turned}

-- ticks, one after the other, each with the timing registers that it finds
unfoldable pub ran : List Controls → Side → Side
ran [] s = s
ran (g ∷ more) s = ran more (turned g s).side

-- DEN was set at some of them
unfoldable pub some_den : List Controls → Bool
some_den [] = false
some_den (g ∷ more) = g.den || some_den more

-- the next tick is the first of line 0x30, and no frame ends
pub record Before (s : Side) : Type 0 where
  pub cycle : s.beam.cycle ≡ last_cycle (kind_of s.beam.kind)
  pub raster : s.beam.raster ≡ 0x2F
  pub ending : s.frame.ending ≡ false

-- Bauer 3.5: "DEN was set during some cycle of line 0x30". After each tick of the line the latch is whether DEN was set at one of its ticks so far
abbrev pub WhetherDenWasSet : Type 0
WhetherDenWasSet =
    (s : Side) (g : Controls) (more : List Controls) → Before s → length more < last_cycle (kind_of s.beam.kind) → (ran (g ∷ more) s).beam.latch ≡ some_den (g ∷ more)

-- what the line and the frame do in a tick
abbrev pub sweep_of : Controls → Side → Swept
sweep_of g s = swept (kind_of s.beam.kind) s.frame s.irq (next_cycle (kind_of s.beam.kind) s.beam.cycle) s.beam.raster g.compare g.den s.beam.latch

-- 02 (ii): on every other line the latch stays as it was; the frame's end alone puts it off
abbrev pub OnlyTheFramesEnd : Type 0
OnlyTheFramesEnd =
    (g : Controls) (s : Side) → eqb (sweep_of g s).line 0x30 ≡ false → (turned g s).side.beam.latch ≡ (s.beam.latch && not (sweep_of g s).wraps)
