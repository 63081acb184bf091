-- What holds of an accepted state's timing side (01, States we accept; 02 (iv), 02 (xi)).
use Rattle.std.specs.Prelude.{ℕ, ◌≤◌, ◌≡◌, true}
use Rattle.laws.specs.Clock.{InRange}
use Rattle.schedule.specs.Kind.{known, kind_of, last_cycle, last_line}
use Rattle.sprites.specs.Fine.{FineSprites}
use Rattle.arbitration.specs.Bus.{Counted}
use Rattle.rows.specs.Pending.{Pends}
use Rattle.rows.specs.Fine.{FineRows}
use Rattle.side.specs.declared.Side.{Side}

pub record FineSide (s : Side) : Type 0 where
  pub kind : known s.beam.kind ≡ true
  pub first : 1 ≤ s.beam.cycle
  pub last : s.beam.cycle ≤ last_cycle (kind_of s.beam.kind)
  pub raster : s.beam.raster ≤ last_line (kind_of s.beam.kind)
  pub aec : Counted s.bus.aec
  pub rows : FineRows s.beam.cycle s.rows
  pub sprites : FineSprites s.sprites
  pub place : Pends s.pending.place
  pub clock : InRange s.bus.clock
  pub lost : s.bus.lost ≤ s.beam.cycle
