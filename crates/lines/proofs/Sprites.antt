-- The sprites over a line. Assumes nothing.
use Prim.Native.Nat.{ℕ}
use mathlib.Core.Path.{◌≡◌, refl}
use mathlib.Core.List.{List}
use Rattle.schedule.specs.Kind.{Kind, the6569, the6567_r8, last_cycle}
use Rattle.schedule.specs.Diagram.{happens, slot_sprite, pointer_time, data_time}
use Rattle.sprites.specs.declared.Sprites.{Sprites}
use Rattle.side.specs.Phases.{phased, step_at, first_at, second_at, load_at, slot_moved}
use Rattle.lines.specs.Sprites.{sprites_line}
use Rattle.lines.proofs.Through.{through, raster_in}

module _ (line raster : ℕ) (my : List ℕ) (enable yexp : ℕ) where
  abbrev pub phase : Kind → ℕ → Sprites → Sprites
  phase k c x = phased k c (raster_in line raster c) my enable yexp x

  abbrev pub sprite_step : Kind → ℕ → Sprites → Sprites
  sprite_step k c x = slot_moved (pointer_time k c) (data_time k c) (slot_sprite k c) (phase k c x)

  pub sprites_line_lem : (k : Kind) (s : Sprites) → through (sprite_step k) (last_cycle k) s ≡ sprites_line k raster my enable yexp s
  unfolding through happens phased step_at first_at second_at load_at slot_moved slot_sprite pointer_time data_time sprites_line
  sprites_line_lem the6569 s = refl
  sprites_line_lem the6567_r8 s = refl
