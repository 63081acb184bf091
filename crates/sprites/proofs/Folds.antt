-- A turn of a loop over the sprites. Assumes nothing.
use mathlib.Core.Path.{◌≡◌, ◌∙◌, ap, ap₂}
use mathlib.Core.Bool.{Bool, ◌&&◌}
use Prim.Native.Nat.{ℕ, ◌+◌}
use native.Mathlib.Numerals.{add-one}
use Rattle.sprites.specs.declared.Sprites.{Sprites}
use Rattle.sprites.specs.Sprites.{sprite_at, up_to}
use Rattle.sprites.specs.Fine.{fine_one, fine_test}

pub turn : (one : ℕ → Sprites → Sprites) (k : ℕ) (first : Sprites) {s t : Sprites} → t ≡ one k s → s ≡ up_to one k first → t ≡ up_to one (k + 1) first
unfolding up_to
turn one k first e before = rw add-one (e ∙ ap (one k) before)

pub turn_test : (k : ℕ) (s : Sprites) {t r : Bool} → r ≡ fine_one k (sprite_at s k) → t ≡ fine_test k s → (t && r) ≡ fine_test (k + 1) s
unfolding fine_test
turn_test k s e before = rw add-one (ap₂ ◌&&◌ before e)
